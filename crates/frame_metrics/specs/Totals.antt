-- How many rows there may be, and what a block adds to a total.
--   most_rows                  the most rows that may be written
--   most_cost                  what one block adds to a total at most: a cost has 16 bits
--   has_room rows d room n     whether n more rows of d states, with `rows` that are written, are not too many and fit a store of `room`
--                              words
--   selection_allowed rows d symbols survivors room
--                              whether d is at most 64, a block of so many symbols at most 32 long and its matrix of the size d, and there
--                              is room for one row
use Rattle.std.specs.Prelude.{ℕ, ◌+◌, ◌*◌, Bool, ◌&&◌, ◌==◌, nat_le}

abbrev pub most_rows : ℕ
most_rows = 4096

abbrev pub most_cost : ℕ
most_cost = 65535

abbrev pub has_room : ℕ → ℕ → ℕ → ℕ → Bool
has_room rows d room n = nat_le (rows + n) most_rows && nat_le ((rows + n) * (1 + d)) room

abbrev pub selection_allowed : ℕ → ℕ → ℕ → ℕ → ℕ → Bool
selection_allowed rows d symbols survivors room = nat_le d 64 && (nat_le symbols 32 && (survivors == d * d && has_room rows d room 1))
