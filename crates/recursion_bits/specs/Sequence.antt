-- The sequence of nine stages as a recursion over bits. Place 8 is the newest bit.
--   sequence_entry y i j   the entry of the symbol y at the places i and j: 1 in the two cases below, 0 in all others
use Rattle.std.specs.Prelude.{ℕ, ◌+◌, Bool, ◌&&◌, ◌||◌, ◌==◌, nat_lt}

unfoldable pub sequence_entry : ℕ → ℕ → ℕ → Bool
sequence_entry y i j =
    -- 0 is the only symbol
    (y == 0)
    -- j at most 7, i is j + 1
    && ((nat_lt j 8 && i == j + 1)
    -- j is 8, i is 0 or 4
    || (j == 8 && (i == 0 || i == 4)))
