-- The check register as a number of 32 bits.
--   shifted r b    r one place down, with the polynomial added where its lowest place and the bit b differ
--   shifts r bits  r after the bits, first to last
use Rattle.std.specs.Prelude.{ℕ, ◌/◌, ◌%◌, cond, List, fold, ◌==◌, bit_xor}
use Rattle.recursion_bits.specs.Register.{polynomial}

unfoldable pub shifted : ℕ → ℕ → ℕ
shifted r b = cond (bit_xor r b % 2 == 1) (bit_xor (r / 2) polynomial) (r / 2)

abbrev pub shifts : ℕ → List ℕ → ℕ
shifts = fold shifted
