-- A shifted register stays below 2^32.
use Rattle.std.proofs.Common.{ℕ, ◌/◌, ◌%◌, ◌^◌, ◌<◌, Bool, true, false, cond, eqb, List, [], ◌∷◌, arith, lit<}
use lib.Bits.{bit_xor, xor_lt}
use Rattle.recursion_bits.specs.Register.{polynomial}
use Rattle.run_check.specs.Shift.{shifted, shifts}

cond_lt : (t : Bool) (a : ℕ) → a < 2 ^ 31 → cond t (bit_xor a polynomial) a < 2 ^ 32
cond_lt true a h = xor_lt 32 a polynomial (omega arith) (lit< tt)
cond_lt false a h = omega arith

pub shifted_lt : (r b : ℕ) → r < 2 ^ 32 → shifted r b < 2 ^ 32
unfolding shifted
shifted_lt r b h = cond_lt (eqb (bit_xor r b % 2) 1) (r / 2) (omega arith)

pub shifts_lt : (r : ℕ) (bits : List ℕ) → r < 2 ^ 32 → shifts r bits < 2 ^ 32
shifts_lt r [] h = h
shifts_lt r (b ∷ bits) h = shifts_lt (shifted r b) bits (shifted_lt r b h)
