-- Each example holds by computation, the register by its shifts.
use Rattle.std.proofs.Common.{ℕ, zero, suc, ◌*◌, [], replicate, refl, ap, ◌∙◌, arith}
use lib.Bits.{bit_xor}
use Rattle.algebra_scalars.specs.CountsLemmas.{residue_same, times_residue}
use Rattle.refusal.specs.Questions.{least}
use Rattle.plan.specs.Asks.{tally, peak, top}
use Rattle.run_check.specs.Shift.{shifted}
use Rattle.run_check.proofs.Weights.{register_value_is, check_value_is}
use Rattle.run_check.proofs.Questions.{Bits}
use Rattle.algebra.specs.Sums.{at}
use Rattle.examples.proofs.Shifts.{newest_is}
use Rattle.examples.proofs.examples_hold.Goals as goal

zeros_are_bits : (n : ℕ) → Bits (replicate n 0)
zeros_are_bits zero = tt
zeros_are_bits (suc n) = (omega arith, zeros_are_bits n)

pub returns : goal.returns
unfolding least tally peak top shifted at
returns c = record {
  survivors_join = refl;
  too_long = refl;
  counts_wrap = times_residue 65536 65536 ∙ residue_same (65536 * 65536) 0 refl;
  empty_check = check_value_is [] tt ∙ ap (λ r. bit_xor r 0xFFFFFFFF) (register_value_is [] tt);
  zeros_register = register_value_is (replicate 32 0) (zeros_are_bits 32);
  sequence_starts = rw (newest_is 1, newest_is 2, newest_is 3, newest_is 4, newest_is 5, newest_is 6, newest_is 7, newest_is 8, newest_is 9, newest_is 10, newest_is 11);
  unknown_letter = λ n. (_, refl, refl, refl);
  join_of_one = λ n. (_, refl, refl, refl);
  apply_of_two = λ n. (_, refl, refl, refl);
  left_standing = (_, refl, refl, refl);
}
