-- A single step moves each bit down a place, and the newest is the exclusive or of the bits at places 0 and 4.
use Rattle.std.proofs.Common.{◌≡◌, ℕ, suc, ◌<◌, Bool, true, false, ◌&&◌, refl, ap, ◌∙◌, ap₂, arith}
use Rattle.std.proofs.lemmas.Bool.Decides.{nat_tests}
use Rattle.algebra.proofs.Only.{sum_only, sum_two}
use Rattle.algebra_scalars.specs.Bits.{xor, bit_ops}
use Rattle.algebra_scalars.specs.BitsLemmas.{bit_laws}
use Rattle.recursion.specs.Steps.{stepped}
use Rattle.recursion_bits.specs.Sequence.{sequence_entry}

entry_down : (j : ℕ) → j < 8 → sequence_entry 0 (suc j) j ≡ true
unfolding sequence_entry
entry_down j h = grind (arith, nat_tests)

entry_not_down : (i j : ℕ) → j < 8 → (i ≡ suc j → ⊥) → sequence_entry 0 i j ≡ false
unfolding sequence_entry
entry_not_down i j h n = grind (arith, nat_tests)

entry_not_tap : (i : ℕ) → (i ≡ 0 → ⊥) → (i ≡ 4 → ⊥) → sequence_entry 0 i 8 ≡ false
unfolding sequence_entry
entry_not_tap i n m = grind (arith, nat_tests)

module _ (v : ℕ → Bool) where
  times_one : (i j : ℕ) → sequence_entry 0 i j ≡ true → (v i && sequence_entry 0 i j) ≡ v i
  times_one i j e = ap (λ x. v i && x) e ∙ bit_laws.mul-one (v i)

  times_zero : (i j : ℕ) → sequence_entry 0 i j ≡ false → (v i && sequence_entry 0 i j) ≡ false
  times_zero i j e = ap (λ x. v i && x) e ∙ bit_laws.mul-zero (v i)

  pub step_down : (j : ℕ) → j < 8 → stepped bit_ops 9 v (sequence_entry 0) j ≡ v (suc j)
  step_down j h = sum_only bit_ops bit_laws 9 (suc j) _ (omega arith) (λ i q n. times_zero i j (entry_not_down i j h n)) ∙ times_one (suc j) j (entry_down j h)

  pub step_newest : stepped bit_ops 9 v (sequence_entry 0) 8 ≡ xor (v 0) (v 4)
  unfolding sequence_entry
  step_newest =
      sum_two bit_ops bit_laws 9 0 4 _ (omega arith) (omega arith) (λ i q n m. times_zero i 8 (entry_not_tap i n m))
      ∙ ap₂ xor (times_one 0 8 refl) (times_one 4 8 refl)
