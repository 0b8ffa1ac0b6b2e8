-- Copying the bits one place down and writing the newest is a single step.
use Rattle.std.proofs.Common.{◌≡◌, ℕ, suc, ◌+◌, ◌<◌, ◌≤◌, false, List, length, take, drop, set, sym, ap, ◌∙◌, inl, inr, arith, length-drop}
use Rattle.std.specs.List.{copy_within}
use Rattle.std.proofs.lemmas.List.{drop-set-lt, length-take-le}
use Rattle.std.proofs.lemmas.List.Edits.{drop-paste}
use Rattle.std.proofs.lemmas.Bool.{cases_eq}
use Rattle.algebra.proofs.Places.{at_set_same, at_set_other, at_append_left, at_part}
use Rattle.algebra_scalars.specs.Bits.{xor, bit_ops}
use Rattle.algebra_scalars.specs.declared.bit.Bit.{Bit}
use Rattle.recursion.specs.Steps.{stepped}
use Rattle.recursion_bits.specs.Sequence.{sequence_entry}
use Rattle.run_sequence.specs.Sequence.{bit_at}
use Rattle.run_sequence.proofs.Places.{same_rest}
use Rattle.run_sequence.proofs.Columns.{step_down, step_newest}

module _ (start state : List Bit) (long : 9 ≤ length start) (copied : state ≡ copy_within start 1 9 0) where
  eight : 8 ≤ length (drop 1 start)
  eight = omega (arith, length-drop 1 start)

  -- each place below the newest holds what stood one place up
  moved : (j : ℕ) → j < 8 → bit_at state j ≡ bit_at start (suc j)
  moved j h =
      let whole = length-take-le 8 (drop 1 start) eight in
      let up : 1 + j ≡ suc j = omega arith in
      ap (λ xs. bit_at xs j) copied ∙ at_append_left false (λ b. b.0) (take 8 (drop 1 start)) (drop 8 start) j (omega arith) ∙ at_part false (λ b. b.0) 1 8 start j h ∙ ap (bit_at start) up

  pub rest_kept : (newest : Bit) → drop 9 (set state 8 newest) ≡ drop 9 start
  rest_kept newest = drop-set-lt 9 state 8 newest (omega arith) ∙ same_rest 8 9 state start (omega arith) (ap (drop 8) copied ∙ drop-paste start 0 (drop 1 start) 8 (omega arith) eight)

  pub step_made : (newest : Bit) → 9 ≤ length state → newest.0 ≡ xor (bit_at start 0) (bit_at start 4) → (j : ℕ) → j < 9 → bit_at (set state 8 newest) j ≡ stepped bit_ops 9 (bit_at start) (sequence_entry 0) j
  step_made newest same is j h =
      elim (cases_eq j 8) [
        | inl e ↦ ap (bit_at _) e ∙ at_set_same false (λ b. b.0) state 8 newest (omega arith) ∙ is ∙ sym (step_newest (bit_at start)) ∙ ap (stepped bit_ops 9 (bit_at start) (sequence_entry 0)) (sym e)
        | inr ne ↦ at_set_other false (λ b. b.0) state 8 j newest ne ∙ moved j (omega arith) ∙ sym (step_down (bit_at start) j (omega arith))
      ]
