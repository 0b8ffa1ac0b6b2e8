-- A single step more gives the next stages.
use Rattle.std.proofs.Common.{◌≡◌, ℕ, zero, suc, ◌+◌, ◌<◌, List, replicate, sym, refl, ap, ◌∙◌, add-one}
use Rattle.algebra.specs.Laws.{Ops}
use Rattle.algebra.proofs.Sums.{sum_cong, mul_both}
use Rattle.algebra_scalars.specs.Bits.{bit_ops}
use Rattle.algebra_scalars.specs.declared.bit.Bit.{Bit}
use Rattle.recursion.specs.Steps.{stepped, steps}
use Rattle.recursion_bits.specs.Sequence.{sequence_entry}
use Rattle.run_sequence.specs.Sequence.{bit_at, stages}

-- a step after k of the same symbol
step_after : {V : Type 0} (o : Ops V) (d : ℕ) (e : ℕ → ℕ → ℕ → V) (y k : ℕ) (v : ℕ → V) (j : ℕ)
    → steps o d e (replicate (suc k) y) v j ≡ stepped o d (steps o d e (replicate k y) v) (e y) j
step_after o d e y zero v j = refl
step_after o d e y (suc k) v j = step_after o d e y k (stepped o d v (e y)) j

pub stages_none : (start : List Bit) (j : ℕ) → bit_at start j ≡ stages start 0 j
unfolding stages
stages_none start j = refl

pub stages_more : (start was is : List Bit) (k : ℕ) → ((j : ℕ) → j < 9 → bit_at was j ≡ stages start k j)
    → ((j : ℕ) → j < 9 → bit_at is j ≡ stepped bit_ops 9 (bit_at was) (sequence_entry 0) j) → (j : ℕ) → j < 9 → bit_at is j ≡ stages start (k + 1) j
unfolding stages
stages_more start was is k before step j h =
    step j h
    ∙ sum_cong bit_ops 9 _ _ (λ i l. mul_both bit_ops _ _ _ _ (before i l) refl)
    ∙ sym (ap (λ n. steps bit_ops 9 sequence_entry (replicate n 0) (bit_at start) j) (add-one k) ∙ step_after bit_ops 9 sequence_entry 0 k (bit_at start) j)
