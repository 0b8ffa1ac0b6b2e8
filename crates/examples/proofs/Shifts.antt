-- The sequence from nine ones, computed by shifting a list of bits.
use Rattle.std.proofs.Common.{◌≡◌, ℕ, zero, suc, ◌+◌, ◌<◌, List, [], ◌∷◌, ◌++◌, length, drop, sym, refl, ap, ◌∙◌, inl, inr, add-one, one-add, arith, length-append, length-drop}
use Rattle.std.proofs.lemmas.Bool.{cases_lt}
use Rattle.algebra.specs.Sums.{at}
use Rattle.algebra.proofs.Places.{at_append_left, at_append_right, at_drop}
use Rattle.algebra_scalars.specs.Bits.{xor, bit_ops, number}
use Rattle.algebra_scalars.specs.declared.bit.Bit.{Bit}
use Rattle.recursion.specs.Steps.{stepped}
use Rattle.recursion_bits.specs.Sequence.{sequence_entry}
use Rattle.run_sequence.specs.Sequence.{bit_at, stages}
use Rattle.run_sequence.proofs.Columns.{step_down, step_newest}
use Rattle.run_sequence.proofs.Stages.{stages_none, stages_more}
use Rattle.examples.specs.Examples.{ones, newest}

abbrev moved : List Bit → List Bit
moved s = drop 1 s ++ (record { 0 = xor (bit_at s 0) (bit_at s 4) } ∷ [])

abbrev pub after : ℕ → List Bit
after zero = ones
after (suc k) = moved (after k)

long : (k : ℕ) → length (after k) ≡ 9
long zero = refl
long (suc k) = length-append (drop 1 (after k)) _ ∙ omega (arith, length-drop 1 (after k), long k)

moves : (s : List Bit) → length s ≡ 9 → (j : ℕ) → j < 9 → bit_at (moved s) j ≡ stepped bit_ops 9 (bit_at s) (sequence_entry 0) j
unfolding at
moves s e j h =
    let eight : length (drop 1 s) ≡ 8 = omega (arith, length-drop 1 s) in
    elim (cases_lt j 8) [
      | inl low ↦ at_append_left bit_ops.zero (λ b. b.0) (drop 1 s) _ j (omega arith) ∙ at_drop bit_ops.zero (λ b. b.0) 1 s j ∙ ap (bit_at s) (one-add j) ∙ sym (step_down (bit_at s) j low)
      | inr high ↦
          let is : j ≡ 8 + 0 = omega arith in
          ap (bit_at (moved s)) is ∙ at_append_right bit_ops.zero (λ b. b.0) (drop 1 s) _ 8 0 eight ∙ sym (ap (stepped bit_ops 9 (bit_at s) (sequence_entry 0)) is ∙ step_newest (bit_at s))
    ]

pub follows : (k : ℕ) (j : ℕ) → j < 9 → bit_at (after k) j ≡ stages ones k j
follows zero j h = stages_none ones j
follows (suc k) j h = stages_more ones (after k) (after (suc k)) k (follows k) (moves (after k) (long k)) j h ∙ ap (λ n. stages ones n j) (add-one k)

-- the newest bit after k steps
pub newest_is : (k : ℕ) → newest k ≡ number (bit_at (after k) 8)
newest_is k = ap number (sym (follows k 8 (omega arith)))
