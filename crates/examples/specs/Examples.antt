-- Worked examples of the rules.
--   Refuses r n p   the answer r is the refusal of number n at place p
--   reading text n  what reading a plan for n symbols answers
--   ones            a state of nine ones
--   newest k        the newest bit of the sequence after k steps from nine ones
use Rattle.std.specs.Prelude.{◌≡◌, ℕ, true, List, [], ◌∷◌, map, replicate, Err, codes, Result}
use Rattle.refusal.specs.declared.Refusal.{Refusal}
use Rattle.refusal.specs.Numbers.{number, place}
use Rattle.refusal.specs.Questions.{asked}
use Rattle.algebra_scalars.specs.Bits.{number as bit_number}
use Rattle.algebra_scalars.specs.declared.bit.Bit.{Bit}
use Rattle.algebra_scalars.specs.Counts.{count_ops, residue_of}
use Rattle.algebra_survivor.specs.Survivors.{path_ops, path, none}
use Rattle.plan.specs.Asks.{asks, shape}
use Rattle.plan.specs.declared.Shape.{Shape}
use Rattle.run_check.specs.Check.{check_value, register_value}
use Rattle.run_sequence.specs.Sequence.{stages}

abbrev pub Refuses : {A : Type 0} → Result A Refusal → ℕ → ℕ → Type 0
Refuses r n p = (e : Refusal) × (r ≡ Err e) × (number e ≡ n) × (place e ≡ p)

abbrev pub reading : List ℕ → ℕ → Result Shape Refusal
reading plan n = asked (asks plan n) (shape plan)

abbrev pub ones : List Bit
ones = replicate 9 (record { 0 = true })

abbrev pub newest : ℕ → ℕ
newest k = bit_number (stages ones k 8)

pub record Examples : Type 0 where
  -- (1, 14, 1) ⊗ (2, 0, 2) = (3, 14, 5)
  pub survivors_join : path_ops.mul (path 1 14 1) (path 2 0 2) ≡ path 3 14 5
  -- (32, 0, 0) ⊗ (1, 0, 0) = none
  pub too_long : path_ops.mul (path 32 0 0) (path 1 0 0) ≡ none
  -- counts wrap: 65,536 ⊗ 65,536 = 0
  pub counts_wrap : count_ops.mul (residue_of 65536) (residue_of 65536) ≡ residue_of 0
  -- the check of the empty list is 0
  pub empty_check : check_value [] ≡ 0
  -- 32 zero bits leave the register that every message with its check leaves
  pub zeros_register : register_value (replicate 32 0) ≡ 0xDEBB20E3
  -- the first newest bits of the sequence from nine ones
  pub sequence_starts : map newest (1 ∷ (2 ∷ (3 ∷ (4 ∷ (5 ∷ (6 ∷ (7 ∷ (8 ∷ (9 ∷ (10 ∷ (11 ∷ [])))))))))))
      ≡ 0 ∷ (0 ∷ (0 ∷ (0 ∷ (0 ∷ (1 ∷ (1 ∷ (1 ∷ (1 ∷ (0 ∷ (1 ∷ []))))))))))
  -- a letter that is none, wherever it stands and however many symbols there are
  pub unknown_letter : (n : ℕ) → Refuses (reading (codes "s5a") n) 5 1
  -- a join that finds one matrix, and an apply that finds two
  pub join_of_one : (n : ℕ) → Refuses (reading (codes "sj") n) 6 1
  pub apply_of_two : (n : ℕ) → Refuses (reading (codes "ssa") n) 6 2
  -- a plan that leaves matrices standing
  pub left_standing : Refuses (reading (codes "ss") 2) 8 0
