-- Bits that pass their questions are each 0 or 1, and the answer is then the value that was asked for.
use Rattle.std.proofs.Common.{◌≡◌, ℕ, ◌≤◌, List, [], ◌∷◌, Ok}
use Rattle.std.specs.List.{AllByRecursion}
use Rattle.std.proofs.ByRecursion.{All-from_get_or}
use Rattle.std.proofs.lemmas.Bool.{leb-true}
use Rattle.refusal.specs.Questions.{asked}
use Rattle.refusal.proofs.Questions.{passed_first, asked_rest}
use Rattle.run_check.specs.Check.{each_bit, not_too_many, bit_questions}

-- each bit is 0 or 1
abbrev pub Bits : List ℕ → Type 0
Bits = AllByRecursion (λ b. b ≤ 1)

pub passed_bits : {V : Type 0} (bits : List ℕ) (v u : V) → asked (bit_questions bits) v ≡ Ok u → Bits bits
passed_bits bits v u passed = All-from_get_or _ bits 0 (λ k l. leb-true _ _ (passed_first (each_bit bits) (not_too_many bits ∷ []) v u passed k l))

pub passed_value : {V : Type 0} (bits : List ℕ) (v u : V) → asked (bit_questions bits) v ≡ Ok u → u ≡ v
passed_value bits v u passed = let value = asked_rest [] v u v (bit_questions bits) passed in cc
