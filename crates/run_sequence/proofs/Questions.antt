-- A state that passes the questions has nine elements.
use Rattle.std.proofs.Common.{◌≡◌, ℕ, ◌≤◌, [], ◌∷◌, Ok, arith}
use Rattle.std.proofs.lemmas.Bool.{leb-true}
use Rattle.refusal.specs.Questions.{asked}
use Rattle.refusal.proofs.Questions.{passed_first, passed_rest}
use Rattle.run_sequence.specs.Sequence.{few_steps, nine_elements, sequence_questions}

pub passed_nine : {V : Type 0} (n d : ℕ) (v u : V) → asked (sequence_questions n d) v ≡ Ok u → 9 ≤ d
passed_nine n d v u passed = leb-true _ _ (passed_first (nine_elements d) [] v u (passed_rest (few_steps n) (nine_elements d ∷ []) v u passed) 0 (omega arith))
