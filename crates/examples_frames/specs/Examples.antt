-- Worked examples of frames.
--   FrameExamples   what is decoded: the nearest path, the path that a tie leaves, and nothing where there is nothing
use Rattle.std.specs.Prelude.{◌≡◌, ℕ, List, [], ◌∷◌, drop, Ok, Err}
use Rattle.refusal.specs.declared.Refusal.{Refusal}
use Rattle.refusal.specs.Numbers.{number, place}
use Rattle.code.specs.Codes.{k3}
use Rattle.frame.specs.Plain.{Found}

pub record FrameExamples : Type 0 where
  -- k3, the symbols 119 112 7 decoded to state 0: cost 7, bits 1 0 0, and the rest of the buffer as it was
  pub nearest_path : (bits : List ℕ) → Found k3 (119 ∷ (112 ∷ (7 ∷ []))) 0 bits (Ok 7) (1 ∷ (0 ∷ (0 ∷ drop 3 bits)))
  -- k3, the symbols 136 120 136 136, where two paths of cost 0 tie: bits 1 0 0 0 and not 0 1 0 0
  pub tie_by_the_latest_bit : (bits : List ℕ) → Found k3 (136 ∷ (120 ∷ (136 ∷ (136 ∷ [])))) 0 bits (Ok 0) (1 ∷ (0 ∷ (0 ∷ (0 ∷ drop 4 bits))))
  -- k3 without symbols: state 0 costs 0 with no bits, and state 2 is refused 10
  pub nothing_costs_nothing : (bits : List ℕ) → Found k3 [] 0 bits (Ok 0) bits
  pub nowhere_else : (bits : List ℕ) → (e : Refusal) × Found k3 [] 2 bits (Err e) bits × (number e ≡ 10) × (place e ≡ 0)
