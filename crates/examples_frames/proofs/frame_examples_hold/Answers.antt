-- Each example holds by a test of all paths.
use Rattle.std.proofs.Common.{ℕ, List, [], ◌∷◌, refl, arith}
use lib.Count.{ones}
use Rattle.refusal.specs.declared.Refusal.TheVariants.{NoPath}
use Rattle.code.specs.Codes.{k3, code_bit}
use Rattle.paths.specs.Paths.{Bits}
use Rattle.frame_paths.specs.Paths.{Reaches}
use Rattle.examples_frames.proofs.Paths.{cheapest_by_test}
use Rattle.examples_frames.proofs.frame_examples_hold.Goals as goal

bits_of_three : Bits (1 ∷ (0 ∷ (0 ∷ [])))
bits_of_three = (omega arith, (omega arith, (omega arith, tt)))

bits_of_four : Bits (1 ∷ (0 ∷ (0 ∷ (0 ∷ []))))
bits_of_four = (omega arith, (omega arith, (omega arith, (omega arith, tt))))

-- without a step a path stays in state 0
no_steps : (us : List ℕ) → Reaches k3 [] 2 us → ⊥
no_steps [] r = omega (arith, r.there)
no_steps (u ∷ us) r = omega (arith, r.as_long)

pub returns : goal.returns
unfolding code_bit ones
returns c = record {
  nearest_path = λ bits. (1 ∷ (0 ∷ (0 ∷ [])), cheapest_by_test k3 (119 ∷ (112 ∷ (7 ∷ []))) 0 (1 ∷ (0 ∷ (0 ∷ []))) (record { bits = bits_of_three; as_long = refl; there = refl }) refl, refl, refl);
  tie_by_the_latest_bit = λ bits.
      (1 ∷ (0 ∷ (0 ∷ (0 ∷ []))), cheapest_by_test k3 (136 ∷ (120 ∷ (136 ∷ (136 ∷ [])))) 0 (1 ∷ (0 ∷ (0 ∷ (0 ∷ [])))) (record { bits = bits_of_four; as_long = refl; there = refl }) refl, refl, refl);
  nothing_costs_nothing = λ bits. ([], cheapest_by_test k3 [] 0 [] (record { bits = tt; as_long = refl; there = refl }) refl, refl, refl);
  nowhere_else = λ bits. (NoPath, (refl, no_steps, refl), refl, refl);
}
