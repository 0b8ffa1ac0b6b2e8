-- Applying a block is doing its symbols' single steps.
use Rattle.std.proofs.Common.{◌≡◌, ℕ, ◌<◌, List, [], ◌∷◌, map, get_or, sym, refl, ◌∙◌}
use Rattle.algebra.specs.Laws.{Ops, Laws}
use Rattle.algebra.proofs.Sums.{row_assoc}
use Rattle.plan.specs.Plans.{Tree, places}
use Rattle.plan.specs.Plans.{Single, Join}
use Rattle.recursion.specs.Steps.{stepped, steps}
use Rattle.recursion.proofs.Steps.{steps_cong, steps_append}
use Rattle.engine.specs.Blocks.{chosen, product}

module _ {V : Type 0} (o : Ops V) (d : ℕ) (m : ℕ → ℕ → ℕ → V) where
  pub block_steps : Laws o → (t : Tree) (v : ℕ → V) (j : ℕ) → j < d → stepped o d v (product o d m t) j ≡ steps o d m (places t) v j
  block_steps laws (Single y) v j h = refl
  block_steps laws (Join a b) v j h =
      row_assoc o laws d v (product o d m a) (product o d m b) j
      ∙ block_steps laws b (stepped o d v (product o d m a)) j h
      ∙ steps_cong o d m (places b) _ _ (λ l c. block_steps laws a v l c) j h
      ∙ sym (steps_append o d m (places a) (places b) v j)

-- steps by places are steps by the symbols at those places
pub steps_chosen : {V : Type 0} (o : Ops V) (d : ℕ) (e : ℕ → ℕ → ℕ → V) (ys ps : List ℕ) (v : ℕ → V) (j : ℕ)
    → steps o d (chosen e ys) ps v j ≡ steps o d e (map (λ p. get_or ys p 0) ps) v j
steps_chosen o d e ys [] v j = refl
steps_chosen o d e ys (p ∷ ps) v j = steps_chosen o d e ys ps _ j
