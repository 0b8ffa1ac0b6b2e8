-- Single steps from states that agree, and single steps over two lists of symbols.
use mathlib.Core.List.{List, [], ◌∷◌, ◌++◌}
use mathlib.Core.Path.{◌≡◌, refl}
use Prim.Native.Nat.{ℕ, ◌<◌}
use Rattle.algebra.specs.Laws.{Ops}
use Rattle.algebra.proofs.Sums.{sum_cong, mul_both}
use Rattle.recursion.specs.Steps.{steps}

module _ {V : Type 0} (o : Ops V) (d : ℕ) (m : ℕ → ℕ → ℕ → V) where
  -- states that agree below d agree after the same steps
  pub steps_cong : (ys : List ℕ) (v w : ℕ → V) → ((j : ℕ) → j < d → v j ≡ w j) → (j : ℕ) → j < d → steps o d m ys v j ≡ steps o d m ys w j
  steps_cong [] v w e j h = e j h
  steps_cong (y ∷ ys) v w e j h = steps_cong ys _ _ (λ l b. sum_cong o d _ _ (λ i c. mul_both o _ _ _ _ (e i c) refl)) j h

  pub steps_append : (xs ys : List ℕ) (v : ℕ → V) (j : ℕ) → steps o d m (xs ++ ys) v j ≡ steps o d m ys (steps o d m xs v) j
  steps_append [] ys v j = refl
  steps_append (x ∷ xs) ys v j = steps_append xs ys _ j
