-- Sums over places, and what stands at a place of a row of elements.
--   sum o n f      f(0) ⊕ .. ⊕ f(n - 1), zero where n is 0
--   at z f xs i    f of the element of xs at place i, and z past its end
use Rattle.std.specs.Prelude.{ℕ, zero, suc, List, [], ◌∷◌}
use Rattle.algebra.specs.Laws.{Ops}

unfoldable pub sum : {V : Type 0} → Ops V → ℕ → (ℕ → V) → V
sum o zero f = o.zero
sum o (suc n) f = o.add (sum o n f) (f n)

unfoldable pub at : {E V : Type 0} → V → (E → V) → List E → ℕ → V
at z f [] i = z
at z f (x ∷ xs) zero = f x
at z f (x ∷ xs) (suc i) = at z f xs i
