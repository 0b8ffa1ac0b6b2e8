-- Blocks: what the letters of a plan build in the work area.
--   chosen e ys p            the matrix of the symbol at place p, where e(y, i, j) are the entries
--   product o d m t          the matrix of a tree, where m(p) is the matrix of the symbol at place p
--   Stands a d m work stack   the stack stands in the work area, each matrix from a multiple of d × d on, the bottom first
--   Ready                    a letter finds what it needs: s a symbol and room for its matrix, j two matrices, a exactly one
use Rattle.std.specs.Prelude.{◌≡◌, ℕ, ◌+◌, ◌*◌, ◌<◌, ◌≤◌, List, [], ◌∷◌, length, ◌≢◌, slice_index}
use Rattle.algebra.specs.Laws.{Ops}
use Rattle.algebra.specs.declared.Algebra.{Ghosts as Algebra}
use Rattle.plan.specs.Plans.{Tree}
use Rattle.plan.specs.Plans.{Single, Join}
use Rattle.engine.specs.Matrices.{cell, times}

abbrev pub chosen : {V : Type 0} → (ℕ → ℕ → ℕ → V) → List ℕ → ℕ → ℕ → ℕ → V
chosen e ys p = e (slice_index ys p)

abbrev pub product : {V : Type 0} → Ops V → ℕ → (ℕ → ℕ → ℕ → V) → Tree → ℕ → ℕ → V
product o d m (Single p) = m p
product o d m (Join a b) = times o d (product o d m a) (product o d m b)

abbrev pub Stands : {E : Type 0} (a : Algebra E) → ℕ → (ℕ → ℕ → ℕ → a.Value) → List E → List Tree → Type 0
Stands a d m work [] = Unit {0}
Stands a d m work (t ∷ rest) =
    ((i j : ℕ) → i < d → j < d → cell a.ops.zero a.mean work d (length rest * (d * d)) i j ≡ product a.ops d m t i j)
    × Stands a d m work rest

pub record Ready (code count d top next room : ℕ) : Type 0 where
  pub s : code ≡ 115 → (next < count) × (top ≤ next) × (top * (d * d) + d * d ≤ room)
  pub j : code ≡ 106 → (2 ≤ top) × (top * (d * d) ≤ room)
  pub a : (code ≢ 115) → (code ≢ 106) → (top ≡ 1) × (d * d ≤ room)
