-- Blocks applied to a target, one after another.
--   sizes ts                              how many symbols the matrices ts have together
--   Fed app a d m was kept ts is kept'    by the blocks ts, the latest first, the target `was` with the buffer `kept` became `is` with
--                                         kept'; app says what one block does, and m(p) is the matrix of the symbol at place p
use Rattle.std.specs.Prelude.{◌≡◌, ℕ, ◌+◌, ◌<◌, List, [], ◌∷◌}
use Rattle.algebra.specs.declared.Algebra.{Ghosts as Algebra}
use Rattle.plan.specs.Plans.{Tree, size}
use Rattle.engine.specs.Matrices.{cell}
use Rattle.engine.specs.Blocks.{product}

abbrev pub sizes : List Tree → ℕ
sizes [] = 0
sizes (t ∷ ts) = size t + sizes ts

pub data Fed {T K E : Type 0} (app : T → List K → ℕ → ℕ → List E → T → List K → Type 0) (a : Algebra E) (d : ℕ) (m : ℕ → ℕ → ℕ → a.Value) (was : T) (kept : List K)
    : List Tree → T → List K → Type 0 where
  untouched : Fed app a d m was kept [] was kept
  then_block : (t : Tree) (ts : List Tree) (x y : T) (before after : List K) (block : List E)
      → Fed app a d m was kept ts x before
      → ((i j : ℕ) → i < d → j < d → cell a.ops.zero a.mean block d 0 i j ≡ product a.ops d m t i j)
      → app x before d (size t) block y after
      → Fed app a d m was kept (t ∷ ts) y after
