-- A state of d elements, and what a block does to it.
--   Moved a   a block moved the state: it was multiplied by the block's matrix, and nothing past its d elements
--             has changed
use Rattle.std.specs.Prelude.{◌≡◌, ℕ, ◌<◌, List, drop}
use Rattle.algebra.specs.Sums.{at}
use Rattle.algebra.specs.declared.Algebra.{Ghosts as Algebra}
use Rattle.recursion.specs.Steps.{stepped}
use Rattle.engine.specs.Matrices.{cell}
use Rattle.engine.specs.declared.vector.Vector.{Vector}

pub record Moved {E : Type 0} (a : Algebra E) (v : Vector) (was : List E) (d n : ℕ) (block : List E) (v' : Vector) (now : List E) : Type 0 where
  pub same : v' ≡ v
  pub rest : drop d now ≡ drop d was
  pub means : (j : ℕ) → j < d → at a.ops.zero a.mean now j
      ≡ stepped a.ops d (at a.ops.zero a.mean was) (cell a.ops.zero a.mean block d 0) j
