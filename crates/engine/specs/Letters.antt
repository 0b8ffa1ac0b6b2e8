-- The letters of a plan, one by one.
--   Doing       target, buffer and work area hold what the letters so far have built, from a start
--   applies c   how many blocks the letter c applies
use Rattle.std.specs.Prelude.{◌≡◌, ℕ, ◌+◌, ◌*◌, cond, List, [], length, ◌==◌}
use Rattle.algebra.specs.declared.Algebra.{Ghosts as Algebra}
use Rattle.plan.specs.Plans.{Progress}
use Rattle.engine.specs.Blocks.{Stands}
use Rattle.engine.specs.Matrices.{Normal}
use Rattle.engine.specs.Targets.{sizes, Fed}

pub record Doing {T K E : Type 0} (app : T → List K → ℕ → ℕ → List E → T → List K → Type 0) (a : Algebra E) (d : ℕ) (m : ℕ → ℕ → ℕ → a.Value) (was : T) (kept : List K)
    (w : Progress) (top next applied : ℕ) (is : T) (now : List K) (work : List E) : Type 0 where
  pub topped : top ≡ length w.stack
  pub nexted : next ≡ w.next
  pub counted : next ≡ applied + sizes w.stack
  pub stands : Stands a d m work w.stack
  pub normal : Normal a.normal work (top * (d * d))
  pub left : w.stack ≡ [] → Stands a d m work w.last
  pub fed : Fed app a d m was kept w.blocks is now

abbrev pub applies : ℕ → ℕ
applies c = cond (c == 115) 0 (cond (c == 106) 0 1)
