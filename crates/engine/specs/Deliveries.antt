-- Deliveries: symbols under a plan, given to a target.
--   within limit taken ys  the question of the limit: do the symbols ys, after so many taken, stay within it?
--   delivery ..            the questions of a delivery, in their order: those of the plan; of the symbols; of the limit; and of the memory,
--                          where `room` says whether the target has room, n and k are the lengths of work area and row
--   Delivered ..           what an accepted delivery did, and that a refused one did nothing
use Rattle.std.specs.Prelude.{◌≡◌, ℕ, ◌+◌, ◌*◌, Bool, ◌&&◌, List, [], ◌∷◌, ◌++◌, length, Ok, Err, Result, nat_le}
use Rattle.algebra.specs.declared.Algebra.{Ghosts as Algebra}
use Rattle.plan.specs.Asks.{asks, most}
use Rattle.plan.specs.Plans.{after}
use Rattle.recursion.specs.Steps.{Rule}
use Rattle.refusal.specs.declared.Refusal.{Refusal}
use Rattle.refusal.specs.declared.Refusal.TheVariants.{Limit, Memory}
use Rattle.refusal.specs.Questions.{Question, once}
use Rattle.engine.specs.Blocks.{Stands, chosen}
use Rattle.engine.specs.Plain.{accepted}
use Rattle.engine.specs.Targets.{Fed}

abbrev pub within : ℕ → ℕ → List ℕ → Question
within limit taken ys = once (nat_le (taken + length ys) limit) Limit

abbrev pub delivery : {V : Type 0} → Rule V → List ℕ → List ℕ → ℕ → ℕ → Bool → ℕ → ℕ → List Question
delivery r ys plan limit taken room n k =
    asks plan (length ys) ++ (accepted r ys ∷ (within limit taken ys ∷ (once (room && (nat_le (most plan * (r.size * r.size)) n && nat_le r.size k)) Memory ∷ [])))

-- the plan's blocks were applied in their order, and the front of the work area is the product of the last
pub record Done {T K E : Type 0} (app : T → List K → ℕ → ℕ → List E → T → List K → Type 0) (a : Algebra E) (r : Rule a.Value) (ys plan : List ℕ)
    (was is : T) (kept kept' : List K) (work' : List E) : Type 0 where
  pub fed : Fed app a r.size (chosen r.entry ys) was kept (after plan (length plan)).blocks is kept'
  pub block : Stands a r.size (chosen r.entry ys) work' (after plan (length plan)).last

abbrev pub Delivered : {T K E : Type 0} (app : T → List K → ℕ → ℕ → List E → T → List K → Type 0) (a : Algebra E) → Rule a.Value → List ℕ → List ℕ
    → T → List K → List E → List E → Result (ℕ × ℕ) Refusal → T → List K → List E → List E → Type 0
Delivered app a r ys plan was kept work row (Ok x) is kept' work' row' = Done app a r ys plan was is kept kept' work'
Delivered app a r ys plan was kept work row (Err e) is kept' work' row' = (is ≡ was) × (kept' ≡ kept) × (work' ≡ work) × (row' ≡ row)
