-- What the calls of a frame do to it, to its row store and to the lent buffers.
--   asking f ys plan n k s     the questions of a take, put to a frame
--   Grown                      what an accepted take did
--   Took                       what a take answers, what an accepted one did, and that a refused one did nothing
--   Traced                     what a decode answers and leaves in the bit buffer, whatever the store holds
use Rattle.std.specs.Prelude.{◌≡◌, ℕ, ◌+◌, List, length, Ok, Err, Result}
use Rattle.refusal.specs.declared.Refusal.{Refusal}
use Rattle.refusal.specs.Questions.{Question, asked}
use Rattle.algebra_survivor.specs.declared.Survivor.{Survivor}
use Rattle.algebra_survivor.specs.contracts.SurvivorAlgebra.TheImpl.{ghosts as survivors}
use Rattle.code.specs.Codes.{states}
use Rattle.plan.specs.Asks.{blocks, joins}
use Rattle.engine.specs.Deliveries.{Done, delivery}
use Rattle.frame_metrics.specs.Metrics.{Applies}
use Rattle.frame_metrics.specs.Totals.{has_room}
use Rattle.frame_rows.specs.Traces.{Decoded, decode_questions, total_of}
use Rattle.frame.specs.declared.Frame.{Frame}
use Rattle.frame.specs.Plain.{limit, survivor_rule}

abbrev pub asking : Frame → List ℕ → List ℕ → ℕ → ℕ → ℕ → List Question
asking f ys plan n k s = delivery (survivor_rule f.code) ys plan limit f.steps (has_room f.metrics.rows (states f.code) s (blocks plan)) n k

-- the plan's blocks were applied to totals and store in their order, and the front of the work area is the product of the last
pub record Grown (ys plan : List ℕ) (was is : Frame) (store store' : List ℕ) (work' : List Survivor) : Type 0 where
  pub same : is.code ≡ was.code
  pub counted : is.steps ≡ was.steps + length ys
  pub done : Done Applies survivors (survivor_rule was.code) ys plan was.metrics is.metrics store store' work'

abbrev pub Left : List ℕ → List ℕ → Frame → List ℕ → List Survivor → List Survivor → Result (ℕ × ℕ) Refusal → Frame → List ℕ → List Survivor → List Survivor → Type 0
Left ys plan was store work row (Ok x) is store' work' row' = Grown ys plan was is store store' work'
Left ys plan was store work row (Err e) is store' work' row' = (is ≡ was) × (store' ≡ store) × (work' ≡ work) × (row' ≡ row)

pub record Took (ys plan : List ℕ) (was : Frame) (store : List ℕ) (work row : List Survivor) (o : Result (ℕ × ℕ) Refusal) (is : Frame) (store' : List ℕ) (work' row' : List Survivor) : Type 0 where
  pub answer : o ≡ asked (asking was ys plan (length work) (length row) (length store)) (length ys, joins plan)
  pub left : Left ys plan was store work row o is store' work' row'

pub record Traced (f : Frame) (j : ℕ) (store bits : List ℕ) (o : Result ℕ Refusal) (bits' : List ℕ) : Type 0 where
  pub answer : o ≡ asked (decode_questions f.code f.metrics.rows f.steps f.metrics.totals j store (length bits)) (total_of f.metrics.totals j)
  pub left : Decoded f.code f.metrics.rows f.steps j store bits o bits'
