-- What the benchmark's functions answer and do with whole frames.
--   Fresh f                          f is a fresh frame of k7: whatever takes and decodes follow, all answers and bits are the plain frame's
--   framing ys plan n k s            the answer to a take of the symbols ys under a plan by a fresh frame, with a work area of n elements, a row
--                                    of k and a store of s words
--   Begun                            what such a take did: what a frame promises of it
--   handed o f                       the frame f, or the refusal of a take
--   Handed                           what such a take did, which hands out the frame
--   Then                             what a decode to state j did after a take of this answer; nothing, where that was refused
--   Ended                            what such a take did, and then a decode to state j by the same frame; o is the refusal of the first, or the
--                                    answer of the second
--   cost_of o cost                   what is left in the place of a cost: that of an answer, and after a refusal what was there
--   Told                             what such a take and decode did, where C is told a number and given the cost
--   tracing rows steps total store b the answer to a decode to state 0 of so many rows and steps, where that state has this total, with a
--                                    buffer of b bits
use Rattle.std.specs.Prelude.{◌≡◌, ℕ, ◌<◌, List, [], ◌∷◌, length, Some, None, Ok, Err, Result}
use Rattle.algebra_survivor.specs.declared.Survivor.{Survivor}
use Rattle.code.specs.Codes.{k7, states}
use Rattle.engine.specs.Deliveries.{delivery}
use Rattle.frame.specs.Frames.{Took, Traced}
use Rattle.frame.specs.Histories.{Whole}
use Rattle.frame.specs.Plain.{limit, survivor_rule}
use Rattle.frame.specs.declared.Frame.{Frame}
use Rattle.frame_metrics.specs.Totals.{has_room}
use Rattle.frame_rows.specs.Traces.{decode_questions, state_total}
use Rattle.plan.specs.Asks.{blocks, joins}
use Rattle.bench_status.specs.Status.{status_of}
use Rattle.refusal.specs.Questions.{asked}
use Rattle.refusal.specs.declared.Refusal.{Refusal}

pub record Fresh (f : Frame) : Type 0 where
  pub code : f.code ≡ k7
  pub steps : f.steps ≡ 0
  pub rows : f.metrics.rows ≡ 0
  pub start : state_total f.metrics.totals 0 ≡ Some 0
  pub others : (j : ℕ) → 0 < j → state_total f.metrics.totals j ≡ None
  pub whole : Whole k7 f

unfoldable pub framing : List ℕ → List ℕ → ℕ → ℕ → ℕ → Result (ℕ × ℕ) Refusal
framing ys plan n k s = asked (delivery (survivor_rule k7) ys plan limit 0 (has_room 0 (states k7) s (blocks plan)) n k) (length ys, joins plan)

pub record Begun (ys plan store : List ℕ) (work row : List Survivor) (store' : List ℕ) (work' row' : List Survivor) : Type 0 where
  pub first : Frame
  pub last : Frame
  pub fresh : Fresh first
  pub took : Took ys plan first store work row (framing ys plan (length work) (length row) (length store)) last store' work' row'

abbrev pub handed : Result (ℕ × ℕ) Refusal → Frame → Result Frame Refusal
handed (Ok x) f = Ok f
handed (Err e) f = Err e

abbrev pub Handed : List ℕ → List ℕ → List ℕ → List Survivor → List Survivor → Result Frame Refusal → List ℕ → List Survivor → List Survivor → Type 0
Handed ys plan store work row o store' work' row' =
    (b : Begun ys plan store work row store' work' row') × (o ≡ handed (framing ys plan (length work) (length row) (length store)) b.last)

abbrev pub Then : Frame → ℕ → List ℕ → List ℕ → Result (ℕ × ℕ) Refusal → Result ℕ Refusal → List ℕ → Type 0
Then f j store bits (Ok x) o bits' = Traced f j store bits o bits'
Then f j store bits (Err e) o bits' = (o ≡ Err e) × (bits' ≡ bits)

pub record Ended (ys plan : List ℕ) (j : ℕ) (store : List ℕ) (work row : List Survivor) (bits : List ℕ) (o : Result ℕ Refusal) (store' : List ℕ) (work' row' : List Survivor) (bits' : List ℕ) : Type 0 where
  pub begun : Begun ys plan store work row store' work' row'
  pub traced : Then begun.last j store' bits (framing ys plan (length work) (length row) (length store)) o bits'

abbrev pub cost_of : Result ℕ Refusal → ℕ → ℕ
cost_of (Ok cost) old = cost
cost_of (Err e) old = old

abbrev pub Told : List ℕ → List ℕ → ℕ → List ℕ → List Survivor → List Survivor → List ℕ → ℕ → ℕ → List ℕ → List Survivor → List Survivor → List ℕ → ℕ → Type 0
Told ys plan j store work row bits cost n store' work' row' bits' cost' =
    (o : Result ℕ Refusal) × Ended ys plan j store work row bits o store' work' row' bits' × (n ≡ status_of o) × (cost' ≡ cost_of o cost)

abbrev pub tracing : ℕ → ℕ → ℕ → List ℕ → ℕ → Result ℕ Refusal
tracing rows steps total store b = asked (decode_questions k7 rows steps (Some total ∷ []) 0 store b) total
