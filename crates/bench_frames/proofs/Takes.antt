-- What a take by a fresh frame of k7 answers.
use Rattle.std.proofs.Common.{◌≡◌, ℕ, ◌<◌, List, length, Some, None, Ok, Err, Result, ap, ◌∙◌, subst, arith}
use Rattle.algebra_survivor.specs.declared.Survivor.{Survivor}
use Rattle.code.specs.Codes.{k7, states}
use Rattle.code.specs.declared.description.Code.{Code}
use Rattle.engine.specs.Deliveries.{delivery}
use Rattle.frame.specs.Frames.{Took, Traced}
use Rattle.frame.specs.Histories.{Whole}
use Rattle.frame.specs.Plain.{limit, survivor_rule}
use Rattle.frame.specs.declared.Frame.{Frame}
use Rattle.frame_metrics.specs.Totals.{has_room}
use Rattle.frame_rows.specs.Traces.{state_total}
use Rattle.plan.specs.Asks.{blocks, joins}
use Rattle.refusal.specs.Questions.{asked}
use Rattle.refusal.specs.declared.Refusal.{Refusal}
use Rattle.bench_frames.specs.Frames.{Begun, Fresh, Handed, Then, framing, handed}

-- a new frame of k7 is fresh
pub is_fresh : (k : Code) → k ≡ k7 → (f : Frame) → f.code ≡ k → f.steps ≡ 0 → f.metrics.rows ≡ 0 → state_total f.metrics.totals 0 ≡ Some 0
    → ((j : ℕ) → 0 < j → state_total f.metrics.totals j ≡ None) → Whole k f → Fresh f
is_fresh k named f code steps rows start others whole =
    record { code = code ∙ named; steps = steps; rows = rows; start = start; others = others; whole = subst (λ (k : Code). Whole k f) named whole }

module _ (ys plan store : List ℕ) (work row : List Survivor) (store' : List ℕ) (work' row' : List Survivor) (first last : Frame) (fresh : Fresh first) where
  -- the questions are put to the frame, which is fresh
  pub asks_fresh : (o : Result (ℕ × ℕ) Refusal) → Took ys plan first store work row o last store' work' row' → o ≡ framing ys plan (length work) (length row) (length store)
  unfolding framing
  asks_fresh o t =
      let F : Code → ℕ → ℕ → Result (ℕ × ℕ) Refusal = λ c taken rows.
      asked (delivery (survivor_rule c) ys plan limit taken (has_room rows (states c) (length store) (blocks plan)) (length work) (length row)) (length ys, joins plan) in
      t.answer ∙ ap (λ c. F c first.steps first.metrics.rows) fresh.code ∙ ap (λ n. F k7 n first.metrics.rows) fresh.steps ∙ ap (λ n. F k7 0 n) fresh.rows

  -- so the take began as promised
  pub begins : (o : Result (ℕ × ℕ) Refusal) → Took ys plan first store work row o last store' work' row' → Begun ys plan store work row store' work' row'
  begins o t =
      let P : Result (ℕ × ℕ) Refusal → Type 0 = λ o. Took ys plan first store work row o last store' work' row' in
      record { first = first; last = last; fresh = fresh; took = subst P (asks_fresh o t) t }

  -- and it hands out what it should
  pub hands : (o : Result (ℕ × ℕ) Refusal) → Took ys plan first store work row o last store' work' row' → (r : Result Frame Refusal) → r ≡ handed o last
      → Handed ys plan store work row r store' work' row'
  unfolding begins
  hands o t r e = (begins o t, e ∙ ap (λ o. handed o last) (asks_fresh o t))

abbrev side : Result Frame Refusal → ℕ
side (Ok f) = 0
side (Err e) = 1

-- after a take that was accepted the decode of the frame follows that was handed out
module _ (last : Frame) (j : ℕ) (store bits : List ℕ) (o : Result ℕ Refusal) (bits' : List ℕ) where
  pub then_traced : (t : Result (ℕ × ℕ) Refusal) (f : Frame) → Ok f ≡ handed t last → Traced f j store bits o bits' → Then last j store bits t o bits'
  then_traced (Ok x) f h t =
      let one : f ≡ last = cc in
      subst (λ (g : Frame). Traced g j store bits o bits') one t
  then_traced (Err e) f h t = let other : 0 ≡ 1 = ap side h in absurd (omega (arith, other))
