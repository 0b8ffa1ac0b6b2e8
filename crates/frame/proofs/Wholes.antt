-- Whatever takes and decodes follow on a fresh frame, its answers and bits are the plain frame's; and plans do not matter.
use Rattle.std.proofs.Common.{◌≡◌, ℕ, ◌<◌, List, [], ◌∷◌, ◌++◌, length, take, Some, None, Ok, Err, Result, sym, ap, ◌∙◌, subst, arith}
use lib.Seq.{take-append_seam}
use Rattle.refusal.specs.declared.Refusal.{Refusal}
use Rattle.code.specs.declared.description.Code.{Code}
use Rattle.frame_paths.specs.Paths.{costs, Cheapest}
use Rattle.frame_paths.proofs.Decodes.{one_cheapest_lem}
use Rattle.frame_paths.proofs.Holds.{Holds, holds_nothing}
use Rattle.frame_rows.specs.Traces.{rows_in, state_total}
use Rattle.frame.specs.declared.Frame.{Frame}
use Rattle.frame.specs.Plain.{nothing, Found}
use Rattle.frame.specs.Histories.{Event, History, held, Agree, Whole, Counted, Alike}
use Rattle.frame.specs.Histories.{Take, Decode, begun, then_take, then_decode}
use Rattle.frame.proofs.Follows.{Follows, take_follows}
use Rattle.frame.proofs.Decodes.{decodes_right}

module _ (c : Code) (first : Frame) (code : first.code ≡ c) (steps : first.steps ≡ 0) (rows : first.metrics.rows ≡ 0)
    (start : state_total first.metrics.totals 0 ≡ Some 0) (others : (j : ℕ) → 0 < j → state_total first.metrics.totals j ≡ None) where
  -- a fresh frame holds nothing, whatever the store holds
  fresh : (noise : List ℕ) → Follows c nothing first noise
  fresh noise = record {
    of = code;
    counted = steps;
    rowed = rows;
    few = omega arith;
    within = omega arith;
    holds = subst (λ n. Holds c [] (state_total first.metrics.totals) (rows_in c noise n)) (sym rows) (holds_nothing c (state_total first.metrics.totals) start (λ j h l. others j (omega arith)));
  }

  -- a history leads the frame where it leads the plain frame
  along : (noise store : List ℕ) (es : List Event) (last : Frame) → History first noise es last store → Agree c es × Follows c (held c es) last store
  along noise store [] last begun = (tt, fresh noise)
  along noise store (Take ys plan n k s o ∷ es) last (then_take ys' plan' work row work' row' o' es' was is before after past took) =
      let ih = along noise before es was past in
      let step = take_follows c (held c es) ys plan was last before store work row work' row' ih.1 o took in
      ((step.0, ih.0), step.1)
  along noise store (Decode j s bits o new ∷ es) last (then_decode j' bits' new' o' es' was store' past traced) =
      let ih = along noise store es last past in
      ((decodes_right c (held c es) last store ih.1 j bits new o traced, ih.0), ih.1)

  pub whole : Whole c first
  whole noise store es last past = (along noise store es last past).0

  pub counted : Counted c first
  counted noise store es last past = let f = (along noise store es last past).1 in (f.of, f.counted, f.rowed)

-- two outcomes of a decode of the same symbols
same_found : (c : Code) (ys : List ℕ) (j : ℕ) (bits bits' new new' : List ℕ) (o o' : Result ℕ Refusal) → Found c ys j bits o new → Found c ys j bits' o' new'
    → (o ≡ o') × ((cost : ℕ) → o ≡ Ok cost → take (length ys) new ≡ take (length ys) new')
same_found c ys j bits bits' new new' (Ok a) (Ok b) f g =
    let us = f.0 in
    let same : us ≡ g.0 = one_cheapest_lem c ys j us g.0 f.1 g.1 in
    let front : (vs rest out : List ℕ) → Cheapest c ys j vs → out ≡ vs ++ rest → take (length ys) out ≡ vs =
    λ vs rest out best e. ap (λ n. take n out) (sym best.reaches.as_long) ∙ ap (take (length vs)) e ∙ take-append_seam vs rest in
    (ap Ok (sym f.2 ∙ ap (costs c 0 ys) same ∙ g.2), λ cost e. front us _ new f.1 f.3 ∙ same ∙ sym (front g.0 _ new' g.1 g.3))
same_found c ys j bits bits' new new' (Ok a) (Err e) f g = absurd (g.1 f.0 f.1.reaches)
same_found c ys j bits bits' new new' (Err e) (Ok b) f g = absurd (f.1 g.0 g.1.reaches)
same_found c ys j bits bits' new new' (Err d) (Err e) f g = (ap Err (f.0 ∙ sym g.0), λ cost z. absurd (let w : ◌≡◌ {A = ℕ} 0 1 = cc in omega arith))

pub alike : (c : Code) → Alike c
alike c f g whole-f whole-g noise noise' store store' bits bits' new new' es es' last last' j o o' past past' same pass pass' =
    let one = (whole-f noise store _ last past).0.0 pass in
    let two = (whole-g noise' store' _ last' past').0.0 pass' in
    same_found c (held c es).symbols j bits bits' new new' o o' one (subst (λ ys. Found c ys j bits' o' new') (sym same) two)
