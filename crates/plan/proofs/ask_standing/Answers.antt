-- The counts follow the letters; the first letter that does not find what it needs is the refusal.
use Rattle.std.proofs.Common.{◌≡◌, ◌+◌, true, false, [], Ok, sym, ap, ◌∙◌, subst, arith, rules}
use Rattle.refusal.proofs.Questions.{asked_yes, asked_no}
use Rattle.plan.specs.Asks.{finds, stands}
use Rattle.plan.proofs.Letters.{found_by, counting_by}
use Rattle.plan.proofs.Counts.{Counted, none_counted, counted_next, all_counted}
use Rattle.plan.proofs.ask_standing.Goals as goal

pub loop-place-init : goal.loop-place-init
loop-place-init c = let e = c.default-tally.ensures in none_counted _ _ e.0 e.1.0 e.1.1.0 e.1.1.1

pub returns-then-not-is_served : goal.returns-then-not-is_served
returns-then-not-is_served c =
    let plan = c.args.plan.now in
    let short : finds plan c.loop-place.place ≡ false = found_by plan c.loop-place.place _ _ c.of-letter.ensures c.loop-place.invariant.standing c.if-not-is_served.ensures in
    sym (asked_no (stands plan) [] _ c.loop-place.place c.loop-place-test.true short c.loop-place.invariant.found)

pub loop-place-preserved : goal.loop-place-preserved
loop-place-preserved c =
    let plan = c.args.plan.now in
    let found : finds plan c.loop-place.place ≡ true = found_by plan c.loop-place.place _ _ c.of-letter.ensures c.loop-place.invariant.standing c.if-not-is_served.ensures in
    let counted = c.with-tally.ensures ∙ counting_by plan c.loop-place.place _ _ c.of-letter.ensures in
    subst (Counted plan (c.loop-place.place + 1)) (sym counted) (counted_next plan c.loop-place.place c.loop-place.tally c.loop-place-test.true c.loop-place.invariant found)

pub returns : goal.returns
returns c =
    let plan = c.args.plan.now in
    ap Ok (all_counted plan c.loop-place.place c.loop-place.tally (omega arith) c.loop-place.invariant) ∙ sym (asked_yes (stands plan) [] _ (λ p h. c.loop-place.invariant.found p (omega arith)))
