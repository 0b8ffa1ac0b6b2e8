-- Each letter before the place is known; the first that is not is the refusal.
use Rattle.std.proofs.Common.{◌≡◌, false, [], sym, arith}
use Rattle.std.proofs.lemmas.Bool.Decides.{nat_tests}
use Rattle.refusal.proofs.Questions.{asked_yes, asked_no}
use Rattle.plan.specs.Asks.{known, knows}
use Rattle.plan.proofs.ask_letters.Goals as goal

pub returns-in_default : goal.returns-in_default
returns-in_default c =
    let unknown : known c.args.plan.now c.loop-place.place ≡ false = grind (arith, nat_tests) in
    sym (asked_no (knows c.args.plan.now) [] _ c.loop-place.place c.loop-place-test.true unknown c.loop-place.invariant)

pub returns : goal.returns
returns c = sym (asked_yes (knows c.args.plan.now) [] _ (λ p h. c.loop-place.invariant p (omega arith)))
