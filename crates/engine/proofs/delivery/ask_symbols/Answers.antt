-- Each symbol before the place is accepted; the first that is not is the refusal.
use Rattle.std.proofs.Common.{[], sym, arith, below_more}
use Rattle.recursion.specs.Steps.{rule}
use Rattle.refusal.proofs.Questions.{asked_yes, asked_no}
use Rattle.engine.specs.Plain.{accepted}
use Rattle.engine.proofs.delivery.ask_symbols.Goals as goal

pub returns-then-not-accepts : goal.returns-then-not-accepts
returns-then-not-accepts g c =
    sym (asked_no (accepted (rule g.R.Element.Algebra g.R.Recursion c.args.r.now) c.args.symbols.now) [] _ c.loop-place.place c.loop-place-test.true
    (sym c.if-not-accepts.ensures) c.loop-place.invariant)

pub returns : goal.returns
returns g c = sym (asked_yes (accepted (rule g.R.Element.Algebra g.R.Recursion c.args.r.now) c.args.symbols.now) [] _ (λ p h. c.loop-place.invariant p (omega arith)))
