-- Each letter j before the place makes a block; the first that does not is the refusal.
use Rattle.std.proofs.Common.{◌≡◌, ◌≤◌, true, false, [], sym, arith}
use Rattle.std.proofs.lemmas.Bool.Decides.{nat_tests}
use Rattle.refusal.proofs.Questions.{asked_yes, asked_no}
use Rattle.plan.specs.Asks.{finds, fits, height, makes}
use Rattle.plan.proofs.ask_blocks.Goals as goal

pub returns-then-not-is_block : goal.returns-then-not-is_block
returns-then-not-is_block c =
    let plan = c.args.plan.now in
    let large : makes plan c.loop-place.place ≡ false = let e = c.if-not-is_block.ensures in grind (arith, nat_tests) in
    sym (asked_no (fits plan) [] _ c.loop-place.place c.loop-place-test.true large c.loop-place.invariant)

pub returns : goal.returns
returns c = sym (asked_yes (fits c.args.plan.now) [] _ (λ p h. c.loop-place.invariant p (omega arith)))
