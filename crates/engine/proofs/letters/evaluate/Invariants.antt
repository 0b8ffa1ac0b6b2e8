use Rattle.std.proofs.Common.{◌≡◌, ℕ, ◌+◌, true, length}
use Rattle.plan.specs.Plans.{after}
use Rattle.plan.specs.Asks.{tally, is, blocks}
use Rattle.recursion.specs.Steps.{rule}
use Rattle.engine.specs.Blocks.{chosen}
use Rattle.engine.specs.Letters.{Doing}
use Rattle.engine.proofs.letters.evaluate.Given as goal

-- what the letters so far have built, in buffers of the same lengths, with room for the blocks to come
abbrev pub invariant-loop-code : goal.invariant-loop-code
invariant-loop-code g l =
    let a = g.E.Algebra in
    Doing g.T.Target.Applied a l.size.rows (chosen (rule a g.R.Recursion l.r).entry l.symbols) l.initial.target l.initial.buffer (after l.plan l.code-index) l.stack.top l.stack.next l.stack.applied l.target l.buffer l.work
    × (length l.buffer ≡ length l.initial.buffer) × (length l.work ≡ length l.initial.work) × (length l.row ≡ length l.initial.row)
    × ((n : ℕ) → tally (is l.plan 97) l.code-index + n ≡ blocks l.plan → g.T.Target.roomy l.target l.size.rows (length l.buffer) n ≡ true)
