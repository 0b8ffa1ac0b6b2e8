use Rattle.plan.proofs.Counts.{Counted}
use Rattle.plan.proofs.ask_standing.Given as goal

abbrev pub invariant-loop-place : goal.invariant-loop-place
invariant-loop-place l = Counted l.plan l.place l.tally
