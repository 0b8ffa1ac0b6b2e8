use Rattle.engine.proofs.Adds.{Written}
use Rattle.engine.proofs.matrix.clear.Given as goal

abbrev pub invariant-loop-x : goal.invariant-loop-x
invariant-loop-x g l = Written g.E.Algebra (λ _. g.E.Algebra.ops.zero) l.initial.out l.x-index l.out
