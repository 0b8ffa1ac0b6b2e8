use Rattle.engine.specs.Matrices.{means}
use Rattle.engine.proofs.Adds.{Written}
use Rattle.engine.proofs.matrix.normalize.Given as goal

abbrev pub invariant-loop-x : goal.invariant-loop-x
invariant-loop-x g l = Written g.E.Algebra (means g.E.Algebra l.initial.xs) l.initial.xs l.x-index l.xs
