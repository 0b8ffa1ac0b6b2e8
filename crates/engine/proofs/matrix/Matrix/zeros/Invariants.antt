use Rattle.std.proofs.Common.{◌≤◌}
use Rattle.engine.proofs.matrix.Matrix.zeros.Given as goal

abbrev pub invariant-loop-x : goal.invariant-loop-x
invariant-loop-x g l = l.count ≤ l.x-index
