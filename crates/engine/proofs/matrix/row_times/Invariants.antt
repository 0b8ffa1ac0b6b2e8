use Rattle.std.proofs.Common.{◌*◌}
use Rattle.engine.specs.Matrices.{Normal, entry, means}
use Rattle.engine.proofs.Adds.{Summed}
use Rattle.engine.proofs.matrix.row_times.Given as goal

abbrev pub invariant-loop-k : goal.invariant-loop-k
invariant-loop-k g l =
    let a = g.E.Algebra in
    let d = l.size.rows in
    Normal a.normal l.x d → Normal a.normal l.m (d * d) → Summed a d (λ i j. a.ops.mul (means a l.x i) (entry a d l.m i j)) l.k l.out
