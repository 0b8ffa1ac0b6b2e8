use Rattle.std.proofs.Common.{◌≡◌, true, length}
use Rattle.engine.specs.Matrices.{Normal, means}
use Rattle.engine.proofs.Adds.{Written}
use Rattle.engine.proofs.matrix.add_row.Given as goal

abbrev pub invariant-loop-p : goal.invariant-loop-p
invariant-loop-p g l =
    let a = g.E.Algebra in
    a.normal l.a ≡ true → Normal a.normal l.b (length l.initial.out) → Normal a.normal l.initial.out (length l.initial.out)
    → Written a (λ q. a.ops.add (means a l.initial.out q) (a.ops.mul (a.mean l.a) (means a l.b q))) l.initial.out l.p l.out
