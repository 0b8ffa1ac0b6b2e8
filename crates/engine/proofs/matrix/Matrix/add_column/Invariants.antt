use Rattle.engine.specs.Matrices.{entry, means}
use Rattle.engine.proofs.Adds.{Written}
use Rattle.engine.proofs.matrix.Matrix.add_column.Given as goal

abbrev pub invariant-loop-p : goal.invariant-loop-p
invariant-loop-p g l =
    let a = g.E.Algebra in
    Written a (λ q. a.ops.add (means a l.initial.out q) (a.ops.mul (entry a l.self.size.rows l.self.elements.now q l.k) (a.mean l.b))) l.initial.out l.p l.out
