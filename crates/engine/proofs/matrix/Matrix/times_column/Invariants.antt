use Rattle.engine.specs.Matrices.{entry}
use Rattle.engine.proofs.Adds.{Summed}
use Rattle.engine.proofs.matrix.Matrix.times_column.Given as goal

abbrev pub invariant-loop-k : goal.invariant-loop-k
invariant-loop-k g l =
    let a = g.E.Algebra in
    let d = l.self.size.rows in
    Summed a d (λ k i. a.ops.mul (entry a d l.self.elements.now i k) (entry a d l.n.elements.now k l.j)) l.k l.out
