use Rattle.std.proofs.Common.{true}
use Rattle.engine.specs.Matrices.{entry, times}
use Rattle.engine.proofs.Joins.{Rows}
use Rattle.engine.proofs.matrix.Matrix.rows_times.Given as goal

abbrev pub invariant-loop-i : goal.invariant-loop-i
invariant-loop-i g l =
    let a = g.E.Algebra in
    let d = l.self.size.rows in
    Rows a.ops.zero a.mean d (times a.ops d (entry a d l.initial.first) (entry a d l.self.elements.now)) l.initial.first l.i l.first
    × Rows true a.normal d (λ i j. true) l.initial.first l.i l.first
