use Rattle.engine.proofs.Joins.{Columns}
use Rattle.engine.proofs.matrix.Matrix.times_columns.Given as goal

abbrev pub invariant-loop-j : goal.invariant-loop-j
invariant-loop-j g l = Columns g.E.Algebra l.self.size.rows l.self.elements.now l.initial.second l.j l.second
