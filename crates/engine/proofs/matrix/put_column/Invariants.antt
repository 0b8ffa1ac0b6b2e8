use Rattle.std.proofs.Common.{true}
use Rattle.engine.proofs.Writes.{Writing}
use Rattle.engine.proofs.matrix.put_column.Given as goal

abbrev pub invariant-loop-i : goal.invariant-loop-i
invariant-loop-i g l =
    let a = g.E.Algebra in
    Writing a.ops.zero a.mean l.column l.j l.size.rows l.initial.m l.i l.m × Writing true a.normal l.column l.j l.size.rows l.initial.m l.i l.m
