use Rattle.std.proofs.Common.{true}
use Rattle.engine.proofs.Joins.{Rows}
use Rattle.engine.proofs.load.load_rows.Given as goal

abbrev pub invariant-loop-i : goal.invariant-loop-i
invariant-loop-i g l =
    let e = g.R.Element.Algebra in
    Rows e.ops.zero e.mean l.size.rows (λ i j. e.mean (g.R.Recursion.cell l.r l.symbol i j)) l.initial.m l.i l.m
    × Rows true e.normal l.size.rows (λ i j. true) l.initial.m l.i l.m
