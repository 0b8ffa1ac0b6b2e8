use Rattle.engine.proofs.Adds.{Written}
use Rattle.engine.proofs.load.load_row.Given as goal

abbrev pub invariant-loop-j : goal.invariant-loop-j
invariant-loop-j g l =
    let a = g.R.Element.Algebra in
    Written a (λ q. a.mean (g.R.Recursion.cell l.r l.symbol l.i q)) l.initial.row l.j l.row
