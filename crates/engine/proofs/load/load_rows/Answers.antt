-- Each turn writes one more row of the symbol's matrix.
use Rattle.std.proofs.Common.{◌≡◌, ◌+◌, ◌-◌, true, arith}
use Rattle.algebra.specs.Sums.{at}
use Rattle.engine.proofs.Joins.{by_entry, row_more}
use Rattle.engine.proofs.load.load_rows.Goals as goal

pub loop-i-preserved : goal.loop-i-preserved
loop-i-preserved g c =
    let e = g.R.Element.Algebra in
    let d = c.args.size.rows in
    let i = c.loop-i.i in
    let s = c.row_start-start.result in
    let inside = c.row_start-start.ensures.inside in
    let long = c.load_row.auto.row in (
      row_more e.ops.zero e.mean d _ c.args.m.now i s (s + d - s) c.loop-i.m c.load_row.new.row
          c.row_start-start.ensures.value (omega arith) (omega arith) (omega arith) (λ j h. c.load_row.ensures.value j (omega arith)) c.loop-i.invariant.0,
      row_more true e.normal d _ c.args.m.now i s (s + d - s) c.loop-i.m c.load_row.new.row
          c.row_start-start.ensures.value (omega arith) (omega arith) (omega arith) (λ j h. c.load_row.ensures.normal j (omega arith)) c.loop-i.invariant.1,
    )

pub returns : goal.returns
returns g c = record {
  cells = λ i j h l. c.loop-i.invariant.0.rows i j (omega arith) l;
  normal = by_entry (λ p. at true g.R.Element.Algebra.normal c.loop-i.m p ≡ true) c.args.size.rows (λ i j h l. c.loop-i.invariant.1.rows i j (omega arith) l);
}
