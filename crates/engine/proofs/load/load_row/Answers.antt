-- Each turn writes one more entry of the row, in normal form.
use Rattle.std.proofs.Common.{arith}
use Rattle.engine.proofs.Adds.{written_more}
use Rattle.engine.proofs.load.load_row.Goals as goal

pub loop-j-preserved : goal.loop-j-preserved
loop-j-preserved g c =
    written_more g.R.Element.Algebra _ c.args.row.now c.loop-j.j c.loop-j.row _ (omega arith) c.element.ensures.value c.element.ensures.normal c.loop-j.invariant
