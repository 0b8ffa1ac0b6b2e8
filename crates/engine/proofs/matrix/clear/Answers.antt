-- Each turn sets one more place to zero.
use Rattle.std.proofs.Common.{arith}
use Rattle.engine.proofs.Adds.{written_more}
use Rattle.engine.proofs.matrix.clear.Goals as goal

pub loop-x-preserved : goal.loop-x-preserved
loop-x-preserved g c =
    written_more g.E.Algebra _ c.args.out.now c.loop-x.x-index c.loop-x.out _ (omega arith) c.zero.ensures.value c.zero.ensures.normal c.loop-x.invariant
