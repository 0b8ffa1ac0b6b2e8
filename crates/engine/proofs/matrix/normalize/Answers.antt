-- Each turn puts one more element into normal form and keeps what it means.
use Rattle.std.proofs.Common.{◌∙◌, arith}
use Rattle.engine.specs.Matrices.{means}
use Rattle.engine.proofs.Adds.{read_means, written_more}
use Rattle.engine.proofs.matrix.normalize.Goals as goal

pub loop-x-preserved : goal.loop-x-preserved
loop-x-preserved g c =
    let a = g.E.Algebra in
    let p = c.loop-x.x-index in
    let old = read_means a (means a c.args.xs.now) c.args.xs.now p c.loop-x.xs c.x-item.result (omega arith) c.loop-x.invariant in
    written_more a _ c.args.xs.now p c.loop-x.xs _ (omega arith) (c.normalized.ensures.value ∙ old) c.normalized.ensures.normal c.loop-x.invariant
