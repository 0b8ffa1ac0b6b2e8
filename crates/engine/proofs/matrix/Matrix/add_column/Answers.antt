-- Each turn adds the column's element, times b, at one more place.
use Rattle.std.proofs.Common.{◌<◌, length, refl, ◌∙◌, arith}
use Rattle.engine.proofs.Adds.{read_means, read_normal, sum_of, written_more}
use Rattle.engine.proofs.matrix.Matrix.add_column.Goals as goal

pub loop-p-preserved : goal.loop-p-preserved
loop-p-preserved g c =
    let a = g.E.Algebra in
    let p = c.loop-p.p in
    let in-out : p < length c.loop-p.out = omega arith in
    let old = read_means a _ c.args.out.now p c.loop-p.out c.index-out-p.result in-out c.loop-p.invariant in
    let x-normal = read_normal a _ c.args.out.now p c.loop-p.out c.index-out-p.result in-out c.loop-p.invariant ∙ c.requires.out_normal p (omega arith) in
    written_more a _ c.args.out.now p c.loop-p.out _ in-out
    (sum_of a (c.accumulate.ensures.value x-normal c.entry.ensures.normal c.requires.b_normal) old c.entry.ensures.value refl)
    (c.accumulate.ensures.normal x-normal c.entry.ensures.normal c.requires.b_normal)
    c.loop-p.invariant
