-- Each turn adds a times b's element at one more place.
use Rattle.std.proofs.Common.{◌<◌, true, length, sym, refl, ◌∙◌, arith}
use Rattle.algebra.proofs.Places.{at_read}
use Rattle.engine.proofs.Adds.{none_written, read_means, read_normal, sum_of, written_more}
use Rattle.engine.proofs.matrix.add_row.Goals as goal

pub loop-p-init : goal.loop-p-init
loop-p-init g c a-all b-all out-all = none_written _ _ _

pub loop-p-preserved : goal.loop-p-preserved
loop-p-preserved g c a-all b-all out-all =
    let a = g.E.Algebra in
    let p = c.loop-p.p in
    let b = c.args.b.now in
    let in-out : p < length c.loop-p.out = omega arith in
    let in-b : p < length b = omega arith in
    let done = c.loop-p.invariant a-all b-all out-all in
    let old = read_means a _ c.args.out.now p c.loop-p.out c.index-out-p.result in-out done in
    let x-normal = read_normal a _ c.args.out.now p c.loop-p.out c.index-out-p.result in-out done ∙ out-all p (omega arith) in
    let b-is = at_read a.ops.zero a.mean b p c.index-b-p.result in-b c.index-b-p.is in
    let b-normal = sym (at_read true a.normal b p c.index-b-p.result in-b c.index-b-p.is) ∙ b-all p (omega arith) in
    written_more a _ c.args.out.now p c.loop-p.out _ in-out
    (sum_of a (c.accumulate.ensures.value x-normal a-all b-normal) old refl (sym b-is))
    (c.accumulate.ensures.normal x-normal a-all b-normal)
    done

pub returns : goal.returns
returns g c a-all b-all out-all =
    let done = c.loop-p.invariant a-all b-all out-all in
    ((λ p h. done.values p (omega arith)), (λ p h. done.normal p (omega arith)))
