-- Each turn writes one more element of the column.
use Rattle.std.proofs.Common.{◌<◌, true, length, arith}
use Rattle.engine.proofs.Writes.{written_more}
use Rattle.engine.proofs.matrix.put_column.Goals as goal

pub loop-i-preserved : goal.loop-i-preserved
loop-i-preserved g c =
    let a = g.E.Algebra in
    let s = c.place.result in
    let work = c.loop-i.m in
    let column = c.args.column.now in
    let inside : s < length work = omega (arith, c.place.ensures.inside) in (
      written_more a.ops.zero a.mean column c.args.j c.args.size.rows _ c.loop-i.i s work _ c.requires.j_inside c.place.ensures.value inside (omega arith) c.index-column-i.is c.loop-i.invariant.0,
      written_more true a.normal column c.args.j c.args.size.rows _ c.loop-i.i s work _ c.requires.j_inside c.place.ensures.value inside (omega arith) c.index-column-i.is c.loop-i.invariant.1,
    )
