-- The part of the work area that was written is the matrix.
use Rattle.std.proofs.Common.{◌+◌, ◌*◌, true, ◌∙◌, arith}
use Rattle.std.proofs.lemmas.Slice.{take-put_mid_below}
use Rattle.algebra.proofs.Places.{at_put}
use Rattle.engine.proofs.Places.{row_in}
use Rattle.engine.proofs.load.load.Goals as goal

pub returns : goal.returns
returns g c =
    let e = g.R.Element.Algebra in
    let a = c.args.a in
    let d = c.args.size.rows in
    let work = c.args.work.now in
    let m = c.load_rows.new.m in
    let long = c.load_rows.auto.m in
    let is = c.elements.ensures in
    record {
      before = take-put_mid_below a _ work m a (omega arith) (omega arith);
      cells = λ i j h l. at_put e.ops.zero e.mean a _ work m (i * d + j) (omega arith) (omega (arith, row_in i d h)) ∙ c.load_rows.ensures.cells i j h l;
      normal = λ p h. at_put true e.normal a _ work m p (omega arith) (omega arith) ∙ c.load_rows.ensures.normal p h;
    }
