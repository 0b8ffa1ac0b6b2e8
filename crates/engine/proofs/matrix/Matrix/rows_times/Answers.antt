-- Each turn puts one more row of the product in its place.
use Rattle.std.proofs.Common.{◌≡◌, ◌+◌, ◌-◌, ◌*◌, true, length, refl, ap, ◌∙◌, arith}
use Rattle.algebra.specs.Sums.{at}
use Rattle.algebra.proofs.Sums.{sum_cong, mul_both}
use Rattle.engine.specs.Matrices.{means}
use Rattle.engine.proofs.Places.{row_in}
use Rattle.engine.proofs.Joins.{by_entry, no_rows, row_more, row_was}
use Rattle.engine.proofs.matrix.Matrix.rows_times.Goals as goal

pub loop-i-init : goal.loop-i-init
loop-i-init g c = (no_rows _ _ _ _ _, no_rows _ _ _ _ _)

pub loop-i-preserved : goal.loop-i-preserved
loop-i-preserved g c =
    let a = g.E.Algebra in
    let d = c.args.self.now.size.rows in
    let i = c.loop-i.i in
    let s = c.row_start-start.result in
    let row = c.copy_from_slice.new.self in
    let inside = c.row_start-start.ensures.inside in
    let times = c.row_times.ensures
    (λ p h. row_was true a.normal d _ c.args.first.now i s (s + d - s) c.loop-i.first p c.row_start-start.ensures.value (omega arith) c.loop-i.invariant.1
    ∙ c.requires.first_normal (i * d + p) (omega (arith, row_in i d c.loop-i-test.true)))
    c.args.self.now.normal in
    let is : row ≡ c.row_times.new.out = c.copy_from_slice.ensures.after in
    let long : length row ≡ d = ap length is ∙ omega arith in (
      row_more a.ops.zero a.mean d _ c.args.first.now i s (s + d - s) c.loop-i.first row c.row_start-start.ensures.value (omega arith) long (omega arith)
          (λ j h. ap (λ xs. means a xs j) is ∙ times.0 j h ∙ sum_cong a.ops d _ _ (λ l lt. mul_both a.ops _ _ _ _
          (row_was a.ops.zero a.mean d _ c.args.first.now i s (s + d - s) c.loop-i.first l c.row_start-start.ensures.value (omega arith) c.loop-i.invariant.0) refl))
          c.loop-i.invariant.0,
      row_more true a.normal d _ c.args.first.now i s (s + d - s) c.loop-i.first row c.row_start-start.ensures.value (omega arith) long (omega arith)
          (λ j h. ap (λ xs. at true a.normal xs j) is ∙ times.1 j h)
          c.loop-i.invariant.1,
    )

pub returns : goal.returns
returns g c = record {
  product = λ i j h l. c.loop-i.invariant.0.rows i j (omega arith) l;
  normal = by_entry (λ p. at true g.E.Algebra.normal c.loop-i.first p ≡ true) c.args.self.now.size.rows (λ i j h l. c.loop-i.invariant.1.rows i j (omega arith) l);
}
