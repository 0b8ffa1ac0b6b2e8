-- The row that is put in place of the state is the state times the matrix.
use Rattle.std.proofs.Common.{◌≡◌, length, drop, refl, ap, ◌∙◌, arith}
use Rattle.std.proofs.lemmas.List.{length-take-le}
use Rattle.algebra.proofs.Sums.{sum_cong, mul_both}
use Rattle.algebra.proofs.Places.{at_append_left, at_take}
use Rattle.engine.specs.Matrices.{means}
use Rattle.engine.proofs.matrix.apply.Goals as goal

pub returns-clause-times : goal.returns-clause-times
returns-clause-times g c m-all j h =
    let a = g.E.Algebra in
    let times = c.row_times.ensures (λ p b. c.normalize.ensures.normal p (omega (arith, length-take-le c.args.size.rows c.args.state.now c.requires.state_in_bounds))) m-all in
    let long : length c.copy_from_slice.new.self ≡ c.args.size.rows = c.copy_from_slice.auto.self ∙ c.normalize.auto.xs ∙ length-take-le c.args.size.rows c.args.state.now c.requires.state_in_bounds in
    at_append_left a.ops.zero a.mean c.copy_from_slice.new.self (drop c.args.size.rows c.args.state.now) j (omega arith)
    ∙ ap (λ xs. means a xs j) c.copy_from_slice.ensures.after ∙ times.0 j h
    ∙ sum_cong a.ops c.args.size.rows _ _ (λ l b. mul_both a.ops _ _ _ _ (c.normalize.ensures.same l (omega (arith, length-take-le c.args.size.rows c.args.state.now c.requires.state_in_bounds)) ∙ at_take a.ops.zero a.mean c.args.size.rows c.args.state.now l b) refl)
