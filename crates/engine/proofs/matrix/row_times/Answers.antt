-- Each turn adds one more row of the matrix, times its element of x, or passes it over where that is zero.
use Rattle.std.proofs.Common.{◌≡◌, ℕ, ◌+◌, ◌-◌, ◌<◌, true, length, sym, refl, ap, ◌∙◌, subst, arith}
use Rattle.algebra.proofs.Sums.{sum_done}
use Rattle.algebra.proofs.Places.{at_read, at_part}
use Rattle.engine.specs.Matrices.{entry, means}
use Rattle.engine.proofs.Adds.{Summed, none_summed, sum_of, summed_more, summed_skip}
use Rattle.engine.proofs.matrix.row_times.Goals as goal
use Rattle.engine.proofs.matrix.row_times.Goals.{then-not-is_zero, else-not-is_zero}

pub loop-k-init : goal.loop-k-init
loop-k-init g c x-all m-all = none_summed g.E.Algebra _ _ _ (λ q h. c.clear.ensures.zero q (omega arith)) (λ q h. c.clear.ensures.normal q (omega arith))

pub loop-k-preserved : goal.loop-k-preserved
loop-k-preserved g c x-all m-all =
    let a = g.E.Algebra in
    let k = c.loop-k.k in
    let d = c.args.size.rows in
    let x = c.args.x.now in
    let m = c.args.m.now in
    let in-x : k < length x = omega arith in
    let x-is : means a x k ≡ a.mean c.index-x-k.result = at_read a.ops.zero a.mean x k _ in-x c.index-x-k.is in
    let x-normal = sym (at_read true a.normal x k _ in-x c.index-x-k.is) ∙ x-all k (omega arith) in
    let done = c.loop-k.invariant x-all m-all in
    let t : ℕ → ℕ → a.Value = λ i j. a.ops.mul (means a x i) (entry a d m i j) in
    elim c.if-not-is_zero.branch [
      | then-not-is_zero w ↦
          let s = w.row_start-start.result in
          let added = w.add_row.ensures x-normal
          (λ p h. at_part true a.normal s (s + d - s) m p (omega arith) ∙ m-all (s + p) (omega (arith, w.row_start-start.ensures.inside)))
          (λ p h. done.normal p (omega arith)) in
          subst (Summed a d t (k + 1)) (sym w.out-is)
          (summed_more a d t k c.loop-k.out w.add_row.new.out
          (λ q h. sum_of a (added.0 q (omega arith)) refl (sym x-is) (at_part a.ops.zero a.mean s (s + d - s) m q (omega arith) ∙ ap (λ n. means a m (n + q)) w.row_start-start.ensures.value))
          (λ q h. added.1 q (omega arith)) done)
      | else-not-is_zero w ↦
          let zero_is : means a x k ≡ a.ops.zero = x-is ∙ w.if-not-is_zero.ensures.zero x-normal refl in
          subst (Summed a d t (k + 1)) (sym w.out-is)
          (summed_skip a g.met.E.Algebra.lawful d t k c.loop-k.out
          (λ q h. ap (λ u. a.ops.mul u (entry a d m k q)) zero_is ∙ g.met.E.Algebra.lawful.zero-mul (entry a d m k q))
          done)
    ]

pub returns : goal.returns
returns g c x-all m-all =
    let all = c.loop-k.invariant x-all m-all in
    ((λ j h. sum_done g.E.Algebra.ops _ _ _ _ (omega arith) (all.sums j h)), all.normal)
