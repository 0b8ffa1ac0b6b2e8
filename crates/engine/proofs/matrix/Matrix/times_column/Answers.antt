-- Each turn adds one more column of the matrix, times its element of the column of n, or passes it over where that is zero.
use Rattle.std.proofs.Common.{◌≡◌, ℕ, ◌+◌, ◌*◌, sym, refl, ap, ◌∙◌, subst, arith}
use Rattle.engine.specs.Matrices.{entry, means}
use Rattle.engine.proofs.Adds.{Summed, none_summed, sum_of, summed_more, summed_skip}
use Rattle.engine.proofs.matrix.Matrix.times_column.Goals as goal
use Rattle.engine.proofs.matrix.Matrix.times_column.Goals.{then-not-is_zero, else-not-is_zero}

pub loop-k-init : goal.loop-k-init
loop-k-init g c = none_summed g.E.Algebra _ _ _ (λ q h. c.clear.ensures.zero q (omega arith)) (λ q h. c.clear.ensures.normal q (omega arith))

pub loop-k-preserved : goal.loop-k-preserved
loop-k-preserved g c =
    let a = g.E.Algebra in
    let k = c.loop-k.k in
    let j = c.args.j in
    let d = c.args.self.now.size.rows in
    let m = c.args.self.now.elements.now in
    let n = c.args.n.now.elements.now in
    let n-is : entry a d n k j ≡ a.mean c.entry-b.result = sym (c.entry-b.ensures.value ∙ ap (λ r. means a n (k * r + j)) c.requires.same_size) in
    let t : ℕ → ℕ → a.Value = λ l i. a.ops.mul (entry a d m i l) (entry a d n l j) in
    elim c.if-not-is_zero.branch [
      | then-not-is_zero w ↦
          subst (Summed a d t (k + 1)) (sym w.out-is)
          (summed_more a d t k c.loop-k.out w.add_column.new.out
          (λ q h. sum_of a (w.add_column.ensures.added q h) refl refl (sym n-is))
          w.add_column.ensures.normal c.loop-k.invariant)
      | else-not-is_zero w ↦
          let zero_is : entry a d n k j ≡ a.ops.zero = n-is ∙ w.if-not-is_zero.ensures.zero c.entry-b.ensures.normal refl in
          subst (Summed a d t (k + 1)) (sym w.out-is)
          (summed_skip a g.met.E.Algebra.lawful d t k c.loop-k.out
          (λ q h. ap (a.ops.mul (entry a d m q k)) zero_is ∙ g.met.E.Algebra.lawful.mul-zero (entry a d m q k))
          c.loop-k.invariant)
    ]
