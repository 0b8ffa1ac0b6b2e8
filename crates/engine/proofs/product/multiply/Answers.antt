-- Rows in normal form mean what they did, so the product is that of the matrices that were given.
use Rattle.std.proofs.Common.{◌≡◌, ℕ, ◌+◌, ◌*◌, ◌<◌, ◌≤◌, true, ◌&&◌, leb, List, [], ◌++◌, length, take, drop, sym, refl, ap, ◌∙◌, zero-add, arith}
use Rattle.std.proofs.lemmas.Bool.Decides.{nat_tests}
use Rattle.std.proofs.lemmas.List.{length-take-le}
use Rattle.std.proofs.lemmas.Slice.{drop-append-drop}
use Rattle.algebra.specs.declared.Algebra.{Ghosts as Algebra}
use Rattle.algebra.proofs.Sums.{sum_cong, mul_both}
use Rattle.algebra.proofs.Places.{at_append_left, at_drop, at_take}
use Rattle.refusal.proofs.Questions.{asked_yes, asked_no}
use Rattle.engine.specs.Matrices.{IsProduct, Product, means, multiplies}
use Rattle.engine.proofs.Places.{row_in}
use Rattle.engine.proofs.product.multiply.Goals as goal

-- the product of matrices that mean the same; past them the work area is as it was
product_of : {E : Type 0} (a : Algebra E) (d n : ℕ) (was fine now : List E) → n ≡ 2 * (d * d) → length now ≡ n
    → ((p : ℕ) → p < n → means a fine p ≡ means a (take n was) p)
    → IsProduct a d (take (d * d) fine) (drop (d * d) fine) (take (d * d) now) → Product a d was (now ++ drop n was)
product_of a d n was fine now en long same done =
    let z : a.Value = a.ops.zero in
    let f = a.mean in
    let old : (p : ℕ) → p < n → means a fine p ≡ means a was p = λ p h. same p h ∙ at_take z f n was p h in
    record {
      cells = λ i j h l. ap (means a (now ++ drop n was)) (zero-add (i * d + j))
          ∙ at_append_left z f now (drop n was) (i * d + j) (omega (arith, row_in i d h))
          ∙ sym (at_take z f (d * d) now (i * d + j) (omega (arith, row_in i d h))) ∙ done.product i j h l
          ∙ sum_cong a.ops d _ _ (λ q lt. mul_both a.ops _ _ _ _
          (at_take z f (d * d) fine (i * d + q) (omega (arith, row_in i d h)) ∙ old (i * d + q) (omega (arith, row_in i d h)) ∙ ap (means a was) (sym (zero-add (i * d + q))))
          (at_drop z f (d * d) fine (q * d + j) ∙ old (d * d + (q * d + j)) (omega (arith, row_in q d lt))));
      rest = drop-append-drop n was now (2 * (d * d)) (omega arith) long;
    }

pub returns-then-not-has_two : goal.returns-then-not-has_two
returns-then-not-has_two g c =
    record {
      answer = sym (asked_no (multiplies c.args.d (length c.args.work.now) (length c.args.row.now)) [] _ 0 (omega arith) (sym c.if-not-has_two.ensures) (λ k h. absurd (omega arith)));
      product = (refl, refl);
    }

-- what the test found
two : (d k n : ℕ) → true ≡ (leb d 64 && (leb d k && leb (2 * (d * d)) n)) → (d ≤ 64) × (d ≤ k) × (2 * (d * d) ≤ n)
two d k n e = grind (arith, nat_tests)

pub returns : goal.returns
returns g c =
    let n : ℕ = 2 * c.elements.result in
    let is : n ≡ 2 * (c.args.d * c.args.d) = ap (λ k. 2 * k) c.elements.ensures in
    let has = two c.args.d (length c.args.row.now) (length c.args.work.now) c.if-not-has_two.ensures in
    let room : n ≤ length c.args.work.now = omega (arith, has.2) in
    let cut : length (take n c.args.work.now) ≡ n = length-take-le n c.args.work.now room in
    record {
      answer = sym (asked_yes (multiplies c.args.d (length c.args.work.now) (length c.args.row.now)) [] _ (λ p h. sym c.if-not-has_two.ensures));
      product = product_of g.E.Algebra c.args.d n c.args.work.now c.normalize.new.xs c.join_pair.new.pair is (c.join_pair.auto.pair ∙ c.normalize.auto.xs ∙ cut)
          (λ p h. c.normalize.ensures.same p (omega arith)) c.join_pair.ensures;
    }
