-- One turn of a join: a row of the product takes the place of the row that it was made of, or a column that of its column.
use Rattle.std.proofs.Common.{◌≡◌, ℕ, ◌+◌, ◌*◌, ◌/◌, ◌%◌, ◌<◌, ◌≤◌, true, List, length, take, drop, sym, refl, ap, ◌∙◌, subst, inl, inr, mod-lt, suc-mul, mul_comm, div-lt_iff_lt-mul, add-one, arith}
use native.Mathlib.Nat.{div-add-mod}
use borrow.Rule.Slice.PartMut.{put_mid}
use Rattle.std.proofs.lemmas.Bool.{cases_lt, cases_eq}
use Rattle.std.proofs.lemmas.Slice.{take-put_mid_below, drop-put_mid}
use Rattle.algebra.specs.Sums.{at}
use Rattle.algebra.specs.declared.Algebra.{Ghosts as Algebra}
use Rattle.algebra.proofs.Sums.{sum_cong, mul_both}
use Rattle.algebra.proofs.Places.{at_drop, at_part, at_put, at_same_front, at_same_rest, at_take}
use Rattle.engine.specs.Matrices.{entry, means, times, IsProduct, Joined, Normal, WithColumn}
use Rattle.engine.proofs.Places.{row_in, earlier, drop_more}

-- each place of a matrix is an entry of it
pub by_entry : (P : ℕ → Type 0) (d : ℕ) → ((i j : ℕ) → i < d → j < d → P (i * d + j)) → (p : ℕ) → p < d * d → P p
by_entry P d all p h =
    let pos : 0 < d = elim (cases_lt 0 d) [ inl l ↦ l | inr g ↦ absurd (let z : d ≡ 0 = omega arith in let e : d * d ≡ 0 = rw z in omega arith) ] in
    let is : p / d * d + p % d ≡ p = ap (λ n. n + p % d) (mul_comm (p / d) d) ∙ div-add-mod p d in
    subst P is (all (p / d) (p % d) (row_of p d pos h) (mod-lt p pos))
  where
    row_of : (p d : ℕ) → 0 < d → p < d * d → p / d < d
    row_of p d pos h = (div-lt_iff_lt-mul pos).1 h

module _ {E V : Type 0} (z : V) (f : E → V) (d : ℕ) (m : ℕ → ℕ → V) (was : List E) where
  -- the first i rows are those of m, and the others are as they were
  pub record Rows (i : ℕ) (now : List E) : Type 0 where
    pub rows : (p j : ℕ) → p < i → j < d → at z f now (p * d + j) ≡ m p j
    pub rest : drop (i * d) now ≡ drop (i * d) was

  pub no_rows : Rows 0 was
  no_rows = record { rows = λ p j h l. absurd (omega arith); rest = refl }

  -- what a turn reads is the row that was there
  pub row_was : (i s n : ℕ) (now : List E) (q : ℕ) → s ≡ i * d → q < n → Rows i now → at z f (take n (drop s now)) q ≡ at z f was (i * d + q)
  row_was i s n now q es h done =
      at_part z f s n now q h ∙ ap (λ p. at z f now (p + q)) es ∙ at_same_rest z f (i * d) now was (i * d + q) (omega arith) done.rest

  pub row_more : (i s n : ℕ) (now row : List E) → s ≡ i * d → n ≡ d → length row ≡ d → s + d ≤ length now
      → ((j : ℕ) → j < d → at z f row j ≡ m i j) → Rows i now → Rows (i + 1) (put_mid s n now row)
  row_more i s n now row es en long inside made done =
      let step : (i + 1) * d ≡ i * d + d = ap (λ x. x * d) (add-one i) ∙ suc-mul i d in
      let rest : (i + 1) * d ≡ s + d = omega arith in
      let low : s ≤ length now = omega arith in
      let next : List E = put_mid s n now row in
      let front : take s next ≡ take s now = take-put_mid_below s n now row s (omega arith) low in
      let back : drop (s + d) next ≡ drop (s + d) now = drop-put_mid s n now row (s + d) (omega arith) low (omega arith) in
      record {
        rows = λ p j h l. elim (cases_lt p i) [
          | inl lt ↦ at_same_front z f s next now (p * d + j) (omega (arith, earlier i p j d lt l)) front ∙ done.rows p j lt l
          | inr ge ↦ let same : p ≡ i = omega arith in rw same (ap (λ q. at z f next (q + j)) (sym es) ∙ at_put z f s n now row j low (omega arith) ∙ made j l)
        ];
        rest = rw rest (back ∙ drop_more (s + d) (i * d) now was (omega arith) done.rest);
      }

module _ {E : Type 0} (e : Algebra E) (d : ℕ) (m was : List E) where
  -- the first j columns are those of the product of m and what was there, and the others are as they were
  pub record Columns (j : ℕ) (now : List E) : Type 0 where
    pub made : (i k : ℕ) → i < d → k < j → entry e d now i k ≡ times e.ops d (entry e d m) (entry e d was) i k
    pub left : (i k : ℕ) → i < d → k < d → j ≤ k → entry e d now i k ≡ entry e d was i k
    pub normal : Normal e.normal now (d * d)

  pub column_more : (j : ℕ) (now column next : List E) → j < d
      → ((i : ℕ) → i < d → means e column i ≡ times e.ops d (entry e d m) (entry e d now) i j) → Normal e.normal column d
      → WithColumn e.ops.zero e.mean column j d now next → WithColumn true e.normal column j d now next → Columns j now → Columns (j + 1) next
  column_more j now column next low made fine put-value put-form done = record {
    made = λ i k h l. elim (cases_lt k j) [
      | inl lt ↦ put-value.others i k h (omega arith) (omega arith) ∙ done.made i k h lt
      | inr ge ↦ let same : k ≡ j = omega arith in
          rw same (put-value.here i h ∙ made i h ∙ sum_cong e.ops d _ _ (λ q lt. mul_both e.ops _ _ _ _ refl (done.left q j lt low (omega arith))))
    ];
    left = λ i k h l n. put-value.others i k h l (omega arith) ∙ done.left i k h l (omega arith);
    normal = by_entry (λ p. at true e.normal next p ≡ true) d (λ i k h l. elim (cases_eq k j) [
      | inl same ↦ rw same (put-form.here i h ∙ fine i h)
      | inr other ↦ put-form.others i k h l other ∙ done.normal (i * d + k) (omega (arith, row_in i d h))
    ]);
  }

-- a part of the work area that has two matrices, of which the first became their product
pub joined : {E : Type 0} (e : Algebra E) (d a n : ℕ) (was pair : List E) → n ≡ 2 * (d * d) → a + n ≤ length was → length pair ≡ n
    → IsProduct e d (take (d * d) (take n (drop a was))) (drop (d * d) (take n (drop a was))) (take (d * d) pair) → Joined e d a was (put_mid a n was pair)
joined e d a n was pair en inside long done =
    let low : a ≤ length was = omega arith in
    let v : List _ → ℕ → e.Value = means e in
    let old : (p : ℕ) → p < n → v (take n (drop a was)) p ≡ v was (a + p) = λ p h. at_part e.ops.zero e.mean a n was p h in
    record {
      before = take-put_mid_below a n was pair a (omega arith) low;
      after = drop-put_mid a n was pair (a + d * d + d * d) (omega arith) low long;
      product = λ i j h l. at_put e.ops.zero e.mean a n was pair (i * d + j) low (omega (arith, row_in i d h))
          ∙ sym (at_take e.ops.zero e.mean (d * d) pair (i * d + j) (omega (arith, row_in i d h))) ∙ done.product i j h l
          ∙ sum_cong e.ops d _ _ (λ q lt. mul_both e.ops _ _ _ _
          (at_take e.ops.zero e.mean (d * d) (take n (drop a was)) (i * d + q) (omega (arith, row_in i d h)) ∙ old (i * d + q) (omega (arith, row_in i d h)))
          (at_drop e.ops.zero e.mean (d * d) (take n (drop a was)) (q * d + j) ∙ old (d * d + (q * d + j)) (omega (arith, row_in q d lt)) ∙ ap (v was) (omega arith)));
      normal = λ p h. at_put true e.normal a n was pair p low (omega arith) ∙ sym (at_take true e.normal (d * d) pair p h) ∙ done.normal p h;
    }
