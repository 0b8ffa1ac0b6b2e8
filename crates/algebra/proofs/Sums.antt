-- Sums over places: their turns in a loop, and what the laws make of them.
use Rattle.std.proofs.Common.{◌≡◌, ℕ, zero, suc, ◌+◌, ◌<◌, sym, refl, ap, ◌∙◌, add-one, arith}
use Rattle.algebra.specs.Laws.{Ops, Laws}
use Rattle.algebra.specs.Sums.{sum}

module _ {V : Type 0} (k : Ops V) where
  pub sum_none : (f : ℕ → V) → sum k 0 f ≡ k.zero
  unfolding sum
  sum_none f = refl

  pub sum_more : (n : ℕ) (f : ℕ → V) → sum k (n + 1) f ≡ k.add (sum k n f) (f n)
  unfolding sum
  sum_more n f = rw add-one

  pub mul_both : (x y v w : V) → x ≡ v → y ≡ w → k.mul x y ≡ k.mul v w
  mul_both x y v w l r = cc

  -- a loop that summed f to its end
  pub sum_done : (n d : ℕ) (f : ℕ → V) (is : V) → n ≡ d → is ≡ sum k n f → is ≡ sum k d f
  sum_done n d f is whole sums = rw whole at sums

  -- the sums of two functions that agree below n are equal
  pub sum_cong : (n : ℕ) (f h : ℕ → V) → ((i : ℕ) → i < n → f i ≡ h i) → sum k n f ≡ sum k n h
  unfolding sum
  sum_cong zero f h e = refl
  sum_cong (suc n) f h e =
      let here : f n ≡ h n = e n (omega arith) in
      let below : sum k n f ≡ sum k n h = sum_cong n f h (λ i l. e i (omega arith)) in
      cc

-- what the laws give
module _ {V : Type 0} (k : Ops V) (laws : Laws k) where
  pub sum_zero : (n : ℕ) → sum k n (λ i. k.zero) ≡ k.zero
  unfolding sum
  sum_zero zero = refl
  sum_zero (suc n) = ap (λ x. k.add x k.zero) (sum_zero n) ∙ laws.zero-add k.zero

  -- (a + b) + (c + d) is (a + c) + (b + d)
  shuffle : (a b c d : V) → k.add (k.add a b) (k.add c d) ≡ k.add (k.add a c) (k.add b d)
  shuffle a b c d =
      laws.add_assoc a b (k.add c d) ∙ ap (k.add a) (sym (laws.add_assoc b c d) ∙ ap (λ x. k.add x d) (laws.add_comm b c) ∙ laws.add_assoc c b d) ∙ sym (laws.add_assoc a c (k.add b d))

  pub sum_add : (n : ℕ) (f h : ℕ → V) → sum k n (λ i. k.add (f i) (h i)) ≡ k.add (sum k n f) (sum k n h)
  unfolding sum
  sum_add zero f h = sym (laws.zero-add k.zero)
  sum_add (suc n) f h = ap (λ x. k.add x (k.add (f n) (h n))) (sum_add n f h) ∙ shuffle _ _ _ _

  pub sum_swap : (n m : ℕ) (f : ℕ → ℕ → V) → sum k n (λ i. sum k m (λ j. f i j)) ≡ sum k m (λ j. sum k n (λ i. f i j))
  unfolding sum
  sum_swap zero m f = sym (sum_zero m)
  sum_swap (suc n) m f = ap (λ x. k.add x (sum k m (f n))) (sum_swap n m f) ∙ sym (sum_add m (λ j. sum k n (λ i. f i j)) (f n))

  pub mul_sum : (n : ℕ) (a : V) (f : ℕ → V) → k.mul a (sum k n f) ≡ sum k n (λ i. k.mul a (f i))
  unfolding sum
  mul_sum zero a f = laws.mul-zero a
  mul_sum (suc n) a f = laws.mul-add a (sum k n f) (f n) ∙ ap (λ x. k.add x (k.mul a (f n))) (mul_sum n a f)

  pub sum_mul : (n : ℕ) (f : ℕ → V) (a : V) → k.mul (sum k n f) a ≡ sum k n (λ i. k.mul (f i) a)
  unfolding sum
  sum_mul zero f a = laws.zero-mul a
  sum_mul (suc n) f a = laws.add-mul a (sum k n f) (f n) ∙ ap (λ x. k.add x (k.mul (f n) a)) (sum_mul n f a)

  -- a row times the product of two matrices
  pub row_assoc : (d : ℕ) (v : ℕ → V) (m n : ℕ → ℕ → V) (j : ℕ)
      → sum k d (λ i. k.mul (v i) (sum k d (λ l. k.mul (m i l) (n l j)))) ≡ sum k d (λ l. k.mul (sum k d (λ i. k.mul (v i) (m i l))) (n l j))
  row_assoc d v m n j =
      sum_cong k d _ _ (λ i b. mul_sum d (v i) (λ l. k.mul (m i l) (n l j)))
      ∙ sum_swap d d (λ i l. k.mul (v i) (k.mul (m i l) (n l j)))
      ∙ sum_cong k d _ _ (λ l b. sum_cong k d _ _ (λ i c. sym (laws.mul_assoc (v i) (m i l) (n l j))) ∙ sym (sum_mul d (λ i. k.mul (v i) (m i l)) (n l j)))
