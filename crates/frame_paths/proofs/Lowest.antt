-- Sums and products of survivors pick the least pair of a cost and a word.
use Rattle.std.proofs.Common.{◌≡◌, ℕ, zero, suc, ◌+◌, ◌*◌, ◌^◌, ◌<◌, ◌≤◌, Bool, true, false, cond, T, ◌⊎◌, sym, refl, subst, inl, inr, ⊎_elim, mul-le-mul_left, arith}
use Rattle.std.proofs.lemmas.Bool.{cases_lt}
use Rattle.std.proofs.lemmas.Bool.Decides.{nat_tests}
use Rattle.algebra.specs.Sums.{sum}
use Rattle.algebra_survivor.specs.Survivors.{longest, ranged, Path, none, some, path, before, lesser, joined, path_ops}
use Rattle.algebra_survivor.specs.Formulas.{Within}
use Rattle.algebra_survivor.specs.Rows.{word_below as words_below}
use Rattle.algebra_survivor.proofs.Formulas.{within_from, path_within}
use Rattle.frame_paths.specs.Survivors.{Lower}

-- v has length n and the least pair of P, or is none where P has no pair
abbrev pub Lowest : ℕ → (ℕ → ℕ → Type 0) → Path → Type 0
Lowest n P none = (a w : ℕ) → P a w → ⊥
Lowest n P (some m a w p) = (m ≡ n) × P a w × ((b z : ℕ) → P b z → Lower a w b z)

pub lower_same : (a w b z : ℕ) → a ≡ b → w ≡ z → Lower a w b z
lower_same a w b z e f = (omega arith, λ _. omega arith)

pub lower_trans : (a w b z d x : ℕ) → Lower a w b z → Lower b z d x → Lower a w d x
lower_trans a w b z d x p q = (omega arith, λ s. let e : a ≡ b = omega arith in let f : b ≡ d = omega arith in omega (arith, p.1 e, q.1 f))

-- a later word stands above an earlier one of n bits
pub lower_add : (n a w b z a' w' b' z' : ℕ) → Lower a w b z → Lower a' w' b' z' → Lower (a + a') (w + 2 ^ n * w') (b + b') (z + 2 ^ n * z')
lower_add n a w b z a' w' b' z' p q =
    (omega arith, λ s. let e : a ≡ b = omega arith in let f : a' ≡ b' = omega arith in omega (arith, p.1 e, mul-le-mul_left (2 ^ n) (q.1 f)))

before_lower : (n a w b z : ℕ) → before n b z n a w ≡ true → Lower b z a w
before_lower n a w b z e = grind (arith, nat_tests)

after_lower : (n a w b z : ℕ) → before n b z n a w ≡ false → Lower a w b z
after_lower n a w b z e = grind (arith, nat_tests)

pub lowest_same : (n : ℕ) (P Q : ℕ → ℕ → Type 0) → ((a w : ℕ) → P a w → Q a w) → ((a w : ℕ) → Q a w → P a w) → (v : Path) → Lowest n P v → Lowest n Q v
lowest_same n P Q to from none l = λ a w q. l a w (from a w q)
lowest_same n P Q to from (some m a w p) l = (l.0, to a w l.1, λ b z q. l.2 b z (from b z q))

module _ (n : ℕ) (P Q : ℕ → ℕ → Type 0) where
  abbrev Either : ℕ → ℕ → Type 0
  Either a w = P a w ⊎ Q a w

  lesser_lowest : (m a w l b z : ℕ) (p : T (ranged m a w)) (q : T (ranged l b z)) → Lowest n P (some m a w p) → Lowest n Q (some l b z q)
      → (t : Bool) → before n b z n a w ≡ t → Lowest n Either (cond t (some l b z q) (some m a w p))
  lesser_lowest m a w l b z p q f g true e =
      (g.0, inr g.1, λ d x. ⊎_elim (λ k. lower_trans b z a w d x (before_lower n a w b z e) (f.2 d x k)) (λ k. g.2 d x k))
  lesser_lowest m a w l b z p q f g false e =
      (f.0, inl f.1, λ d x. ⊎_elim (λ k. f.2 d x k) (λ k. lower_trans a w b z d x (after_lower n a w b z e) (g.2 d x k)))

  lowest_plus : (v u : Path) → Lowest n P v → Lowest n Q u → Lowest n Either (lesser v u)
  lowest_plus none none f g = λ a w. ⊎_elim (f a w) (g a w)
  lowest_plus none (some l b z q) f g = (g.0, inr g.1, λ d x. ⊎_elim (λ k. absurd (f d x k)) (g.2 d x))
  lowest_plus (some m a w p) none f g = (f.0, inl f.1, λ d x. ⊎_elim (f.2 d x) (λ k. absurd (g d x k)))
  lowest_plus (some m a w p) (some l b z q) f g =
      lesser_lowest m a w l b z p q f g _ (subst (λ k. before n b z n a w ≡ before k b z m a w) (sym g.0) (subst (λ k. before n b z n a w ≡ before n b z k a w) (sym f.0) refl))

-- the least of all that some i below d has
pub lowest_sum : (n d : ℕ) (P : ℕ → ℕ → ℕ → Type 0) (f : ℕ → Path) → ((i : ℕ) → i < d → Lowest n (P i) (f i))
    → Lowest n (λ a w. (i : ℕ) × (i < d) × P i a w) (sum path_ops d f)
unfolding sum
lowest_sum n zero P f each = λ a w e. let no : e.0 < 0 = e.1 in absurd (omega arith)
lowest_sum n (suc d) P f each =
    lowest_same n (λ a w. ((i : ℕ) × (i < d) × P i a w) ⊎ P d a w) (λ a w. (i : ℕ) × (i < suc d) × P i a w)
    (λ a w. ⊎_elim (λ e. let low : e.0 < d = e.1 in (e.0, omega arith, e.2)) (λ p. (d, omega arith, p)))
    (λ a w e. last a w e.0 e.1 e.2)
    _ (lowest_plus n _ _ _ _ (lowest_sum n d P f (λ i h. each i (omega arith))) (each d (omega arith)))
  where
    last : (a w i : ℕ) → i < suc d → P i a w → ((i : ℕ) × (i < d) × P i a w) ⊎ P d a w
    last a w i h p = elim (cases_lt i d) [
      | inl lt ↦ inl (i, lt, p)
      | inr ge ↦ let same : i ≡ d = omega arith in inr (subst (λ k. P k a w) same p)
    ]

-- a pair of P, and one of Q that comes n steps later
pub record Both (n : ℕ) (P Q : ℕ → ℕ → Type 0) (a w : ℕ) : Type 0 where
  pub first_cost : ℕ
  pub first_word : ℕ
  pub second_cost : ℕ
  pub second_word : ℕ
  pub first : P first_cost first_word
  pub second : Q second_cost second_word
  pub cost : a ≡ first_cost + second_cost
  pub word : w ≡ first_word + 2 ^ n * second_word

pub lowest_times : (n m : ℕ) (P Q : ℕ → ℕ → Type 0) → n + m ≤ longest → (v u : Path) → Lowest n P v → Lowest m Q u → Lowest (n + m) (Both n P Q) (joined v u)
lowest_times n m P Q fits none u f g = λ a w b. f _ _ b.first
lowest_times n m P Q fits (some k a w p) none f g = λ b z e. g _ _ e.second
lowest_times n m P Q fits (some k a w p) (some l b z q) f g =
    let one : Within n a w = subst (λ x. Within x a w) f.0 (within_from k a w p) in
    let two : Within m b z = subst (λ x. Within x b z) g.0 (within_from l b z q) in
    let both : Within (n + m) (a + b) (w + 2 ^ n * z) = (fits, omega (arith, one.1, two.1), words_below n m w z one.2 two.2) in
    subst (λ x. Lowest (n + m) (Both n P Q) (path (x + l) (a + b) (w + 2 ^ x * z))) (sym f.0)
    (subst (λ x. Lowest (n + m) (Both n P Q) (path (n + x) (a + b) (w + 2 ^ n * z))) (sym g.0)
    (subst (Lowest (n + m) (Both n P Q)) (sym (path_within (n + m) (a + b) (w + 2 ^ n * z) both)) (
      refl,
      record { first_cost = a; first_word = w; second_cost = b; second_word = z; first = f.1; second = g.1; cost = refl; word = refl },
      λ d x e. subst (λ s. Lower (a + b) (w + 2 ^ n * z) s x) (sym e.cost) (subst (λ s. Lower (a + b) (w + 2 ^ n * z) (e.first_cost + e.second_cost) s) (sym e.word)
          (lower_add n _ _ _ _ _ _ _ _ (f.2 _ _ e.first) (g.2 _ _ e.second))),
    )))
