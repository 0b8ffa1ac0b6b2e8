-- Sums of which all terms but one or two are zero.
use Rattle.std.proofs.Common.{◌≡◌, ℕ, zero, suc, ◌<◌, ap, ◌∙◌, ap₂, inl, inr, arith}
use Rattle.std.proofs.lemmas.Bool.{cases_eq}
use Rattle.algebra.specs.Laws.{Ops, Laws}
use Rattle.algebra.specs.Sums.{sum}
use Rattle.algebra.proofs.Sums.{sum_cong, sum_zero}

module _ {V : Type 0} (k : Ops V) (laws : Laws k) where
  pub add_zero_right : (a : V) → k.add a k.zero ≡ a
  add_zero_right a = laws.add_comm a k.zero ∙ laws.zero-add a

  pub sum_zeros : (n : ℕ) (f : ℕ → V) → ((i : ℕ) → i < n → f i ≡ k.zero) → sum k n f ≡ k.zero
  sum_zeros n f h = sum_cong k n f (λ i. k.zero) h ∙ sum_zero k laws n

  pub sum_only : (n a : ℕ) (f : ℕ → V) → a < n → ((i : ℕ) → i < n → (i ≡ a → ⊥) → f i ≡ k.zero) → sum k n f ≡ f a
  unfolding sum
  sum_only zero a f l h = absurd (omega arith)
  sum_only (suc n) a f l h =
      elim (cases_eq n a) [
        | inl e ↦ ap (λ x. k.add x (f n)) (sum_zeros n f (λ i b. h i (omega arith) (λ q. omega arith))) ∙ laws.zero-add (f n) ∙ ap f e
        | inr ne ↦ ap₂ k.add (sum_only n a f (omega arith) (λ i b q. h i (omega arith) q)) (h n (omega arith) ne) ∙ add_zero_right (f a)
      ]

  pub sum_two : (n a b : ℕ) (f : ℕ → V) → a < b → b < n → ((i : ℕ) → i < n → (i ≡ a → ⊥) → (i ≡ b → ⊥) → f i ≡ k.zero) → sum k n f ≡ k.add (f a) (f b)
  unfolding sum
  sum_two zero a b f ab l h = absurd (omega arith)
  sum_two (suc n) a b f ab l h =
      elim (cases_eq n b) [
        | inl e ↦ ap₂ k.add (sum_only n a f (omega arith) (λ i c q. h i (omega arith) q (λ r. omega arith))) (ap f e)
        | inr ne ↦ ap₂ k.add (sum_two n a b f ab (omega arith) (λ i c p q. h i (omega arith) p q)) (h n (omega arith) (λ r. omega arith) ne) ∙ add_zero_right (k.add (f a) (f b))
      ]
