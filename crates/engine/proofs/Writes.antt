-- A loop that writes a column of a matrix, element by element.
use Rattle.std.proofs.Common.{◌≡◌, ℕ, ◌+◌, ◌*◌, ◌<◌, ◌≢◌, List, length, get_or, set, sym, ap, ◌∙◌, inl, inr, arith, below_more}
use Rattle.std.proofs.lemmas.Bool.{cases_lt}
use Rattle.algebra.specs.Sums.{at}
use Rattle.algebra.proofs.Places.{at_read, at_set_same, at_set_other}
use Rattle.engine.proofs.Places.{earlier}

-- entries of two places in a matrix are two elements
pub apart : (i j p q d : ℕ) → j < d → q < d → ((i ≡ p) → (j ≡ q) → ⊥) → i * d + j ≢ p * d + q
apart i j p q d h l ne e =
    elim (cases_lt i p) [
      | inl lt ↦ omega (arith, earlier p i j d lt h)
      | inr ge ↦ elim (cases_lt p i) [
        | inl gt ↦ omega (arith, earlier i p q d gt l)
        | inr le ↦ let same : i ≡ p = omega arith in ne same (omega (arith, ap (λ n. n * d) same))
      ]
    ]

module _ {E V : Type 0} (z : V) (f : E → V) (column : List E) (j d : ℕ) (was : List E) where
  -- the first i elements of the column are written
  pub record Writing (i : ℕ) (now : List E) : Type 0 where
    pub here : (p : ℕ) → p < i → at z f now (p * d + j) ≡ at z f column p
    pub others : (p q : ℕ) → p < d → q < d → (q ≡ j → ⊥) → at z f now (p * d + q) ≡ at z f was (p * d + q)

  pub written_more : (i s : ℕ) (now : List E) (x : E) → j < d → s ≡ i * d + j → s < length now → i < length column → x ≡ get_or column i x
      → Writing i now → Writing (i + 1) (set now s x)
  written_more i s now x hj e inside long read done = record {
    here = below_more _ i
        (λ p h.
        let ne : p * d + j ≢ s = omega (arith, earlier i p j d h hj) in
        at_set_other z f now s _ x ne ∙ done.here p h)
        (ap (at z f (set now s x)) (sym e) ∙ at_set_same z f now s x inside ∙ sym (at_read z f column i x long read));
    others = λ p q h l n.
        let far : i * d + j ≢ p * d + q = apart i j p q d hj l (λ _ o. n (sym o)) in
        let ne : p * d + q ≢ s = λ o. far (sym e ∙ sym o) in
        at_set_other z f now s _ x ne ∙ done.others p q h l n;
  }
