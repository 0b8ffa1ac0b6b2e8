-- The least offer of the states so far, and one state more.
use Rattle.std.proofs.Common.{◌≡◌, ℕ, ◌+◌, ◌<◌, Some, None, Option, refl, ap, subst, inl, inr, arith}
use Rattle.std.proofs.lemmas.Bool.{cases_lt}
use Rattle.algebra_survivor.specs.Survivors.{Path}
use Rattle.frame_paths.specs.Choices.{Gets, Offer, offers}
use Rattle.frame_paths.specs.Survivors.{Lower}
use Rattle.frame_paths.proofs.Lowest.{lower_same, lower_trans}

module _ (totals : ℕ → Option ℕ) (m : ℕ → ℕ → Path) (j : ℕ) where
  -- an offer of a state below k is one of a state below k + 1
  widen : (k e x : ℕ) → Offer k totals m j e x → Offer (k + 1) totals m j e x
  widen k e x o = record { from = o.from; total = o.total; cost = o.cost; below = omega (arith, o.below); has_total = o.has_total; has_entry = o.has_entry; adds = o.adds }

  -- an offer of a state below k + 1 is one of a state below k, or k's
  narrow : (k e x : ℕ) (P : Type 0) → (Offer k totals m j e x → P) → ((t c : ℕ) → totals k ≡ Some t → offers (m k j) ≡ Some (c, x) → e ≡ t + c → P) → Offer (k + 1) totals m j e x → P
  narrow k e x P before here o =
      elim (cases_lt o.from k) [
        | inl lt ↦ before (record { from = o.from; total = o.total; cost = o.cost; below = lt; has_total = o.has_total; has_entry = o.has_entry; adds = o.adds })
        | inr ge ↦
            let is : o.from ≡ k = omega (arith, o.below) in
            here o.total o.cost (subst (λ i. totals i ≡ Some o.total) is o.has_total) (subst (λ i. offers (m i j) ≡ Some (o.cost, x)) is o.has_entry) o.adds
      ]

  pub gets_none : Gets 0 totals m j None 0
  gets_none = ((λ f z o. let low : o.from < 0 = o.below in omega arith), refl)

  -- state k makes no offer
  pub gets_skip : (k : ℕ) (o : Option ℕ) (x : ℕ) → ((t c w : ℕ) → totals k ≡ Some t → offers (m k j) ≡ Some (c, w) → ⊥) → Gets k totals m j o x → Gets (k + 1) totals m j o x
  gets_skip k None x without g = ((λ f z. narrow k f z ⊥ (g.0 f z) (λ t c a b _. without t c z a b)), g.1)
  gets_skip k (Some e) x without g = (widen k e x g.0, λ f z. narrow k f z (Lower e x f z) (g.1 f z) (λ t c a b _. absurd (without t c z a b)))

  module _ (k t c w : ℕ) (a : totals k ≡ Some t) (b : offers (m k j) ≡ Some (c, w)) where
    here : Offer (k + 1) totals m j (t + c) w
    here = record { from = k; total = t; cost = c; below = omega arith; has_total = a; has_entry = b; adds = refl }

    alone : (f z t' c' : ℕ) → totals k ≡ Some t' → offers (m k j) ≡ Some (c', z) → f ≡ t' + c' → Lower (t + c) w f z
    alone f z t' c' p q r =
        let x : t ≡ t' = cc (a, p) in
        let y : ◌≡◌ {A = ℕ × ℕ} (c, w) (c', z) = cc (b, q) in
        let u : c ≡ c' = ap (λ (v : ℕ × ℕ). v.0) y in
        lower_same _ _ _ _ (omega arith) (ap (λ (v : ℕ × ℕ). v.1) y)

    -- state k makes the first offer
    pub gets_first : (x : ℕ) → Gets k totals m j None x → Gets (k + 1) totals m j (Some (t + c)) w
    gets_first x g = (here, λ f z. narrow k f z (Lower (t + c) w f z) (λ o. absurd (g.0 f z o)) (alone f z))

    -- a lower one
    pub gets_lower : (e x : ℕ) → Lower (t + c) w e x → Gets k totals m j (Some e) x → Gets (k + 1) totals m j (Some (t + c)) w
    gets_lower e x l g = (here, λ f z. narrow k f z (Lower (t + c) w f z) (λ o. lower_trans _ _ e x _ _ l (g.1 f z o)) (alone f z))

    -- or one that is not lower
    pub gets_keep : (e x : ℕ) → Lower e x (t + c) w → Gets k totals m j (Some e) x → Gets (k + 1) totals m j (Some e) x
    gets_keep e x l g = (widen k e x g.0, λ f z. narrow k f z (Lower e x f z) (g.1 f z) (λ t' c' p q r. lower_trans e x (t + c) w f z l (alone f z t' c' p q r)))
