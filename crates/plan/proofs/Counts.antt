-- The counts of a plan's letters, one letter more at a time.
use Rattle.std.proofs.Common.{◌≡◌, ℕ, suc, ◌+◌, ◌-◌, ◌<◌, ◌≤◌, max, true, false, List, length, get_or, sym, refl, ap, ◌∙◌, subst, inl, inr, add-one, arith, below_more}
use Rattle.std.proofs.lemmas.Bool.{cases_eq}
use Rattle.std.proofs.lemmas.Bool.Decides.{nat_tests}
use Rattle.plan.specs.declared.Tally.{Tally}
use Rattle.plan.specs.Asks.{tally, peak, height, is, finds}
use Rattle.plan.specs.Tallies.{counting, tallied}
use Rattle.plan.proofs.Heights.{height_s, height_j, height_a, tally_none, tally_yes, tally_no, peak_more, peak_one}

module _ (plan : List ℕ) where
  -- the tally is that of the first p letters, each of which finds what it needs
  pub record Counted (p : ℕ) (t : Tally) : Type 0 where
    pub singles : t.singles ≡ tally (is plan 115) p
    pub joins : t.joins ≡ tally (is plan 106) p
    pub standing : t.standing ≡ height plan p
    pub most : t.most ≡ peak (height plan) (p + 1)
    pub few_singles : t.singles ≤ p
    pub few_joins : t.joins ≤ p
    pub few_standing : t.standing ≤ p
    pub found : (q : ℕ) → q < p → finds plan q ≡ true

  pub none_counted : (t : Tally) → t.singles ≡ 0 → t.joins ≡ 0 → t.standing ≡ 0 → t.most ≡ 0 → Counted 0 t
  none_counted t s j h m = record {
    singles = s ∙ sym (tally_none _);
    joins = j ∙ sym (tally_none _);
    standing = h;
    most = m ∙ sym (peak_one _ refl);
    few_singles = omega arith;
    few_joins = omega arith;
    few_standing = omega arith;
    found = λ q l. absurd (omega arith);
  }

  module _ (p : ℕ) (t : Tally) (inside : p < length plan) (now : Counted p t) where
    one_more : (h : ℕ) → height plan (p + 1) ≡ h → peak (height plan) (p + 1 + 1) ≡ max t.most h
    one_more h e = peak_more (height plan) (p + 1) ∙ ap (λ n. max n (height plan (p + 1))) (sym now.most) ∙ ap (max t.most) e

    -- what stood before was counted
    seen : t.standing ≤ t.most
    seen = omega (arith, peak_more (height plan) p, now.most, now.standing)

    pub counted_s : get_or plan p 0 ≡ 115 → Counted (p + 1) (record { singles = t.singles + 1; joins = t.joins; standing = t.standing + 1; most = max t.most (t.standing + 1) })
    counted_s e =
        let s : is plan 115 p ≡ true = grind (arith, nat_tests) in
        let j : is plan 106 p ≡ false = grind (arith, nat_tests) in
        let f : finds plan p ≡ true = grind (arith, nat_tests) in
        let high : height plan (p + 1) ≡ t.standing + 1 = height_s plan p inside e ∙ ap (λ n. n + 1) (sym now.standing) in
        record {
          singles = ap (λ n. n + 1) now.singles ∙ sym (tally_yes (is plan 115) p s);
          joins = now.joins ∙ sym (tally_no (is plan 106) p j);
          standing = sym high;
          most = sym (one_more (t.standing + 1) high);
          few_singles = omega (arith, now.few_singles);
          few_joins = omega (arith, now.few_joins);
          few_standing = omega (arith, now.few_standing);
          found = below_more _ p now.found f;
        }

    pub counted_j : get_or plan p 0 ≡ 106 → 2 ≤ t.standing → Counted (p + 1) (record { singles = t.singles; joins = t.joins + 1; standing = t.standing - 1; most = t.most })
    counted_j e two =
        let same = now.standing in
        let s : is plan 115 p ≡ false = grind (arith, nat_tests) in
        let j : is plan 106 p ≡ true = grind (arith, nat_tests) in
        let f : finds plan p ≡ true = grind (arith, nat_tests) in
        let high : height plan (p + 1) ≡ t.standing - 1 = height_j plan p inside e (omega arith) ∙ ap (λ n. n - 1) (sym now.standing) in
        let top : peak (height plan) (p + 1 + 1) ≡ max t.most (t.standing - 1) = one_more (t.standing - 1) high in
        let low = seen in
        record {
          singles = now.singles ∙ sym (tally_no (is plan 115) p s);
          joins = ap (λ n. n + 1) now.joins ∙ sym (tally_yes (is plan 106) p j);
          standing = sym high;
          most = omega arith;
          few_singles = omega (arith, now.few_singles);
          few_joins = omega (arith, now.few_joins);
          few_standing = omega (arith, now.few_standing);
          found = below_more _ p now.found f;
        }

    pub counted_a : (get_or plan p 0 ≡ 115 → ⊥) → (get_or plan p 0 ≡ 106 → ⊥) → t.standing ≡ 1 → Counted (p + 1) (record { singles = t.singles; joins = t.joins; standing = 0; most = t.most })
    counted_a ns nj one =
        let same = now.standing in
        let s : is plan 115 p ≡ false = grind (arith, nat_tests) in
        let j : is plan 106 p ≡ false = grind (arith, nat_tests) in
        let f : finds plan p ≡ true = grind (arith, nat_tests) in
        let high : height plan (p + 1) ≡ 0 = height_a plan p inside ns nj in
        let top : peak (height plan) (p + 1 + 1) ≡ max t.most 0 = one_more 0 high in
        record {
          singles = now.singles ∙ sym (tally_no (is plan 115) p s);
          joins = now.joins ∙ sym (tally_no (is plan 106) p j);
          standing = sym high;
          most = omega arith;
          few_singles = omega (arith, now.few_singles);
          few_joins = omega (arith, now.few_joins);
          few_standing = omega arith;
          found = below_more _ p now.found f;
        }

    pub counted_next : finds plan p ≡ true → Counted (p + 1) (counting t (get_or plan p 0))
    counted_next f =
        let same = now.standing in
        elim (cases_eq (get_or plan p 0) 115) [
          | inl e ↦ rw e (counted_s e)
          | inr ns ↦ elim (cases_eq (get_or plan p 0) 106) [
            | inl e ↦ let two : 2 ≤ t.standing = grind (arith, nat_tests) in rw e (counted_j e two)
            | inr nj ↦
                let one : t.standing ≡ 1 = grind (arith, nat_tests) in
                let by-a : counting t (get_or plan p 0) ≡ record { singles = t.singles; joins = t.joins; standing = 0; most = t.most } = grind (arith, nat_tests) in
                subst (Counted (p + 1)) (sym by-a) (counted_a ns nj one)
          ]
        ]

  tally_same : (s j h m s' j' h' m' : ℕ) → s ≡ s' → j ≡ j' → h ≡ h' → m ≡ m'
      → ◌≡◌ {A = Tally} (record { singles = s; joins = j; standing = h; most = m }) (record { singles = s'; joins = j'; standing = h'; most = m' })
  tally_same s j h m s' j' h' m' a b c d = cc

  -- all letters are counted
  pub all_counted : (p : ℕ) (t : Tally) → p ≡ length plan → Counted p t → t ≡ tallied plan
  all_counted p t e now =
      let s : t.singles ≡ tally (is plan 115) (length plan) = now.singles ∙ ap (tally (is plan 115)) e in
      let j : t.joins ≡ tally (is plan 106) (length plan) = now.joins ∙ ap (tally (is plan 106)) e in
      let h : t.standing ≡ height plan (length plan) = now.standing ∙ ap (height plan) e in
      let m : t.most ≡ peak (height plan) (suc (length plan)) = now.most ∙ ap (peak (height plan)) (add-one p ∙ ap suc e) in
      tally_same _ _ _ _ _ _ _ _ s j h m
