-- What the letters of a plan need stays within what the plan comes to.
use Rattle.std.proofs.Common.{◌≡◌, ℕ, zero, suc, ◌+◌, ◌<◌, ◌≤◌, Bool, true, false, List, [], ◌∷◌, length, get_or, sym, ap, ◌∙◌, inl, inr, add-one, arith}
use Rattle.std.proofs.lemmas.Bool.{cases_eq}
use Rattle.std.proofs.lemmas.Bool.Decides.{nat_tests}
use Rattle.plan.specs.Plans.{Tree, joined, after}
use Rattle.plan.specs.Asks.{tally, peak, height, is, most, singles}
use Rattle.plan.proofs.Heights.{letter_s, letter_j, letter_a, after_next, tally_none, tally_more, tally_yes, tally_no, height_s}

pub peak_above : (f : ℕ → ℕ) (n p : ℕ) → p < n → f p ≤ peak f n
unfolding peak
peak_above f zero p h = absurd (omega arith)
peak_above f (suc n) p h = elim (cases_eq p n) [
  | inl e ↦ omega (arith, ap f e)
  | inr ne ↦ omega (arith, peak_above f n p (omega arith))
]

tally_rise : (f : ℕ → Bool) (n : ℕ) → tally f n ≤ tally f (n + 1)
tally_rise f n = omega (arith, tally_more f n)

pub tally_mono : (f : ℕ → Bool) (n p : ℕ) → p ≤ n → tally f p ≤ tally f n
tally_mono f zero p h = let e : p ≡ 0 = omega arith in rw e (omega arith)
tally_mono f (suc n) p h = elim (cases_eq p (suc n)) [
  | inl e ↦ rw e (omega arith)
  | inr ne ↦ omega (arith, tally_mono f n p (omega arith), tally_rise f n, ap (tally f) (add-one n))
]

joined_short : (stack : List Tree) → length (joined stack) ≤ length stack
joined_short [] = omega arith
joined_short (b ∷ []) = omega arith
joined_short (b ∷ (c ∷ rest)) = omega arith

-- as many symbols are taken as letters s were read, and no more matrices stand
pub record Taken (plan : List ℕ) (p : ℕ) : Type 0 where
  pub next : (after plan p).next ≡ tally (is plan 115) p
  pub low : height plan p ≤ tally (is plan 115) p

taken_more : (plan : List ℕ) (p : ℕ) → p < length plan → Taken plan p → Taken plan (p + 1)
taken_more plan p h now = elim (cases_eq (get_or plan p 0) 115) [
  | inl e ↦
      let w = after_next plan p h ∙ letter_s (after plan p) _ e in
      let t : is plan 115 p ≡ true = grind (arith, nat_tests) in
      record {
        next = ap (λ x. x.next) w ∙ ap (λ n. n + 1) now.next ∙ sym (tally_yes (is plan 115) p t);
        low = omega (arith, height_s plan p h e, tally_yes (is plan 115) p t, now.low);
      }
  | inr ns ↦
      let t : is plan 115 p ≡ false = grind (arith, nat_tests) in
      elim (cases_eq (get_or plan p 0) 106) [
        | inl e ↦
            let w = after_next plan p h ∙ letter_j (after plan p) _ e in
            record {
              next = ap (λ x. x.next) w ∙ now.next ∙ sym (tally_no (is plan 115) p t);
              low = omega (arith, ap (λ x. length x.stack) w, joined_short (after plan p).stack, tally_no (is plan 115) p t, now.low);
            }
        | inr nj ↦
            let w = after_next plan p h ∙ letter_a (after plan p) _ ns nj in
            record {
              next = ap (λ x. x.next) w ∙ now.next ∙ sym (tally_no (is plan 115) p t);
              low = omega (arith, ap (λ x. length x.stack) w);
            }
      ]
]

pub taken : (plan : List ℕ) (p : ℕ) → p ≤ length plan → Taken plan p
taken plan zero h = record { next = sym (tally_none _); low = omega arith }
taken plan (suc p) h = rw (← add-one p) (taken_more plan p (omega arith) (taken plan p (omega arith)))

-- no more matrices stand than the most that ever do
pub height_most : (plan : List ℕ) (p : ℕ) → p ≤ length plan → height plan p ≤ most plan
height_most plan p h = peak_above (height plan) (suc (length plan)) p (omega arith)

-- a letter s finds a symbol
pub single_left : (plan : List ℕ) (p : ℕ) → p < length plan → get_or plan p 0 ≡ 115 → (after plan p).next < singles plan
single_left plan p h e =
    let t : is plan 115 p ≡ true = grind (arith, nat_tests) in
    omega (arith, (taken plan p (omega arith)).next, tally_yes (is plan 115) p t, tally_mono (is plan 115) (length plan) (p + 1) (omega arith))
