-- What the top matrices of a stack have is found by reading the letters backwards.
use Rattle.std.proofs.Common.{◌≡◌, ℕ, zero, suc, ◌+◌, ◌-◌, ◌<◌, ◌≤◌, true, leb, List, [], ◌∷◌, length, take, get_or, refl, sym, ap, ◌∙◌, subst, inl, inr, add-one, arith}
use Rattle.std.proofs.lemmas.Bool.{cases_lt, cases_eq}
use Rattle.std.proofs.lemmas.Bool.Decides.{nat_tests}
use Rattle.std.proofs.lemmas.List.{take_at, get_or_at, get_or-take, length-take-le, length_push, take-take}
use Rattle.std.specs.List.{push}
use Rattle.plan.specs.Plans.{Tree, size, joined, after}
use Rattle.plan.specs.Plans.{Single, Join}
use Rattle.plan.specs.Asks.{top, height, finds}
use Rattle.plan.proofs.Heights.{letter_s, letter_j, after_next, height_s, height_j, height_a}

size_pos : (t : Tree) → 1 ≤ size t
size_pos (Single p) = omega arith
size_pos (Join a b) = omega (arith, size_pos a)

pub top_none : (stack : List Tree) → top 0 stack ≡ 0
unfolding top
top_none stack = refl

-- n matrices have n symbols at least
pub top_least : (n : ℕ) (stack : List Tree) → n ≤ length stack → n ≤ top n stack
unfolding top
top_least zero stack h = omega arith
top_least (suc n) [] h = absurd (omega arith)
top_least (suc n) (t ∷ rest) h = omega (arith, size_pos t, top_least n rest (omega arith))

top_single : (n p : ℕ) (stack : List Tree) → top (n + 1) (Single p ∷ stack) ≡ 1 + top n stack
unfolding top
top_single n p stack = rw add-one

top_join : (n : ℕ) (stack : List Tree) → 2 ≤ length stack → top (n + 1) (joined stack) ≡ top (n + 1 + 1) stack
unfolding top
top_join n [] h = absurd (omega arith)
top_join n (b ∷ []) h = absurd (omega arith)
top_join n (b ∷ (a ∷ rest)) h = rw (add-one n, add-one (suc n)) (omega arith)

module _ (plan : List ℕ) (p : ℕ) (inside : p < length plan) where
  pub back_s : (n : ℕ) → get_or plan p 0 ≡ 115 → top (n + 1) (after plan (p + 1)).stack ≡ 1 + top n (after plan p).stack
  back_s n e = ap (λ w. top (n + 1) w.stack) (after_next plan p inside ∙ letter_s (after plan p) _ e) ∙ top_single n (after plan p).next (after plan p).stack

  pub back_j : (n : ℕ) → get_or plan p 0 ≡ 106 → 2 ≤ height plan p → top (n + 1) (after plan (p + 1)).stack ≡ top (n + 1 + 1) (after plan p).stack
  back_j n e two = ap (λ w. top (n + 1) w.stack) (after_next plan p inside ∙ letter_j (after plan p) _ e) ∙ top_join n (after plan p).stack two

module _ (plan : List ℕ) (place : ℕ) (inside : place ≤ length plan) (served-all : (q : ℕ) → q < place → finds plan q ≡ true) where
  -- the top `wanted` matrices before place p are those that are still to be counted
  pub record Back (p wanted found : ℕ) : Type 0 where
    pub low : p ≤ place
    pub stand : wanted ≤ height plan p
    pub small : found + wanted ≤ 33
    pub total : top 2 (after plan place).stack ≡ found + top wanted (after plan p).stack

  step_s : (q w f : ℕ) → f + (w + 1) ≤ 32 → get_or plan q 0 ≡ 115 → Back (q + 1) (w + 1) f → Back q w (f + 1)
  step_s q w f few e now = record {
    low = omega (arith, now.low);
    stand = omega (arith, now.stand, height_s plan q (omega (arith, now.low)) e);
    small = omega arith;
    total = now.total ∙ omega (arith, back_s plan q (omega (arith, now.low)) w e);
  }

  step_j : (q w f : ℕ) → f + (w + 1) ≤ 32 → (get_or plan q 0 ≡ 115 → ⊥) → Back (q + 1) (w + 1) f → Back q (w + 1 + 1) f
  step_j q w f few ns now =
      let in-plan : q < length plan = omega (arith, now.low) in
      elim (cases_eq (get_or plan q 0) 106) [
        | inl e ↦
            let served-here : finds plan q ≡ true = served-all q (omega (arith, now.low)) in
            let two : 2 ≤ height plan q = grind (arith, nat_tests) in
            record {
              low = omega (arith, now.low);
              stand = omega (arith, now.stand, height_j plan q in-plan e two);
              small = omega arith;
              total = now.total ∙ ap (λ n. f + n) (back_j plan q in-plan w e two);
            }
        | inr nj ↦ absurd (omega (arith, now.stand, height_a plan q in-plan ns nj))
      ]

  pub more_s : (p w f : ℕ) → 0 < p → 0 < w → f + w ≤ 32 → get_or plan (p - 1) 0 ≡ 115 → Back p w f → Back (p - 1) (w - 1) (f + 1)
  more_s p w f hp hw few e now =
      let ep : p ≡ p - 1 + 1 = omega arith in
      let ew : w ≡ w - 1 + 1 = omega arith in
      step_s (p - 1) (w - 1) f (omega arith) e (subst (λ x. Back (p - 1 + 1) x f) ew (subst (λ x. Back x w f) ep now))

  pub more_j : (p w f : ℕ) → 0 < p → 0 < w → f + w ≤ 32 → (get_or plan (p - 1) 0 ≡ 115 → ⊥) → Back p w f → Back (p - 1) (w + 1) f
  more_j p w f hp hw few ns now =
      let ep : p ≡ p - 1 + 1 = omega arith in
      let ew : w ≡ w - 1 + 1 = omega arith in
      let is : w - 1 + 1 + 1 ≡ w + 1 = omega arith in
      subst (λ x. Back (p - 1) x f) is (step_j (p - 1) (w - 1) f (omega arith) ns (subst (λ x. Back (p - 1 + 1) x f) ew (subst (λ x. Back x w f) ep now)))

  -- once nothing is wanted, or too much was found, the answer is known
  pub counted_back : (p w f : ℕ) → ((0 < p) → (0 < w) → f + w ≤ 32 → ⊥) → Back p w f → leb (f + w) 32 ≡ leb (top 2 (after plan place).stack) 32
  counted_back p w f stop now =
      let least = top_least w (after plan p).stack now.stand in
      let total = now.total in
      elim (cases_eq w 0) [
        | inl z ↦
            let none : top w (after plan p).stack ≡ 0 = ap (λ n. top n (after plan p).stack) z ∙ top_none (after plan p).stack in
            ap (λ n. leb n 32) (omega arith)
        | inr some ↦ elim (cases_eq p 0) [
          | inl z ↦ absurd (omega (arith, now.stand, ap (height plan) z))
          | inr high ↦
              let many : 32 < f + w = elim (cases_lt 32 (f + w)) [ inl l ↦ l | inr g ↦ absurd (stop (omega arith) (omega arith) g) ] in
              grind (arith, nat_tests)
        ]
      ]

-- the part before a place, with its last letter taken off
pub without_last : (plan before : List ℕ) (x p : ℕ) → p ≤ length plan → take p plan ≡ push before x
    → (p ≡ length before + 1) × (before ≡ take (length before) plan) × (x ≡ get_or plan (length before) 0)
without_last plan before x p h e =
    let n = length before in
    let long : p ≡ n + 1 = sym (length-take-le p plan h) ∙ ap length e ∙ length_push before x in (
      long,
      sym (take_at before (x ∷ []) n refl) ∙ ap (take n) (sym e) ∙ take-take n p plan (omega arith),
      sym (get_or_at before x [] 0 n refl) ∙ ap (λ z. get_or z n 0) (sym e) ∙ get_or-take p plan n 0 (omega arith),
    )
