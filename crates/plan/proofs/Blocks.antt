-- The blocks of a plan: how many there are, and that none has more than 32 symbols.
use Rattle.std.proofs.Common.{◌≡◌, ℕ, zero, suc, ◌+◌, ◌-◌, ◌<◌, ◌≤◌, true, false, leb, List, [], ◌∷◌, ◌++◌, length, get_or, sym, ap, ◌∙◌, subst, inl, inr, add-one, arith}
use Rattle.std.proofs.lemmas.Bool.{cases_eq}
use Rattle.std.proofs.lemmas.Bool.Decides.{nat_tests}
use Rattle.plan.specs.Plans.{Tree, Progress, size, joined, letter, after}
use Rattle.plan.specs.Asks.{tally, top, height, is, known, finds, makes, singles, joins, blocks}
use Rattle.plan.proofs.Heights.{letter_s, letter_j, letter_a, after_next, height_s, height_j, height_a, tally_none, tally_yes, tally_no}

module _ (plan : List ℕ) (knows_all : (p : ℕ) → p < length plan → known plan p ≡ true) (finds_all : (p : ℕ) → p < length plan → finds plan p ≡ true) where
  -- each letter s is standing, joined away or applied
  balance : (p : ℕ) → p ≤ length plan → height plan p + (tally (is plan 106) p + tally (is plan 97) p) ≡ tally (is plan 115) p
  balance zero h = omega (arith, tally_none (is plan 106), tally_none (is plan 97), tally_none (is plan 115))
  balance (suc p) h =
      let low : p < length plan = omega arith in
      let ih = balance p (omega arith) in
      let k : known plan p ≡ true = knows_all p low in
      let f : finds plan p ≡ true = finds_all p low in
      rw (← add-one p) (elim (cases_eq (get_or plan p 0) 115) [
        | inl e ↦
            let s : is plan 115 p ≡ true = grind (arith, nat_tests) in
            let j : is plan 106 p ≡ false = grind (arith, nat_tests) in
            let a : is plan 97 p ≡ false = grind (arith, nat_tests) in
            omega (arith, ih, height_s plan p low e, tally_yes (is plan 115) p s, tally_no (is plan 106) p j, tally_no (is plan 97) p a)
        | inr ns ↦ elim (cases_eq (get_or plan p 0) 106) [
          | inl e ↦
              let s : is plan 115 p ≡ false = grind (arith, nat_tests) in
              let j : is plan 106 p ≡ true = grind (arith, nat_tests) in
              let a : is plan 97 p ≡ false = grind (arith, nat_tests) in
              let two : 2 ≤ height plan p = grind (arith, nat_tests) in
              omega (arith, ih, height_j plan p low e two, tally_no (is plan 115) p s, tally_yes (is plan 106) p j, tally_no (is plan 97) p a)
          | inr nj ↦
              let s : is plan 115 p ≡ false = grind (arith, nat_tests) in
              let j : is plan 106 p ≡ false = grind (arith, nat_tests) in
              let a : is plan 97 p ≡ true = grind (arith, nat_tests) in
              let one : height plan p ≡ 1 = grind (arith, nat_tests) in
              omega (arith, ih, height_a plan p low ns nj, tally_no (is plan 115) p s, tally_no (is plan 106) p j, tally_yes (is plan 97) p a)
        ]
      ])

  -- where no matrix stands at the end, each block has one symbol more than it has joins
  pub blocks_are : height plan (length plan) ≡ 0 → blocks plan ≡ singles plan - joins plan
  blocks_are e = omega (arith, balance (length plan) (omega arith))

  pub joins_few : joins plan ≤ singles plan
  joins_few = omega (arith, balance (length plan) (omega arith))

  -- and at least one
  pub blocks_few : blocks plan ≤ singles plan
  blocks_few = omega (arith, balance (length plan) (omega arith))

  -- a block for each letter a
  one_more : (stack rest : List Tree) → length stack ≡ 1 → length (stack ++ rest) ≡ length rest + 1
  one_more [] rest e = absurd (omega arith)
  one_more (b ∷ (c ∷ more)) rest e = absurd (omega arith)
  one_more (b ∷ []) rest e = omega arith

  pub blocks_long : (p : ℕ) → p ≤ length plan → length ((after plan p).blocks) ≡ tally (is plan 97) p
  blocks_long zero h = sym (tally_none (is plan 97))
  blocks_long (suc p) h =
      let low : p < length plan = omega arith in
      let ih = blocks_long p (omega arith) in
      let k : known plan p ≡ true = knows_all p low in
      let f : finds plan p ≡ true = finds_all p low in
      rw (← add-one p) (elim (cases_eq (get_or plan p 0) 115) [
        | inl e ↦
            let a : is plan 97 p ≡ false = grind (arith, nat_tests) in
            ap (λ w. length (w.blocks)) (after_next plan p low ∙ letter_s (after plan p) _ e) ∙ ih ∙ sym (tally_no (is plan 97) p a)
        | inr ns ↦ elim (cases_eq (get_or plan p 0) 106) [
          | inl e ↦
              let a : is plan 97 p ≡ false = grind (arith, nat_tests) in
              ap (λ w. length (w.blocks)) (after_next plan p low ∙ letter_j (after plan p) _ e) ∙ ih ∙ sym (tally_no (is plan 97) p a)
          | inr nj ↦
              let a : is plan 97 p ≡ true = grind (arith, nat_tests) in
              let one : height plan p ≡ 1 = grind (arith, nat_tests) in
              ap (λ w. length (w.blocks)) (after_next plan p low ∙ letter_a (after plan p) _ ns nj) ∙ one_more ((after plan p).stack) ((after plan p).blocks) one
              ∙ ap (λ n. n + 1) ih ∙ sym (tally_yes (is plan 97) p a)
        ]
      ])

-- each of these matrices has at most 32 symbols
abbrev pub Small : List Tree → Type 0
Small [] = Unit {0}
Small (t ∷ rest) = (size t ≤ 32) × Small rest

small_joined : (stack rest : List Tree) → leb (top 2 stack) 32 ≡ true → Small (stack ++ rest) → Small (joined stack ++ rest)
unfolding top
small_joined [] rest e s = s
small_joined (b ∷ []) rest e s = s
small_joined (b ∷ (a ∷ more)) rest e s = (grind (arith, nat_tests), s.1.1)

small_letter : (w : Progress) (c : ℕ) → (c ≡ 106 → leb (top 2 (w.stack)) 32 ≡ true) → Small (w.stack ++ w.blocks) → Small ((letter w c).stack ++ (letter w c).blocks)
small_letter w c fits s = elim (cases_eq c 115) [
  | inl e ↦ subst (λ v. Small (v.stack ++ v.blocks)) (sym (letter_s w c e)) (omega arith, s)
  | inr ns ↦ elim (cases_eq c 106) [
    | inl e ↦ subst (λ v. Small (v.stack ++ v.blocks)) (sym (letter_j w c e)) (small_joined (w.stack) (w.blocks) (fits e) s)
    | inr nj ↦ subst (λ v. Small (v.stack ++ v.blocks)) (sym (letter_a w c ns nj)) s
  ]
]

-- no matrix of a plan whose joins make at most 32 symbols has more
pub all_small : (plan : List ℕ) → ((p : ℕ) → p < length plan → makes plan p ≡ true) → (p : ℕ) → p ≤ length plan → Small ((after plan p).stack ++ (after plan p).blocks)
all_small plan makes_all zero h = tt
all_small plan makes_all (suc p) h =
    let low : p < length plan = omega arith in
    let m : makes plan p ≡ true = makes_all p low in
    let fits : get_or plan p 0 ≡ 106 → leb (top 2 ((after plan p).stack)) 32 ≡ true = λ e. grind (arith, nat_tests) in
    rw (← add-one p) (subst (λ v. Small (v.stack ++ v.blocks)) (sym (after_next plan p low)) (small_letter (after plan p) (get_or plan p 0) fits (all_small plan makes_all p (omega arith))))
