-- A plan that passed its questions finds what it needs at each letter, and does all symbols' single steps.
use Rattle.std.proofs.Common.{◌≡◌, ℕ, zero, suc, ◌+◌, ◌-◌, ◌*◌, ◌<◌, ◌≤◌, true, false, List, [], ◌∷◌, ◌++◌, map, length, get_or, take, sym, ap, ◌∙◌, inl, inr, mul-le-mul_right, suc-mul, add-one, arith}
use Rattle.std.proofs.lemmas.List.{take_more, map-append}
use Rattle.std.proofs.lemmas.Bool.{cases_eq}
use Rattle.std.proofs.lemmas.Bool.Decides.{nat_tests}
use Rattle.plan.specs.Plans.{Tree, after}
use Rattle.plan.specs.Asks.{tally, is, known, finds, makes, height, most, singles, blocks}
use Rattle.plan.proofs.Blocks.{Small, all_small}
use Rattle.plan.proofs.Bounds.{taken, height_most, single_left, tally_mono}
use Rattle.plan.proofs.Heights.{height_s, tally_yes, tally_no}
use Rattle.plan.proofs.Spells.{upto, upto_more, upto_none}
use Rattle.engine.specs.Blocks.{Ready}
use Rattle.engine.specs.Letters.{applies}
use Rattle.engine.specs.Targets.{sizes}

pub ready : (plan : List ℕ) (count d room p : ℕ) → p < length plan → finds plan p ≡ true → singles plan ≡ count → most plan * (d * d) ≤ room
    → Ready (get_or plan p 0) count d (height plan p) (after plan p).next room
ready plan count d room p h found all fits =
    let t = taken plan p (omega arith) in
    let here : height plan p * (d * d) ≤ room = omega (arith, mul-le-mul_right {m = height plan p} {n = most plan} (d * d) (height_most plan p (omega arith))) in
    record {
      s = λ e.
          let high : height plan (p + 1) * (d * d) ≤ room = omega (arith, mul-le-mul_right {m = height plan (p + 1)} {n = most plan} (d * d) (height_most plan (p + 1) (omega arith))) in
          let up : height plan (p + 1) ≡ suc (height plan p) = height_s plan p h e ∙ add-one _ in
          let grown : height plan (p + 1) * (d * d) ≡ height plan p * (d * d) + d * d = ap (λ n. n * (d * d)) up ∙ suc-mul (height plan p) (d * d) in
          (omega (arith, single_left plan p h e), omega (arith, t.low, t.next), omega arith);
      j = λ e. (grind (arith, nat_tests), here);
      a = λ ns nj.
          let one : height plan p ≡ 1 = grind (arith, nat_tests) in
          let only : height plan p * (d * d) ≡ d * d = ap (λ n. n * (d * d)) one ∙ omega arith in
          (one, omega arith);
    }

-- the symbols at the first n places are the first n symbols
pub chosen_all : (ys : List ℕ) (n : ℕ) → n ≤ length ys → map (λ p. get_or ys p 0) (upto n) ≡ take n ys
chosen_all ys zero h = ap (map (λ p. get_or ys p 0)) upto_none
chosen_all ys (suc n) h =
    ap (λ k. map (λ p. get_or ys p 0) (upto k)) (sym (add-one n)) ∙ ap (map (λ p. get_or ys p 0)) (upto_more n)
    ∙ map-append (λ p. get_or ys p 0) (upto n) (n ∷ []) ∙ ap (λ z. z ++ (get_or ys n 0 ∷ [])) (chosen_all ys n (omega arith))
    ∙ sym (take_more ys n 0 (omega arith)) ∙ ap (λ k. take k ys) (add-one n)

-- how many blocks are applied with one letter more, and how many are left
pub counts : (plan : List ℕ) (p : ℕ) → p < length plan → known plan p ≡ true
    → (tally (is plan 97) (p + 1) ≡ tally (is plan 97) p + applies (get_or plan p 0)) × (tally (is plan 97) p + (blocks plan - tally (is plan 97) (p + 1) + applies (get_or plan p 0)) ≡ blocks plan)
counts plan p h k = elim (cases_eq (get_or plan p 0) 97) [
  | inl e ↦
      let a : is plan 97 p ≡ true = grind (arith, nat_tests) in
      let one : applies (get_or plan p 0) ≡ 1 = grind (arith, nat_tests) in
      (omega (arith, tally_yes (is plan 97) p a), omega (arith, tally_yes (is plan 97) p a, tally_mono (is plan 97) (length plan) (p + 1) (omega arith)))
  | inr ne ↦
      let a : is plan 97 p ≡ false = grind (arith, nat_tests) in
      let none : applies (get_or plan p 0) ≡ 0 = grind (arith, nat_tests) in
      (omega (arith, tally_no (is plan 97) p a), omega (arith, tally_no (is plan 97) p a, tally_mono (is plan 97) (length plan) (p + 1) (omega arith)))
]

small_one : (stack rest : List Tree) → length stack ≡ 1 → Small (stack ++ rest) → sizes stack ≤ 32
small_one [] rest e s = absurd (omega arith)
small_one (b ∷ (c ∷ more)) rest e s = absurd (omega arith)
small_one (b ∷ []) rest e s = omega (arith, s.0)

-- a block that is applied has at most 32 symbols
pub small_block : (plan : List ℕ) (p : ℕ) → p < length plan → finds plan p ≡ true → ((q : ℕ) → q < length plan → makes plan q ≡ true)
    → (get_or plan p 0 ≡ 115 → ⊥) → (get_or plan p 0 ≡ 106 → ⊥) → sizes (after plan p).stack ≤ 32
small_block plan p h found made ns nj =
    let one : height plan p ≡ 1 = grind (arith, nat_tests) in
    small_one (after plan p).stack (after plan p).blocks one (all_small plan made p (omega arith))
