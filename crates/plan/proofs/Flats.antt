-- The blocks that were applied have the symbols of a plan in their order, each once.
use Rattle.std.proofs.Common.{◌≡◌, ℕ, zero, suc, ◌≤◌, List, [], ◌∷◌, ◌++◌, length, get_or, sym, refl, ap, ◌∙◌, subst, inl, inr, append_assoc, add-one, arith}
use Rattle.std.proofs.lemmas.List.{nil_from_length}
use Rattle.std.proofs.lemmas.Bool.{cases_eq}
use Rattle.plan.specs.Plans.{Tree, Progress, places, joined, letter, after}
use Rattle.plan.specs.Asks.{height, singles}
use Rattle.plan.proofs.Heights.{letter_s, letter_j, letter_a, after_next}
use Rattle.plan.proofs.Bounds.{taken}
use Rattle.plan.proofs.Spells.{upto, upto_more, upto_none, flat}

-- standing and applied, they are the symbols taken
abbrev Spelled : Progress → Type 0
Spelled w = flat (w.stack ++ w.blocks) ≡ upto w.next

joined_same : (stack rest : List Tree) → flat (joined stack ++ rest) ≡ flat (stack ++ rest)
joined_same [] rest = refl
joined_same (b ∷ []) rest = refl
joined_same (b ∷ (a ∷ more)) rest = sym (append_assoc (flat (more ++ rest)) (places a) (places b))

spells : (w : Progress) (c : ℕ) → Spelled w → Spelled (letter w c)
spells w c s = elim (cases_eq c 115) [
  | inl e ↦ subst Spelled (sym (letter_s w c e)) (ap (λ z. z ++ (w.next ∷ [])) s ∙ sym (upto_more w.next))
  | inr ns ↦ elim (cases_eq c 106) [
    | inl e ↦ subst Spelled (sym (letter_j w c e)) (joined_same w.stack w.blocks ∙ s)
    | inr nj ↦ subst Spelled (sym (letter_a w c ns nj)) s
  ]
]

spelled : (plan : List ℕ) (p : ℕ) → p ≤ length plan → Spelled (after plan p)
spelled plan zero h = sym upto_none
spelled plan (suc p) h =
    rw (← add-one p) (subst Spelled (sym (after_next plan p (omega arith))) (spells (after plan p) (get_or plan p 0) (spelled plan p (omega arith))))

-- where no matrix stands at the end, the blocks have all symbols
pub blocks_spelled : (plan : List ℕ) → height plan (length plan) ≡ 0 → flat (after plan (length plan)).blocks ≡ upto (singles plan)
blocks_spelled plan empty =
    let w = after plan (length plan) in
    let none : w.stack ≡ [] = nil_from_length w.stack empty in
    ap (λ z. flat (z ++ w.blocks)) (sym none) ∙ spelled plan (length plan) (omega arith) ∙ ap upto (taken plan (length plan) (omega arith)).next
