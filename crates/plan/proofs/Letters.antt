-- What is said of a letter is said of its byte.
use Rattle.std.proofs.Common.{◌≡◌, ℕ, Bool, true, false, cond, eqb, List, get_or, sym, ap, ◌∙◌, refl, subst, inl, inr, arith}
use Rattle.std.proofs.lemmas.Bool.Decides.{nat_tests}
use Rattle.std.proofs.lemmas.Bool.{cases_eq}
use Rattle.plan.specs.declared.letter.Letter.{Letter}
use Rattle.plan.specs.declared.letter.Letter.TheVariants.{Single, Join, Apply}
use Rattle.plan.specs.declared.Tally.{Tally}
use Rattle.plan.specs.Asks.{served, finds, height, known}
use Rattle.plan.specs.Letters.{code, letter_of}
use Rattle.plan.specs.Tallies.{counting}

-- what tells s, j and any other byte apart says the same of a byte and of its letter
pub by_code : {X : Type 0} (f : ℕ → X) (c : ℕ) → ((c ≡ 115 → ⊥) → (c ≡ 106 → ⊥) → f 97 ≡ f c) → f (code (letter_of c)) ≡ f c
by_code f c other = elim (cases_eq c 115) [
  | inl e ↦ subst (λ z. f (code (letter_of z)) ≡ f z) (sym e) refl
  | inr ns ↦ elim (cases_eq c 106) [
    | inl e ↦ subst (λ z. f (code (letter_of z)) ≡ f z) (sym e) refl
    | inr nj ↦
        let s : eqb c 115 ≡ false = grind (arith, nat_tests) in
        let j : eqb c 106 ≡ false = grind (arith, nat_tests) in
        ap (λ b. f (code (cond b Single (cond (eqb c 106) Join Apply)))) s ∙ ap (λ b. f (code (cond b Join Apply))) j ∙ other ns nj
  ]
]

served_code : (c h : ℕ) → served (code (letter_of c)) h ≡ served c h
served_code c h = by_code (λ z. served z h) c (λ ns nj. grind (arith, nat_tests))

counting_code : (t : Tally) (c : ℕ) → counting t (code (letter_of c)) ≡ counting t c
counting_code t c = by_code (counting t) c (λ ns nj.
    let s : eqb c 115 ≡ false = grind (arith, nat_tests) in
    let j : eqb c 106 ≡ false = grind (arith, nat_tests) in
    cc)

-- whether a letter finds what it needs
pub found_by : (plan : List ℕ) (p h : ℕ) (l : Letter) {b : Bool} → l ≡ letter_of (get_or plan p 0) → h ≡ height plan p → b ≡ served (code l) h → finds plan p ≡ b
found_by plan p h l is high b =
    sym (b ∙ ap (λ z. served (code z) h) is ∙ served_code (get_or plan p 0) h ∙ ap (served (get_or plan p 0)) high)

pub counting_by : (plan : List ℕ) (p : ℕ) (t : Tally) (l : Letter) → l ≡ letter_of (get_or plan p 0) → counting t (code l) ≡ counting t (get_or plan p 0)
counting_by plan p t l is = ap (λ z. counting t (code z)) is ∙ counting_code t (get_or plan p 0)

-- a byte that is known is that of its letter
pub known_code : (plan : List ℕ) (p : ℕ) → known plan p ≡ true → code (letter_of (get_or plan p 0)) ≡ get_or plan p 0
known_code plan p k = by_code (λ z. z) (get_or plan p 0) (λ ns nj. let a : get_or plan p 0 ≡ 97 = grind (arith, nat_tests) in sym a)

joins_or_applies : (b : Bool) → Single ≡ cond b Join Apply → ⊥
joins_or_applies true e = cc
joins_or_applies false e = cc

-- only the byte of s is an s
pub is_single : (c : ℕ) → Single ≡ letter_of c → c ≡ 115
is_single c e = elim (cases_eq c 115) [
  | inl s ↦ s
  | inr ns ↦
      let n : eqb c 115 ≡ false = grind (arith, nat_tests) in
      let tail : Single ≡ cond (eqb c 106) Join Apply = e ∙ ap (λ b. cond b Single (cond (eqb c 106) Join Apply)) n in
      absurd (joins_or_applies (eqb c 106) tail)
]

pub not_single : (c : ℕ) (l : Letter) → l ≡ letter_of c → (l ≡ Single → ⊥) → c ≡ 115 → ⊥
not_single c l is other e = other (is ∙ ap letter_of e)
