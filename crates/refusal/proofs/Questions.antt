-- What a list of questions comes to when one is answered yes everywhere, or no at a first place.
use Rattle.std.proofs.Common.{◌≡◌, ℕ, zero, suc, ◌<◌, ◌≤◌, Bool, true, false, cond, ltb, List, [], ◌∷◌, ◌++◌, Ok, Err, Result, sym, refl, ap, ◌∙◌, inl, inr, arith}
use Rattle.std.proofs.lemmas.Bool.{cases_lt, cases_eq}
use Rattle.std.proofs.lemmas.Bool.Decides.{nat_tests}
use Rattle.refusal.specs.declared.Refusal.{Refusal}
use Rattle.refusal.specs.Questions.{Question, once, least, asked}

-- no place is refused where each says yes
pub least_none : (f : ℕ → Bool) (n : ℕ) → ((p : ℕ) → p < n → f p ≡ true) → least f n ≡ n
unfolding least
least_none f zero each = refl
least_none f (suc n) each =
    let below : least f n ≡ n = least_none f n (λ p h. each p (omega arith)) in
    let here : f n ≡ true = each n (omega arith) in
    let high : ltb (least f n) n ≡ false = grind (arith, nat_tests) in
    rw (high, here)

-- the first place that says no
pub least_first : (f : ℕ → Bool) (n p : ℕ) → p < n → f p ≡ false → ((q : ℕ) → q < p → f q ≡ true) → least f n ≡ p
unfolding least
least_first f zero p h fails each = absurd (omega arith)
least_first f (suc n) p h fails each =
    elim (cases_eq p n) [
      | inl e ↦
          let below : least f n ≡ n = least_none f n (λ q l. each q (omega arith)) in
          let high : ltb (least f n) n ≡ false = grind (arith, nat_tests) in
          let here : f n ≡ false = ap f (sym e) ∙ fails in
          rw (high, here) (sym e)
      | inr ne ↦
          let below : least f n ≡ p = least_first f n p (omega arith) fails each in
          let low : ltb (least f n) n ≡ true = grind (arith, nat_tests) in
          rw low below
    ]

-- a place that says no bounds the first one
least_below : (f : ℕ → Bool) (n p : ℕ) → p < n → f p ≡ false → least f n < n
unfolding least
least_below f zero p l fails = absurd (omega arith)
least_below f (suc n) p l fails =
    elim (cases_lt (least f n) n) [
      | inl lt ↦ let t : ltb (least f n) n ≡ true = grind (arith, nat_tests) in rw t (omega arith)
      | inr ge ↦ elim (cases_eq p n) [
        | inl e ↦ let t : ltb (least f n) n ≡ false = grind (arith, nat_tests) in let here : f n ≡ false = ap f (sym e) ∙ fails in rw (t, here) (omega arith)
        | inr ne ↦ absurd (omega (arith, least_below f n p (omega arith) fails))
      ]
    ]

-- each place says yes where none is refused
pub least_all : (f : ℕ → Bool) (n : ℕ) → n ≤ least f n → (p : ℕ) → p < n → f p ≡ true
least_all f n h p low = by (f p) refl
  where
    by : (b : Bool) → f p ≡ b → f p ≡ true
    by true e = e
    by false e = absurd (omega (arith, least_below f n p low e))

module _ {A : Type 0} (q : Question) (qs : List Question) (a : A) where
  pub asked_yes : ((p : ℕ) → p < q.count → q.test p ≡ true) → asked (q ∷ qs) a ≡ asked qs a
  asked_yes each =
      let e = least_none q.test q.count each in
      let t : ltb (least q.test q.count) q.count ≡ false = grind (arith, nat_tests) in
      rw t

  pub asked_no : (p : ℕ) → p < q.count → q.test p ≡ false → ((k : ℕ) → k < p → q.test k ≡ true) → asked (q ∷ qs) a ≡ Err (q.refuse p)
  asked_no p h fails each =
      let e = least_first q.test q.count p h fails each in
      let t : ltb (least q.test q.count) q.count ≡ true = grind (arith, nat_tests) in
      rw (t, e)

-- one question, and those after it
pub asked_once : {A : Type 0} (b : Bool) (r : Refusal) (qs : List Question) (a : A) → asked (once b r ∷ qs) a ≡ cond b (asked qs a) (Err r)
unfolding least
asked_once true r qs a = refl
asked_once false r qs a = refl

-- a question that was passed, and those after it
module _ {A : Type 0} (q : Question) (qs : List Question) (a x : A) (passed : asked (q ∷ qs) a ≡ Ok x) where
  past : (b : Bool) → ltb (least q.test q.count) q.count ≡ b → (q.count ≤ least q.test q.count) × (asked qs a ≡ Ok x)
  past true t = let o : ◌≡◌ {A = Result A Refusal} (Err (q.refuse (least q.test q.count))) (Ok x) = rw t at passed in let z : ◌≡◌ {A = ℕ} 0 1 = cc in absurd (omega arith)
  past false t = (grind (arith, nat_tests), rw t at passed)

  pub passed_first : (p : ℕ) → p < q.count → q.test p ≡ true
  passed_first = least_all q.test q.count (past (ltb (least q.test q.count) q.count) refl).0

  pub passed_rest : asked qs a ≡ Ok x
  passed_rest = (past (ltb (least q.test q.count) q.count) refl).1

-- questions that were asked before others
module _ {A B : Type 0} (rs : List Question) (a x : A) (b : B) where
  first_by : (q : Question) (qs : List Question) (r : Refusal) (t : Bool) → ltb (least q.test q.count) q.count ≡ t
      → (asked qs a ≡ Err r → asked (qs ++ rs) b ≡ Err r) → asked (q ∷ qs) a ≡ Err r → asked (q ∷ (qs ++ rs)) b ≡ Err r
  first_by q qs r true t more e = let same : ◌≡◌ {A = Result A Refusal} (Err (q.refuse (least q.test q.count))) (Err r) = rw t at e in rw t (cc)
  first_by q qs r false t more e = rw t (more (rw t at e))

  pub asked_first : (qs : List Question) (r : Refusal) → asked qs a ≡ Err r → asked (qs ++ rs) b ≡ Err r
  asked_first [] r e = let z : ◌≡◌ {A = ℕ} 0 1 = cc in absurd (omega arith)
  asked_first (q ∷ qs) r e = first_by q qs r (ltb (least q.test q.count) q.count) refl (asked_first qs r) e

  rest_by : (q : Question) (qs : List Question) (t : Bool) → ltb (least q.test q.count) q.count ≡ t
      → (asked qs a ≡ Ok x → asked (qs ++ rs) b ≡ asked rs b) → asked (q ∷ qs) a ≡ Ok x → asked (q ∷ (qs ++ rs)) b ≡ asked rs b
  rest_by q qs true t more e =
      let o : ◌≡◌ {A = Result A Refusal} (Err (q.refuse (least q.test q.count))) (Ok x) = rw t at e in
      let z : ◌≡◌ {A = ℕ} 0 1 = cc in
      absurd (omega arith)
  rest_by q qs false t more e = rw t (more (rw t at e))

  pub asked_rest : (qs : List Question) → asked qs a ≡ Ok x → asked (qs ++ rs) b ≡ asked rs b
  asked_rest [] e = refl
  asked_rest (q ∷ qs) e = rest_by q qs (ltb (least q.test q.count) q.count) refl (asked_rest qs) e
