-- Which question of a delivery refuses it, and that none does where all are passed.
use Rattle.std.proofs.Common.{◌≡◌, ℕ, ◌+◌, ◌*◌, ◌<◌, ◌≤◌, Bool, true, false, ◌&&◌, leb, List, [], ◌∷◌, length, get_or, Ok, Err, Result, sym, refl, ap, ◌∙◌, arith}
use Rattle.std.proofs.lemmas.Bool.Decides.{nat_tests}
use Rattle.plan.specs.Asks.{knows, stands, fits, ends, asks, joins, most, shape}
use Rattle.plan.specs.declared.Shape.{Shape}
use Rattle.plan.proofs.Passed.{shape_is}
use Rattle.recursion.specs.Steps.{Rule}
use Rattle.refusal.specs.declared.Refusal.{Refusal}
use Rattle.refusal.specs.declared.Refusal.TheVariants.{Limit, Memory}
use Rattle.refusal.specs.Questions.{Question, once, asked}
use Rattle.refusal.proofs.Questions.{asked_yes, asked_no, passed_first, passed_rest, asked_first, asked_rest}
use Rattle.engine.specs.Plain.{accepted}
use Rattle.engine.specs.Deliveries.{within, delivery}

module _ {V : Type 0} (r : Rule V) (ys plan : List ℕ) (limit taken : ℕ) (b : Bool) (n k : ℕ) where
  abbrev room : Question
  room = once (b && (leb (most plan * (r.size * r.size)) n && leb r.size k)) Memory

  abbrev pub answer : Result (ℕ × ℕ) Refusal
  answer = asked (delivery r ys plan limit taken b n k) (length ys, joins plan)

  pub says_plan : (e : Refusal) → Err e ≡ asked (asks plan (length ys)) (shape plan) → answer ≡ Err e
  says_plan e refused = asked_first (accepted r ys ∷ (within limit taken ys ∷ (room ∷ []))) (shape plan) (shape plan) (length ys, joins plan) (asks plan (length ys)) e (sym refused)

  module _ (s : Shape) (plan-passed : Ok s ≡ asked (asks plan (length ys)) (shape plan)) where
    past_plan : answer ≡ asked (accepted r ys ∷ (within limit taken ys ∷ (room ∷ []))) (length ys, joins plan)
    past_plan = asked_rest (accepted r ys ∷ (within limit taken ys ∷ (room ∷ []))) (shape plan) s (length ys, joins plan) (asks plan (length ys)) (sym plan-passed)

    pub says_symbol : {B : Type 0} (x : B) (e : Refusal) → Err e ≡ asked (accepted r ys ∷ []) x → answer ≡ Err e
    says_symbol x e no_symbol = past_plan ∙ asked_first (within limit taken ys ∷ (room ∷ [])) x x (length ys, joins plan) (accepted r ys ∷ []) e (sym no_symbol)

    module _ {B : Type 0} (x x' : B) (symbols-passed : Ok x ≡ asked (accepted r ys ∷ []) x') where
      past_symbols : answer ≡ asked (within limit taken ys ∷ (room ∷ [])) (length ys, joins plan)
      past_symbols = past_plan ∙ asked_yes (accepted r ys) (within limit taken ys ∷ (room ∷ [])) (length ys, joins plan) (passed_first (accepted r ys) [] x' x (sym symbols-passed))

      pub says_limit : leb (taken + length ys) limit ≡ false → answer ≡ Err Limit
      says_limit t = past_symbols ∙ asked_no (within limit taken ys) (room ∷ []) _ 0 (omega arith) t (λ k h. absurd (omega arith))

      past_limit : leb (taken + length ys) limit ≡ true → answer ≡ asked (room ∷ []) (length ys, joins plan)
      past_limit t = past_symbols ∙ asked_yes (within limit taken ys) (room ∷ []) _ (λ p h. t)

      pub says_memory : leb (taken + length ys) limit ≡ true → room.test 0 ≡ false → answer ≡ Err Memory
      says_memory t u = past_limit t ∙ asked_no room [] _ 0 (omega arith) u (λ k h. absurd (omega arith))

      pub says_taken : leb (taken + length ys) limit ≡ true → room.test 0 ≡ true → answer ≡ Ok (length ys, joins plan)
      says_taken t u = past_limit t ∙ asked_yes room [] _ (λ p h. u)

  -- what is known of a delivery that was accepted
  module _ (x : ℕ × ℕ) (accepts : answer ≡ Ok x) where
    abbrev three : List Question
    three = accepted r ys ∷ (within limit taken ys ∷ (room ∷ []))

    past_letters : asked {A = ℕ × ℕ} (stands plan ∷ (fits plan ∷ (ends plan (length ys) ∷ three))) (length ys, joins plan) ≡ Ok x
    past_letters = passed_rest (knows plan) (stands plan ∷ (fits plan ∷ (ends plan (length ys) ∷ three))) (length ys, joins plan) x accepts

    past_standing : asked {A = ℕ × ℕ} (fits plan ∷ (ends plan (length ys) ∷ three)) (length ys, joins plan) ≡ Ok x
    past_standing = passed_rest (stands plan) (fits plan ∷ (ends plan (length ys) ∷ three)) (length ys, joins plan) x past_letters

    past_blocks : asked {A = ℕ × ℕ} (ends plan (length ys) ∷ three) (length ys, joins plan) ≡ Ok x
    past_blocks = passed_rest (fits plan) (ends plan (length ys) ∷ three) (length ys, joins plan) x past_standing

    past_asks : asked {A = ℕ × ℕ} three (length ys, joins plan) ≡ Ok x
    past_asks = passed_rest (ends plan (length ys)) three (length ys, joins plan) x past_blocks

    past_accepted : asked {A = ℕ × ℕ} (within limit taken ys ∷ (room ∷ [])) (length ys, joins plan) ≡ Ok x
    past_accepted = passed_rest (accepted r ys) (within limit taken ys ∷ (room ∷ [])) (length ys, joins plan) x past_asks

    past_within : asked {A = ℕ × ℕ} (room ∷ []) (length ys, joins plan) ≡ Ok x
    past_within = passed_rest (within limit taken ys) (room ∷ []) (length ys, joins plan) x past_accepted

    -- its plan passed
    pub passed_plan : asked (asks plan (length ys)) (shape plan) ≡ Ok (shape plan)
    passed_plan =
        asked_yes (knows plan) (stands plan ∷ (fits plan ∷ (ends plan (length ys) ∷ []))) (shape plan) (passed_first (knows plan) (stands plan ∷ (fits plan ∷ (ends plan (length ys) ∷ three))) (length ys, joins plan) x accepts)
        ∙ asked_yes (stands plan) (fits plan ∷ (ends plan (length ys) ∷ [])) (shape plan) (passed_first (stands plan) (fits plan ∷ (ends plan (length ys) ∷ three)) (length ys, joins plan) x past_letters)
        ∙ asked_yes (fits plan) (ends plan (length ys) ∷ []) (shape plan) (passed_first (fits plan) (ends plan (length ys) ∷ three) (length ys, joins plan) x past_standing)
        ∙ asked_yes (ends plan (length ys)) [] (shape plan) (passed_first (ends plan (length ys)) three (length ys, joins plan) x past_blocks)

    -- its symbols are accepted
    pub passed_symbols : (p : ℕ) → p < length ys → r.accepts (get_or ys p 0) ≡ true
    passed_symbols = passed_first (accepted r ys) (within limit taken ys ∷ (room ∷ [])) (length ys, joins plan) x past_asks

    -- it stays within the limit
    pub passed_limit : taken + length ys ≤ limit
    passed_limit = let t : leb (taken + length ys) limit ≡ true = passed_first (within limit taken ys) (room ∷ []) (length ys, joins plan) x past_accepted 0 (omega arith) in grind (arith, nat_tests)

    -- there is room for it
    pub passed_room : (b && (leb (most plan * (r.size * r.size)) n && leb r.size k)) ≡ true
    passed_room = passed_first room [] (length ys, joins plan) x past_within 0 (omega arith)

    -- and it answers the two numbers
    pub passed_value : x ≡ (length ys, joins plan)
    passed_value = let e : ◌≡◌ {A = Result (ℕ × ℕ) Refusal} (Ok (length ys, joins plan)) (Ok x) = passed_rest room [] (length ys, joins plan) x past_within in cc

-- what the question of the memory says is of no account before the others are passed
module _ {V : Type 0} (r : Rule V) (ys plan : List ℕ) (limit taken : ℕ) (b b' : Bool) (n k : ℕ)
    (same : asked (asks plan (length ys)) (shape plan) ≡ Ok (shape plan) → taken + length ys ≤ limit → b ≡ b') where
  abbrev Same : Type 0
  Same = answer r ys plan limit taken b n k ≡ answer r ys plan limit taken b' n k

  by_limit : (s : Shape) (p : Ok s ≡ asked (asks plan (length ys)) (shape plan)) (x : Unit {0}) → Ok x ≡ asked (accepted r ys ∷ []) tt → (t : Bool) → leb (taken + length ys) limit ≡ t → Same
  by_limit s p x q false t = says_limit r ys plan limit taken b n k s p x tt q t ∙ sym (says_limit r ys plan limit taken b' n k s p x tt q t)
  by_limit s p x q true t =
      let low : taken + length ys ≤ limit = grind (arith, nat_tests) in
      let is : s ≡ shape plan = shape_is plan (length ys) (shape plan) s (sym p) in
      ap (λ z. answer r ys plan limit taken z n k) (same (sym p ∙ ap Ok is) low)

  by_symbols : (s : Shape) (p : Ok s ≡ asked (asks plan (length ys)) (shape plan)) (o : Result (Unit {0}) Refusal) → asked (accepted r ys ∷ []) tt ≡ o → Same
  by_symbols s p (Err e) q = says_symbol r ys plan limit taken b n k s p tt e (sym q) ∙ sym (says_symbol r ys plan limit taken b' n k s p tt e (sym q))
  by_symbols s p (Ok x) q = by_limit s p x (sym q) (leb (taken + length ys) limit) refl

  by_plan : (o : Result Shape Refusal) → asked (asks plan (length ys)) (shape plan) ≡ o → Same
  by_plan (Err e) p = says_plan r ys plan limit taken b n k e (sym p) ∙ sym (says_plan r ys plan limit taken b' n k e (sym p))
  by_plan (Ok s) p = by_symbols s (sym p) (asked (accepted r ys ∷ []) tt) refl

  pub same_answer : Same
  same_answer = by_plan (asked (asks plan (length ys)) (shape plan)) refl
