-- How the answer to a delivery follows from the questions of its text and from a take.
use Rattle.std.proofs.Common.{◌≡◌, ℕ, ◌+◌, ◌*◌, ◌≤◌, Bool, true, false, ◌&&◌, leb, List, [], ◌∷◌, ◌++◌, length, Ok, Err, Result, sym, ap, ◌∙◌, arith}
use Rattle.std.proofs.lemmas.Bool.{le-leb, leb-true, and_parts}
use Rattle.refusal.specs.declared.Refusal.{Refusal}
use Rattle.refusal.specs.declared.Refusal.TheVariants.{Memory, Text}
use Rattle.refusal.specs.Questions.{Question, asked, once}
use Rattle.refusal.proofs.Questions.{asked_yes, asked_no, asked_first, asked_rest, passed_first, passed_rest}
use Rattle.code.specs.Codes.{k3}
use Rattle.plan.specs.Asks.{asks, blocks, ends, fits, joins, knows, most, stands}
use Rattle.engine.specs.Plain.{accepted}
use Rattle.engine.specs.Deliveries.{within}
use Rattle.frame.specs.Plain.{Plain, limit, settled, survivor_rule, taken, took}
use Rattle.frame_report.specs.Deliveries.{after, answered, grown, kept, store_words}
use Rattle.frame_report.specs.Fields.{fields, numbers, short, text_asks}
use Rattle.frame_report.proofs.Plans.{most_short}

same_answer : {A : Type 0} (x y : A) → ◌≡◌ {A = Result A Refusal} (Ok x) (Ok y) → x ≡ y
same_answer x y e = cc

-- a work area of 200 matrices asks no more than one that just suffices
pub room_enough : (p : Plain) (ys plan : List ℕ) → length plan ≤ 200 → took k3 p ys plan 3200 4 store_words ≡ took k3 p ys plan (most plan * 16) 4 store_words
room_enough p ys plan h =
    let large : leb (most plan * 16) 3200 ≡ true = le-leb (most plan * 16) 3200 (omega (arith, most_short plan)) in
    let just : leb (most plan * 16) (most plan * 16) ≡ true = le-leb (most plan * 16) (most plan * 16) (omega arith) in
    ap (λ (t : Bool). asked (asks plan (length ys) ++ (accepted (survivor_rule k3) ys ∷ (within limit (length p.symbols) ys
    ∷ (once (leb ((p.rows + blocks plan) * 5) store_words && (t && leb 4 4)) Memory ∷ [])))) (length ys, joins plan)) (large ∙ sym just)

-- what an accepted take says
pub record Accepted (p : Plain) (ys plan : List ℕ) (x : ℕ × ℕ) : Type 0 where
  pub value : x ≡ (length ys, joins plan)
  pub symbols : length p.symbols + length ys ≤ limit
  pub rows : (p.rows + blocks plan) * 5 ≤ store_words

module _ (p : Plain) (ys plan : List ℕ) (n : ℕ) (x : ℕ × ℕ) where
  abbrev memory : Question
  memory = once (leb ((p.rows + blocks plan) * 5) store_words && (leb (most plan * 16) n && leb 4 4)) Memory

  abbrev limited : List Question
  limited = within limit (length p.symbols) ys ∷ (memory ∷ [])

  abbrev symbolic : List Question
  symbolic = accepted (survivor_rule k3) ys ∷ limited

  pub accepted_take : took k3 p ys plan n 4 store_words ≡ Ok x → Accepted p ys plan x
  accepted_take ok =
      let a : ℕ × ℕ = (length ys, joins plan) in
      let q = passed_rest (knows plan) (stands plan ∷ (fits plan ∷ (ends plan (length ys) ∷ symbolic))) a x ok in
      let q = passed_rest (stands plan) (fits plan ∷ (ends plan (length ys) ∷ symbolic)) a x q in
      let q = passed_rest (fits plan) (ends plan (length ys) ∷ symbolic) a x q in
      let q = passed_rest (ends plan (length ys)) symbolic a x q in
      let q = passed_rest (accepted (survivor_rule k3) ys) limited a x q in
      let low = passed_first (within limit (length p.symbols) ys) (memory ∷ []) a x q 0 (omega arith) in
      let q = passed_rest (within limit (length p.symbols) ys) (memory ∷ []) a x q in
      let room = passed_first memory [] a x q 0 (omega arith) in
      record {
        value = same_answer x a (sym ok ∙ asked_rest [] a x a (asks plan (length ys) ++ symbolic) ok);
        symbols = leb-true _ _ low;
        rows = leb-true _ _ (and_parts _ _ room).0;
      }

module _ (plan line : List ℕ) where
  -- the text is refused where a line is too long, where a field is no number, and nowhere else
  pub long_text : short plan && short line ≡ false → asked {A = Unit} (text_asks plan line) tt ≡ Err (Text 0)
  long_text long = asked_no (once (short plan && short line) (Text 0)) (fields line ∷ []) tt 0 (omega arith) long (λ k h. absurd (omega arith))

  pub bad_field : (n : ℕ) (e : Refusal) → short plan && short line ≡ true → Err e ≡ asked (fields line ∷ []) n → asked {A = Unit} (text_asks plan line) tt ≡ Err e
  bad_field n e both bad =
      asked_yes (once (short plan && short line) (Text 0)) (fields line ∷ []) tt (λ k h. both) ∙ asked_first [] n n tt (fields line ∷ []) e (sym bad)

  pub good_text : (n m : ℕ) → short plan && short line ≡ true → Ok m ≡ asked (fields line ∷ []) n → asked {A = Unit} (text_asks plan line) tt ≡ Ok tt
  good_text n m both good =
      asked_yes (once (short plan && short line) (Text 0)) (fields line ∷ []) tt (λ k h. both) ∙ asked_rest [] n m tt (fields line ∷ []) (sym good)

  module _ (p : Plain) where
    pub refused_text : (e : Refusal) → asked {A = Unit} (text_asks plan line) tt ≡ Err e → (answered p (plan, line) ≡ Err e) × (kept p (plan, line) ≡ p)
    unfolding answered kept
    refused_text e text =
        let out : answered p (plan, line) ≡ Err e = ap (λ t. after t (took k3 p (numbers line) plan (most plan * 16) 4 store_words)) text in
        (out, ap (λ o. settled o (grown p (plan, line)) p) out)

    pub passed_text : length plan ≤ 200 → asked {A = Unit} (text_asks plan line) tt ≡ Ok tt
        → (answered p (plan, line) ≡ took k3 p (numbers line) plan 3200 4 store_words) × (kept p (plan, line) ≡ taken k3 p (numbers line) plan 3200 4 store_words)
    unfolding answered kept
    passed_text h text =
        let out : answered p (plan, line) ≡ took k3 p (numbers line) plan 3200 4 store_words =
        ap (λ t. after t (took k3 p (numbers line) plan (most plan * 16) 4 store_words)) text ∙ sym (room_enough p (numbers line) plan h) in
        (out, ap (λ o. settled o (grown p (plan, line)) p) out)

-- an accepted delivery is an accepted take
pub accepted_answer : (p : Plain) (d : List ℕ × List ℕ) (x : ℕ × ℕ) → answered p d ≡ Ok x → Accepted p (numbers d.1) d.0 x
unfolding answered
accepted_answer p d x ok = by (asked (text_asks d.0 d.1) tt) ok
  where
    by : (t : Result Unit Refusal) → after t (took k3 p (numbers d.1) d.0 (most d.0 * 16) 4 store_words) ≡ Ok x → Accepted p (numbers d.1) d.0 x
    by (Ok u) e = accepted_take p (numbers d.1) d.0 (most d.0 * 16) x e
    by (Err r) e = cc
