-- The first byte that is neither 0 nor 1 is the refusal, and the limit is asked after it.
use Rattle.std.proofs.Common.{◌≡◌, ℕ, Bool, true, false, cond, leb, List, [], ◌∷◌, length, Ok, Err, sym, ap, ◌∙◌, rules, tests, arith}
use Rattle.std.specs.List.{AllWithin}
use Rattle.std.proofs.lemmas.Bool.{le-leb, lt-leb}
use Rattle.std.proofs.lemmas.Iterator.{YieldsList-from_slice, IsFirst-from_position}
use Rattle.refusal.specs.declared.Refusal.TheVariants.{Limit}
use Rattle.refusal.specs.Questions.{asked}
use Rattle.refusal.proofs.Questions.{asked_yes, asked_no, asked_once}
use Rattle.run_check.specs.Check.{limit, each_bit, not_too_many, bit_questions}
use Rattle.run_check.proofs.ask.Goals as goal

pub returns-in-Some : goal.returns-in-Some
returns-in-Some c =
    let bits = c.args.bits.now in
    let first = IsFirst-from_position _ _ _ (λ b. leb b 1 ≡ false) (λ b. leb b 1 ≡ true) c.in-Some.ensures.ran (YieldsList-from_slice bits cc) (λ x q k. search (rules, tests)) (λ x q k. search (rules, tests)) in
    sym (asked_no (each_bit bits) (not_too_many bits ∷ []) tt c.in-Some.place first.0 (first.1 0) (λ k h. first.2 k 0 (omega arith) h))

-- bytes that are each 0 or 1 leave the question of the limit
second : {V : Type 0} (bits : List ℕ) (v : V) (b : Bool) → AllWithin (λ b. leb b 1 ≡ true) bits 0 (length bits) → leb (length bits) limit ≡ b
    → cond b (Ok v) (Err Limit) ≡ asked (bit_questions bits) v
second bits v b all e =
    sym (asked_yes (each_bit bits) (not_too_many bits ∷ []) v (λ k h. all k 0 (omega arith) h) ∙ asked_once (leb (length bits) limit) Limit [] v ∙ ap (λ t. cond t (Ok v) (Err Limit)) e)

pub returns-in-None : goal.returns-in-None
returns-in-None c =
    let bits = c.args.bits.now in
    let all = IsFirst-from_position _ _ _ (λ b. leb b 1 ≡ false) (λ b. leb b 1 ≡ true) c.in-None.ensures.ran (YieldsList-from_slice bits cc) (λ x q k. search (rules, tests)) (λ x q k. search (rules, tests)) in
    second bits tt false all (lt-leb _ _ (omega arith))

pub returns-in-None-2 : goal.returns-in-None-2
returns-in-None-2 c =
    let bits = c.args.bits.now in
    let all = IsFirst-from_position _ _ _ (λ b. leb b 1 ≡ false) (λ b. leb b 1 ≡ true) c.in-None.ensures.ran (YieldsList-from_slice bits cc) (λ x q k. search (rules, tests)) (λ x q k. search (rules, tests)) in
    second bits tt true all (le-leb _ _ (omega arith))
