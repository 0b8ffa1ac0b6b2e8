-- The questions are put in their order, and the first no is the refusal.
use Rattle.std.proofs.Common.{◌≡◌, ℕ, true, false, ◌&&◌, eqb, List, [], ◌∷◌, length, Ok, Err, sym, ap, ◌∙◌, inl, inr, arith}
use Rattle.std.proofs.lemmas.Bool.Decides.{nat_tests}
use Rattle.refusal.specs.Questions.{asked}
use Rattle.refusal.specs.declared.Refusal.TheVariants.{Unfinished}
use Rattle.refusal.proofs.Questions.{asked_yes, asked_no, passed_first}
use Rattle.plan.specs.declared.Tally.{Tally}
use Rattle.plan.specs.declared.Shape.{Shape}
use Rattle.plan.specs.Asks.{knows, stands, fits, ends, asks, shape, singles, height}
use Rattle.plan.specs.Tallies.{tallied}
use Rattle.plan.proofs.read.Goals as goal

-- once the first three are passed, the fourth is left
module _ {A B C : Type 0} (plan : List ℕ) (n : ℕ) (x x' : A) (y y' : B) (z z' : C) (letters : Ok x ≡ asked (knows plan ∷ []) x') (found : Ok y ≡ asked (stands plan ∷ []) y') (blocks : Ok z ≡ asked (fits plan ∷ []) z') where
  fourth : (a : Shape) → asked (asks plan n) a ≡ asked (ends plan n ∷ []) a
  fourth a =
      asked_yes (knows plan) (stands plan ∷ (fits plan ∷ (ends plan n ∷ []))) a (passed_first (knows plan) [] x' x (sym letters))
      ∙ asked_yes (stands plan) (fits plan ∷ (ends plan n ∷ [])) a (passed_first (stands plan) [] y' y (sym found))
      ∙ asked_yes (fits plan) (ends plan n ∷ []) a (passed_first (fits plan) [] z' z (sym blocks))

  ended : (a : Shape) → (eqb (singles plan) n && eqb (height plan (length plan)) 0) ≡ true → Ok a ≡ asked (asks plan n) a
  ended a t = sym (fourth a ∙ asked_yes (ends plan n) [] a (λ p h. t))

  unfinished : (a : Shape) → (eqb (singles plan) n && eqb (height plan (length plan)) 0) ≡ false → Err Unfinished ≡ asked (asks plan n) a
  unfinished a t = sym (fourth a ∙ asked_no (ends plan n) [] a 0 (omega arith) t (λ k h. absurd (omega arith)))

-- the counts that came out are those of the plan
counts : (plan : List ℕ) (t : Tally) → Ok t ≡ asked (stands plan ∷ []) (tallied plan) → t ≡ tallied plan
counts plan t e =
    let all : asked (stands plan ∷ []) (tallied plan) ≡ Ok (tallied plan) = asked_yes (stands plan) [] (tallied plan) (passed_first (stands plan) [] (tallied plan) t (sym e)) in
    cc

pub ask_blocks-requires : goal.ask_blocks-requires
ask_blocks-requires c = passed_first (stands c.args.plan.now) [] _ _ (sym c.in_ok-tally.ensures)

pub returns-then-tally-symbols : goal.returns-then-tally-symbols
returns-then-tally-symbols c =
    let plan = c.args.plan.now in
    let t = counts plan c.in_ok-tally.tally c.in_ok-tally.ensures in
    let s = ap (λ x. x.singles) t in
    let h = ap (λ x. x.standing) t in
    let left : (eqb (singles plan) c.args.symbols && eqb (height plan (length plan)) 0) ≡ false =
    elim c.then-tally-symbols.either [ inl ne ↦ grind (arith, nat_tests) | inr ne ↦ grind (arith, nat_tests) ] in
    unfinished plan c.args.symbols _ _ _ _ _ _ c.in_ok-ask_letters.ensures c.in_ok-tally.ensures c.in_ok-ask_blocks.ensures (shape plan) left

pub returns : goal.returns
returns c =
    let plan = c.args.plan.now in
    let t = counts plan c.in_ok-tally.tally c.in_ok-tally.ensures in
    let s = ap (λ x. x.singles) t in
    let h = ap (λ x. x.standing) t in
    let done : (eqb (singles plan) c.args.symbols && eqb (height plan (length plan)) 0) ≡ true = grind (arith, nat_tests) in
    ap (λ x. Ok (record { joins = x.joins; most = x.most })) t
    ∙ ended plan c.args.symbols _ _ _ _ _ _ c.in_ok-ask_letters.ensures c.in_ok-tally.ensures c.in_ok-ask_blocks.ensures (shape plan) done
