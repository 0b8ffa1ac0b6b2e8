-- A turn of the loop over deliveries: one is answered and listed, and the others are left.
use Rattle.std.proofs.Common.{◌≡◌, ℕ, List, ◌∷◌, ◌++◌, length, Ok, Err, Result, sym, ap, ◌∙◌, subst, append_assoc, arith, length-append}
use Rattle.refusal.specs.declared.Refusal.{Refusal}
use Rattle.frame.specs.declared.Frame.{Frame}
use Rattle.frame.specs.Plain.{Plain, nothing, settled}
use Rattle.frame_report.specs.Columns.{delivered}
use Rattle.frame_report.specs.Deliveries.{Bounded, answered, grown, kept, kept_all, listed}
use Rattle.frame_report.specs.Fields.{numbers}
use Rattle.frame_report.specs.Follows.{Follows, Gave}
use Rattle.frame_report.proofs.Answers.{accepted_answer}

-- of the deliveries ds, those in `left` are left, and what the others gave is written
pub record Going (ds : List (List ℕ × List ℕ)) (was : List ℕ) (left : List (List ℕ × List ℕ)) (is : List ℕ) (f : Frame) (store : List ℕ) : Type 0 where
  pub at : Plain
  pub shown : is ++ listed at left ≡ was ++ listed nothing ds
  pub ends : kept_all at left ≡ kept_all nothing ds
  pub follows : Follows at f store
  pub bounded : Bounded at

-- a frame that follows has a step for each symbol
pub steps_are : (p : Plain) (f : Frame) (store : List ℕ) → Follows p f store → f.steps ≡ length p.symbols
steps_are p f store follows =
    (follows.counts follows.noise store follows.calls f follows.history).1 ∙ ap (λ (q : Plain). length q.symbols) follows.holds

-- an accepted delivery asked for the limit and for the rows
kept_bounded : (p : Plain) (d : List ℕ × List ℕ) (o : Result (ℕ × ℕ) Refusal) → o ≡ answered p d → Bounded p → Bounded (kept p d)
unfolding kept
kept_bounded p d (Ok x) e b =
    let held : settled (answered p d) (grown p d) p ≡ grown p d = ap (λ o. settled o (grown p d) p) (sym e) in
    let a = accepted_answer p d x (sym e) in
    subst Bounded (sym held) (record { symbols = omega (arith, a.symbols, length-append p.symbols (numbers d.1)); rows = a.rows })
kept_bounded p d (Err r) e b =
    let held : settled (answered p d) (grown p d) p ≡ p = ap (λ o. settled o (grown p d) p) (sym e) in
    subst Bounded (sym held) b

pub going_more : (ds : List (List ℕ × List ℕ)) (was : List ℕ) (d : List ℕ × List ℕ) (left left' : List (List ℕ × List ℕ)) (is is' : List ℕ) (f f' : Frame) (store store' : List ℕ)
    (o : Result (ℕ × ℕ) Refusal)
    → left ≡ d ∷ left' → Going ds was left is f store → Gave d f store o f' store' → is' ≡ is ++ delivered o → Going ds was left' is' f' store'
going_more ds was d left left' is is' f f' store store' o more g gave written =
    let p = g.at in
    let here = gave p g.follows in
    let others = listed (kept p d) left' in
    let first : listed p left ≡ delivered (answered p d) ++ others = ap (listed p) more in
    record {
      at = kept p d;
      shown =
          ap (λ l. l ++ others) (written ∙ ap (λ x. is ++ delivered x) here.0)
          ∙ append_assoc is (delivered (answered p d)) others
          ∙ ap (λ l. is ++ l) (sym first)
          ∙ g.shown;
      ends = sym (ap (kept_all p) more) ∙ g.ends;
      follows = here.1;
      bounded = kept_bounded p d o here.0 g.bounded;
    }
