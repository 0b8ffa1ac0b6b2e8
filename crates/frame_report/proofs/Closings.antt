-- The decode of a frame that follows the plain frame: state 0 always has a path, so it is never refused.
use Rattle.std.proofs.Common.{◌≡◌, ℕ, ◌*◌, true, ◌&&◌, ltb, leb, List, [], ◌∷◌, ◌++◌, length, take, drop, replicate, Ok, Err, Result, sym, refl, ap, ◌∙◌, subst, append_assoc, arith}
use Rattle.std.proofs.lemmas.List.{take_at}
use Rattle.std.proofs.lemmas.Bool.{le-leb, and_from}
use Rattle.refusal.specs.declared.Refusal.{Refusal}
use Rattle.refusal.specs.declared.Refusal.TheVariants.{Memory, Place}
use Rattle.refusal.specs.Questions.{once}
use Rattle.refusal.proofs.Questions.{asked_yes}
use Rattle.code.specs.Codes.{k3}
use Rattle.frame_paths.specs.Paths.{costs}
use Rattle.frame_paths.proofs.Walks.{zero_path}
use Rattle.frame.specs.declared.Frame.{Frame}
use Rattle.frame.specs.Frames.{Traced}
use Rattle.frame.specs.Histories.{Decode, then_decode}
use Rattle.frame.specs.Plain.{DecodesRight, Found, Plain, allowed, nothing}
use Rattle.frame_report.specs.Columns.{closed}
use Rattle.frame_report.specs.Deliveries.{Bounded, kept_all, listed}
use Rattle.frame_report.specs.Follows.{Closes, Follows, Listed, Shows}

module _ (f : Frame) (store bits bits' : List ℕ) (s : length store ≡ 2560) (b : length bits ≡ 4096) (p : Plain) (follows : Follows p f store) (bounded : Bounded p) where
  allows : allowed k3 p 0 (length store) (length bits) ≡ Ok tt
  allows =
      let rows : leb (p.rows * 5) (length store) ≡ true = le-leb _ _ (omega (arith, bounded.rows)) in
      let room : leb (length p.symbols) (length bits) ≡ true = le-leb _ _ (omega (arith, bounded.symbols)) in
      let memory = once (leb (p.rows * 5) (length store) && leb (length p.symbols) (length bits)) Memory in
      asked_yes (once (ltb 0 4) Place) (memory ∷ []) tt (λ k h. refl) ∙ asked_yes memory [] tt (λ k h. and_from _ _ rows room)

  finds : (o : Result ℕ Refusal) → Traced f 0 store bits o bits' → Found k3 p.symbols 0 bits o bits'
  finds o traced =
      let history = then_decode 0 bits bits' o follows.calls f store follows.history traced in
      let right = (follows.whole follows.noise store (Decode 0 (length store) bits o bits' ∷ follows.calls) f history).0 in
      (subst (λ (q : Plain). DecodesRight k3 q 0 (length store) bits o bits') follows.holds right).0 allows

  pub closes : (cost n : ℕ) (was is : List ℕ) → Traced f 0 store bits (Ok cost) bits' → n ≡ length p.symbols
      → is ≡ was ++ closed (Ok (cost, take n bits')) → Closes p.symbols was is
  closes cost n was is traced counted written =
      let found = finds (Ok cost) traced in
      let us = found.0 in
      let front : take n bits' ≡ us = ap (take n) found.3 ∙ take_at us (drop (length p.symbols) bits) n (found.1.reaches.as_long ∙ sym counted) in
      (us, found.1, written ∙ ap (λ (x : ℕ). was ++ closed (Ok (x, take n bits'))) (sym found.2) ∙ ap (λ (l : List ℕ). was ++ closed (Ok (costs k3 0 p.symbols us, l))) front)

  pub never_refused : (e : Refusal) → Traced f 0 store bits (Err e) bits' → ⊥
  never_refused e traced = (finds (Err e) traced).1 (replicate (length p.symbols) 0) (zero_path k3 p.symbols)

-- the closing line after the lines of the deliveries
pub shows : (ds : List (List ℕ × List ℕ)) (was mid is : List ℕ) (f : Frame) (store : List ℕ) → Listed ds was mid f store
    → ((p : Plain) → Follows p f store → Bounded p → Closes p.symbols mid is) → Shows ds was is
shows ds was mid is f store lines closing =
    let k = closing (kept_all nothing ds) lines.follows lines.bounded in
    (k.0, k.1, k.2 ∙ ap (λ (l : List ℕ). l ++ closed (Ok (costs k3 0 (kept_all nothing ds).symbols k.0, k.0))) lines.shown ∙ append_assoc was (listed nothing ds) _)
