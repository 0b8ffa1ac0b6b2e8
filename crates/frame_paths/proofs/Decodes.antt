-- A frame decodes to the one cheapest path: the trace of its rows.
use Rattle.std.proofs.Common.{◌≡◌, ℕ, ◌<◌, ◌≤◌, List, length, Some, None, Option, sym, ap, subst, inl, inr, arith}
use Rattle.std.proofs.lemmas.Bool.{cases_order}
use Rattle.code.specs.declared.description.Code.{Code}
use Rattle.code.specs.Codes.{states}
use Rattle.frame_paths.specs.Paths.{costs, Reaches, Cheapest}
use Rattle.frame_paths.specs.Survivors.{word, Lower}
use Rattle.frame_paths.specs.Rows.{Row, started, decoded}
use Rattle.frame_paths.proofs.Ties.{lower_latest, latest_lower, same_word}
use Rattle.frame_paths.proofs.Holds.{Served, Holds}

module _ (c : Code) (ys : List ℕ) where
  -- of least cost and then of least word is of least cost and then of the latest zero
  pub cheapest : (j : ℕ) (us : List ℕ) → Reaches c ys j us
      → ((vs : List ℕ) → Reaches c ys j vs → Lower (costs c 0 ys us) (word c 0 us) (costs c 0 ys vs) (word c 0 vs)) → Cheapest c ys j us
  cheapest j us l least = record {
    reaches = l;
    least = λ vs k differ. (
      (least vs k).0,
      λ same.
          let low : word c 0 us ≤ word c 0 vs = (least vs k).1 same in
          elim (cases_order (word c 0 us) (word c 0 vs)) [
            | inl e ↦ absurd (differ (same_word c 0 j ys us vs l k e))
            | inr r ↦ elim r [ inl lt ↦ lower_latest c 0 j ys us vs l k lt | inr gt ↦ absurd (omega arith) ]
          ],
    );
  }

  pub one_cheapest_lem : (j : ℕ) (us vs : List ℕ) → Cheapest c ys j us → Cheapest c ys j vs → us ≡ vs
  one_cheapest_lem j us vs p q =
      -- were they different, each would have the lower word
      let both : (us ≡ vs → ⊥) → ⊥ = λ differ.
      let a = p.least vs q.reaches differ in
      let b = q.least us p.reaches (λ e. differ (sym e)) in
      let less = latest_lower c 0 j ys us vs p.reaches q.reaches (a.1 (omega arith)) in
      let more = latest_lower c 0 j ys vs us q.reaches p.reaches (b.1 (omega arith)) in
      omega (arith, less, more) in
      elim (cases_order (word c 0 us) (word c 0 vs)) [
        | inl e ↦ same_word c 0 j ys us vs p.reaches q.reaches e
        | inr n ↦ elim n [
          | inl lt ↦ absurd (both (λ e. omega (arith, ap (word c 0) e)))
          | inr gt ↦ absurd (both (λ e. omega (arith, ap (word c 0) e)))
        ]
      ]

  module _ (totals : ℕ → Option ℕ) (rows : List Row) (was : Holds c ys totals rows) (j : ℕ) (low : j < states c) where
    pub frame_decodes_none : totals j ≡ None → (us : List ℕ) → Reaches c ys j us → ⊥
    frame_decodes_none e = subst (Served c ys rows j) e (was.served j low)

    pub frame_decodes : (e : ℕ) → totals j ≡ Some e
        → Cheapest c ys j (decoded c rows j) × (costs c 0 ys (decoded c rows j) ≡ e) × (started c rows j ≡ 0) × (length (decoded c rows j) ≡ length ys)
    frame_decodes e f =
        let s : Served c ys rows j (Some e) = subst (Served c ys rows j) f (was.served j low) in (
          cheapest j (decoded c rows j) s.0
              (λ vs l. subst (λ x. Lower x (word c 0 (decoded c rows j)) (costs c 0 ys vs) (word c 0 vs)) (sym s.1) (s.3 vs l)),
          s.1,
          s.2,
          s.0.as_long,
        )
