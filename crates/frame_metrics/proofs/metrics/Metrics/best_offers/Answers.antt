-- Each turn adds what one state offers, where it has a total.
use Rattle.std.proofs.Common.{◌≡◌, ℕ, ◌+◌, ◌*◌, ◌≤◌, Some, None, get_or, replicate, Option, unwrap_or, sym, refl, ap, ◌∙◌, subst, ap₂, inl, inr, arith, zero-mul}
use Rattle.std.proofs.lemmas.List.{get_or_past, get_or-replicate}
use Rattle.std.proofs.lemmas.Bool.{cases_lt}
use Rattle.algebra_survivor.specs.Survivors.{none_row}
use Rattle.frame_rows.specs.Traces.{state_total}
use Rattle.frame_metrics.specs.declared.offer.Offer.{Offer}
use Rattle.frame_metrics.specs.Offers.{best_offer, bettered, tried}
use Rattle.frame_metrics.specs.Totals.{most_cost}
use Rattle.frame_metrics.proofs.Bests.{best_none, best_more}
use Rattle.frame_metrics.proofs.Walks.{Came, all_came, came}
use Rattle.frame_metrics.proofs.metrics.Metrics.best_offers.Goals as goal
use Rattle.frame_metrics.proofs.metrics.Metrics.best_offers.Goals.{In-Some, In-Some-total}

none_yet : (j : ℕ) → get_or {A = Option Offer} (replicate 64 None) j None ≡ None
none_yet j = elim (cases_lt j 64) [ inl low ↦ get_or-replicate 64 j None None low | inr high ↦ get_or_past (replicate 64 None) j None high ]

pub loop-total-init : goal.loop-total-init
loop-total-init c =
    let is = c.into_iter-total-iterator.ensures.into_iter_gives in
    let totals = c.args.self.now.totals in
    let m = c.args.matrix.now in
    record {
      long = refl;
      left = record {
        place = 0;
        inside = omega arith;
        totals_left = rw (is, c.zip-total-items.ensures.first) c.iter.ensures.rest;
        rows_left = rw (is, c.zip-total-items.ensures.second, zero-mul c.args.d) c.chunks_exact.ensures.rest;
        size = rw (is, c.zip-total-items.ensures.second) (c.chunks_exact.ensures.size ∙ c.max.ensures);
      };
      best = λ j h. none_yet j ∙ sym (best_none totals m c.args.d j);
      low = λ j. rw (none_yet j) (omega arith);
    }

-- a total and a row
module _ (c : In-Some) where
  next : Came c.args.self.now.totals c.args.matrix.now c.args.d c.loop-total.total-iterator c.loop-total.invariant.left c.in-Some.total.now c.in-Some.row.now c.next.new.self
  next = came c.args.self.now.totals c.args.matrix.now c.args.d (omega (arith, c.args.self.now.full)) c.requires.matrix_len c.loop-total.total-iterator c.next.new.self c.next.result c.loop-total.invariant.left c.next.ensures.steps c.in-Some.total c.in-Some.row c.in-Some.is

-- a total that is there
module _ (c : In-Some-total) where
  total_is : state_total c.args.self.now.totals c.loop-total.invariant.left.place ≡ Some c.in-Some-total.total
  total_is = sym (next (goal.at.In-Some-total c).In-Some).total_is ∙ c.in-Some-total.is

  total_low : c.in-Some-total.total ≤ most_cost * c.args.self.now.rows
  total_low = subst (λ (o : Option ℕ). unwrap_or o 0 ≤ most_cost * c.args.self.now.rows) total_is (c.args.self.now.low c.loop-total.invariant.left.place)

pub loop-total-preserved-in-Some-total : goal.loop-total-preserved-in-Some-total
loop-total-preserved-in-Some-total c =
    let came = next (goal.at.loop-total-preserved-in-Some-total c).In-Some in
    let some = (goal.at.loop-total-preserved-in-Some-total c).In-Some-total in
    let old = c.loop-total.invariant in
    let totals = c.args.self.now.totals in
    let m = c.args.matrix.now in
    let d = c.args.d in
    record {
      long = c.offer_row.auto.best ∙ old.long;
      left = came.left';
      best = λ j h.
          c.offer_row.ensures.better j (omega (arith, came.long))
          ∙ ap₂ (λ (o : Option Offer) r. bettered o c.in-Some-total.total r) (old.best j h) (came.cells j h)
          ∙ ap (λ v. tried (best_offer totals m d j old.left.place) v (get_or m (old.left.place * d + j) none_row)) (sym (total_is some))
          ∙ sym (best_more totals m d j old.left.place) ∙ ap (best_offer totals m d j) (sym came.further);
      low = λ j. c.offer_row.ensures.low (most_cost * c.args.self.now.rows) j (total_low some) (old.low j);
    }

pub loop-total-preserved : goal.loop-total-preserved
loop-total-preserved c =
    let came = next (goal.at.loop-total-preserved c).In-Some in
    let old = c.loop-total.invariant in
    let totals = c.args.self.now.totals in
    let m = c.args.matrix.now in
    let d = c.args.d in
    let none : state_total totals old.left.place ≡ None = sym came.total_is ∙ c.in_default.is in
    record {
      long = old.long;
      left = came.left';
      best = λ j h.
          old.best j h
          ∙ ap (λ v. tried (best_offer totals m d j old.left.place) v (get_or m (old.left.place * d + j) none_row)) (sym none)
          ∙ sym (best_more totals m d j old.left.place) ∙ ap (best_offer totals m d j) (sym came.further);
      low = old.low;
    }

pub returns : goal.returns
returns c =
    let old = c.loop-total.invariant in
    let all = all_came c.args.self.now.totals c.args.matrix.now c.args.d (omega (arith, c.args.self.now.full)) c.requires.matrix_len c.loop-total.total-iterator c.next.new.self c.next.result old.left c.next.ensures.steps c.in-None.is in
    record { long = old.long; best = λ j h. old.best j h ∙ ap (best_offer c.args.self.now.totals c.args.matrix.now c.args.d j) all; low = old.low }
