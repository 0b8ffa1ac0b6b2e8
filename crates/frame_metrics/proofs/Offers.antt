-- A loop that offers each state what a row has for it.
use Rattle.std.proofs.Common.{◌≡◌, ℕ, ◌+◌, ◌<◌, ◌≤◌, ◌≢◌, List, length, get_or, set, Some, None, Option, sym, ap, ◌∙◌, subst, inl, inr, arith, get_or-set_other, get_or-set_same, below_more}
use Rattle.std.proofs.lemmas.Bool.{cases_eq, le-leb, lt-leb}
use Rattle.algebra_survivor.specs.declared.Survivor.{Survivor}
use Rattle.algebra_survivor.specs.Survivors.{longest, none_row}
use Rattle.frame_metrics.specs.declared.offer.Offer.{Offer}
use Rattle.frame_metrics.specs.Offers.{bettered, least, offer_high, offered}
use Rattle.frame_metrics.specs.Totals.{most_cost}
use Rattle.frame_metrics.proofs.Bests.{high_least}

-- the states below j have been offered what there is for them, and the others nothing yet
pub record Offered (row : List Survivor) (total : ℕ) (was : List (Option Offer)) (j : ℕ) (now : List (Option Offer)) : Type 0 where
  pub done : (q : ℕ) → q < j → get_or now q None ≡ bettered (get_or was q None) total (get_or row q none_row)
  pub rest : (q : ℕ) → j ≤ q → get_or now q None ≡ get_or was q None
  pub low : (most q : ℕ) → total ≤ most → offer_high (get_or was q None) ≤ most + most_cost → offer_high (get_or now q None) ≤ most + most_cost

module _ (row : List Survivor) (total : ℕ) (was : List (Option Offer)) where
  module _ (j : ℕ) (now : List (Option Offer)) (cell : Survivor) (is : cell ≡ get_or row j none_row) (so_far : Offered row total was j now) where
    -- a path is offered
    pub offered_more : (x : Offer) → j < length now → cell.length ≤ longest → cell.cost ≤ most_cost → x ≡ least (get_or now j None) (offered total cell)
        → Offered row total was (j + 1) (set now j (Some x))
    offered_more x inside short cheap x-is = record {
      done = below_more _ j (λ q h. let ne : q ≢ j = omega arith in get_or-set_other now j q (Some x) None ne ∙ so_far.done q h) (get_or-set_same now j (Some x) None inside ∙ here);
      rest = λ q h. let ne : q ≢ j = omega arith in get_or-set_other now j q (Some x) None ne ∙ so_far.rest q (omega arith);
      low = λ most q h k.
          elim (cases_eq q j) [
            | inl same ↦
                let old : offer_high (get_or now j None) ≤ most + most_cost = subst (λ (p : ℕ). offer_high (get_or now p None) ≤ most + most_cost) same (so_far.low most q h k) in
                let new : x.total ≤ most + most_cost = rw x-is (high_least (get_or now j None) (offered total cell) (most + most_cost) old (omega arith)) in
                rw (same, get_or-set_same now j (Some x) None inside) new
            | inr ne ↦ rw (get_or-set_other now j q (Some x) None ne) (so_far.low most q h k)
          ];
    }
      where
        here : Some x ≡ bettered (get_or was j None) total (get_or row j none_row)
        here =
            let test = le-leb (get_or row j none_row).length longest (subst (λ (r : Survivor). r.length ≤ longest) is short) in
            ap Some (x-is ∙ ap (λ o. least o (offered total cell)) (so_far.rest j (omega arith)) ∙ ap (λ r. least (get_or was j None) (offered total r)) is) ∙ sym (rw test)

    -- none is not
    pub offered_skip : longest < cell.length → Offered row total was (j + 1) now
    offered_skip long = record {
      done = below_more _ j so_far.done here;
      rest = λ q h. so_far.rest q (omega arith);
      low = so_far.low;
    }
      where
        here : get_or now j None ≡ bettered (get_or was j None) total (get_or row j none_row)
        here =
            let test = lt-leb (get_or row j none_row).length longest (subst (λ (r : Survivor). longest < r.length) is long) in
            so_far.rest j (omega arith) ∙ sym (rw test)
