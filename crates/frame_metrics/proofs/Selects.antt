-- The totals after a selection, from its best offers.
use Rattle.std.proofs.Common.{◌≡◌, ℕ, ◌+◌, ◌*◌, ◌<◌, ◌≤◌, List, length, get_or, drop, None, Option, unwrap_or, ap, ◌∙◌, inl, inr, arith}
use Rattle.std.proofs.lemmas.Bool.{cases_lt}
use Rattle.frame_rows.specs.Traces.{state_total, total_of}
use Rattle.frame_metrics.specs.Offers.{offer_high, offer_total}
use Rattle.frame_metrics.specs.declared.offer.Offer.{Offer}
use Rattle.frame_metrics.specs.Totals.{most_cost}
use Rattle.frame_metrics.proofs.Parts.{get_or_rest}

-- the keys of d states are the front of the best offers
module _ (best front : List (Option Offer)) (d : ℕ) (long : length front ≡ d) (same : (j : ℕ) → j < d → get_or front j None ≡ get_or best j None)
    (totals totals' : List (Option ℕ)) (settled : (j : ℕ) → j < length front → state_total totals' j ≡ offer_total (get_or front j None)) (rest : drop (length front) totals' ≡ drop (length front) totals) where
  pub total_is : (j : ℕ) → j < d → state_total totals' j ≡ offer_total (get_or best j None)
  total_is j h = settled j (omega arith) ∙ ap offer_total (same j h)

  pub others_stay : (j : ℕ) → d ≤ j → state_total totals' j ≡ state_total totals j
  others_stay j h = get_or_rest None (length front) j totals' totals (omega arith) rest

  pub low_after : (rows : ℕ) → ((j : ℕ) → total_of totals j ≤ most_cost * rows) → ((j : ℕ) → offer_high (get_or best j None) ≤ most_cost * rows + most_cost)
      → (j : ℕ) → total_of totals' j ≤ most_cost * (rows + 1)
  low_after rows was low j =
      elim (cases_lt j d) [
        | inl below ↦
            let is : total_of totals' j ≡ offer_high (get_or best j None) = ap (λ o. unwrap_or o 0) (total_is j below) in
            omega (arith, low j)
        | inr above ↦
            let is : total_of totals' j ≡ total_of totals j = ap (λ o. unwrap_or o 0) (others_stay j above) in
            omega (arith, was j)
      ]
