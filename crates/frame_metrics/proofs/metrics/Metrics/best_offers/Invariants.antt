use Rattle.std.proofs.Common.{◌≡◌, ℕ, ◌+◌, ◌*◌, ◌<◌, ◌≤◌, None, length, get_or}
use Rattle.frame_metrics.specs.Offers.{best_offer, offer_high}
use Rattle.frame_metrics.specs.Totals.{most_cost}
use Rattle.frame_metrics.proofs.Walks.{Left}
use Rattle.frame_metrics.proofs.metrics.Metrics.best_offers.Given as goal

abbrev pub invariant-loop-total : goal.invariant-loop-total
invariant-loop-total l = record {
  long : length l.best ≡ 64;
  left : Left l.self.totals l.matrix l.d l.total-iterator;
  best : (j : ℕ) → j < l.d → get_or l.best j None ≡ best_offer l.self.totals l.matrix l.d j left.place;
  low : (j : ℕ) → offer_high (get_or l.best j None) ≤ most_cost * l.self.rows + most_cost;
}
