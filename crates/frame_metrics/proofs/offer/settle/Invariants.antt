use Rattle.std.proofs.Common.{◌≡◌, ℕ, ◌<◌, get_or, drop, None}
use Rattle.frame_rows.specs.Traces.{state_total}
use Rattle.frame_metrics.specs.Offers.{offer_total}
use Rattle.frame_metrics.proofs.offer.settle.Given as goal

abbrev pub invariant-loop-j : goal.invariant-loop-j
invariant-loop-j l =
    ((q : ℕ) → q < l.j → state_total l.totals q ≡ offer_total (get_or l.best q None))
    × (drop l.j l.totals ≡ drop l.j l.initial.totals)
