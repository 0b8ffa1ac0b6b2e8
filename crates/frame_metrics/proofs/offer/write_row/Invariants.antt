use Rattle.std.proofs.Common.{◌≡◌, ℕ, ◌+◌, ◌<◌, get_or, None}
use Rattle.frame_metrics.specs.Offers.{offer_word}
use Rattle.frame_metrics.proofs.offer.write_row.Given as goal

abbrev pub invariant-loop-j : goal.invariant-loop-j
invariant-loop-j l =
    (get_or l.row 0 0 ≡ l.symbols)
    × ((q : ℕ) → q < l.j → get_or l.row (1 + q) 0 ≡ offer_word (get_or l.best q None))
