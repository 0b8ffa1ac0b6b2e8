use Rattle.frame_metrics.proofs.Offers.{Offered}
use Rattle.frame_metrics.proofs.offer.offer_row.Given as goal

abbrev pub invariant-loop-j : goal.invariant-loop-j
invariant-loop-j l = Offered l.row l.total l.initial.best l.j l.best
