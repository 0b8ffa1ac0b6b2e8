-- Each turn makes one offer, or finds none to make.
use Rattle.std.proofs.Common.{◌<◌, length, arith}
use Rattle.std.proofs.lemmas.List.{get_or_default}
use Rattle.algebra_survivor.specs.Survivors.{none_row}
use Rattle.frame_metrics.proofs.Offers.{offered_more, offered_skip}
use Rattle.frame_metrics.proofs.offer.offer_row.Goals as goal
use Rattle.frame_metrics.proofs.offer.offer_row.Goals.{then-cell-le-LONGEST, else-cell-le-LONGEST}

pub loop-j-preserved : goal.loop-j-preserved
loop-j-preserved c =
    let j = c.loop-j.j in
    let row = c.args.row.now in
    let low : j < length row = omega arith in
    let is = get_or_default row j (record { word = 0; cost = 0; length = 0 }) none_row low in
    elim c.if-cell-le-LONGEST.branch [
      | then-cell-le-LONGEST w ↦
          rw w.best-is (offered_more row c.args.total c.args.best.now j c.loop-j.best _ is c.loop-j.invariant w.or_better.result (omega arith) w.if-cell-le-LONGEST.true (omega arith) w.or_better.ensures)
      | else-cell-le-LONGEST w ↦ rw w.best-is (offered_skip row c.args.total c.args.best.now j c.loop-j.best _ is c.loop-j.invariant w.if-cell-le-LONGEST.false)
    ]
