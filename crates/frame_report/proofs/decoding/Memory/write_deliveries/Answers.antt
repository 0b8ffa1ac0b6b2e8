-- A turn gives one delivery to the frame and writes its line.
use Rattle.frame_report.proofs.Turns.{going_more}
use Rattle.frame_report.proofs.decoding.Memory.write_deliveries.Goals as goal

pub loop-delivery-preserved : goal.loop-delivery-preserved
loop-delivery-preserved c =
    going_more _ _ (c.in-Some.delivery.plan.now, c.in-Some.delivery.symbols.now) _ _ _ _ _ _ _ _ c.give-answer.result c.in-Some.ensures.steps c.loop-delivery.invariant c.give-answer.ensures c.in_ok-write.ensures.bytes
