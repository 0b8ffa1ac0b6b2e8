use Rattle.std.proofs.Common.{string_bytes}
use Rattle.frame_report.specs.Lines.{deliveries, lines}
use Rattle.frame_report.proofs.Turns.{Going}
use Rattle.frame_report.proofs.decoding.Memory.write_deliveries.Given as goal

abbrev pub invariant-loop-delivery : goal.invariant-loop-delivery
invariant-loop-delivery l = Going (deliveries (lines l.fn.text)) (string_bytes l.initial.out) (deliveries (lines l.delivery-iterator.0.now)) (string_bytes l.out) l.frame l.self.store
