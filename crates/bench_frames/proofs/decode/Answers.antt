-- The frame that the take hands out is traced.
use Rattle.std.proofs.Common.{length}
use Rattle.bench_frames.specs.Frames.{framing}
use Rattle.bench_frames.proofs.Takes.{then_traced}
use Rattle.bench_frames.proofs.decode.Goals as goal

pub returns : goal.returns
returns c =
    let t = framing c.args.symbols.now c.args.plan.now (length c.args.work.now) (length c.args.row.now) (length c.args.store.now) in
    let h = c.in_ok-frame.ensures in
    record { begun = h.0; traced = then_traced h.0.last _ _ _ _ _ t c.in_ok-frame.frame h.1 c.decode.ensures.traced }
