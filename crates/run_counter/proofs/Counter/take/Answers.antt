-- The run's answer is the counter's.
use Rattle.std.proofs.Common.{length, refl}
use Rattle.run_counter.proofs.Takes.{take_counts}
use Rattle.run_counter.proofs.Counter.take.Goals as goal

pub returns : goal.returns
returns c = record {
  over = c.take.ensures.over;
  same = refl;
  answer = c.take.ensures.answer;
  taken = c.take.ensures.taken;
  counts = take_counts c.args.symbols.now c.args.plan.now (length c.args.work.now) (length c.args.row.now) c.args.self.now _ c.take.result refl c.take.ensures.serves;
}
