-- What the run reads is what the counter answers.
use Rattle.std.proofs.Common.{Ok}
use Rattle.run_counter.proofs.Numbers.{counts_paths}
use Rattle.run_counter.proofs.Counter.count.Goals as goal

pub returns : goal.returns
returns c = record {
  answer = (c.in_ok-count.count.0, c.present.ensures, c.in_ok-count.ensures.answer);
  paths = counts_paths c.args.state c.args.self.now (Ok c.in_ok-count.count) _ (λ w h. (c.in_ok-count.count.0, c.present.ensures, h)) c.in_ok-count.ensures.serves;
}
