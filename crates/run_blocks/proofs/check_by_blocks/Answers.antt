-- The answer is that of a fresh run from 33 ones, and the state that it leaves gives the check.
use Rattle.std.proofs.Common.{[], length, ◌∙◌, rules}
use Rattle.run_blocks.proofs.Takes.{accepted, check_is}
use Rattle.run_blocks.proofs.check_by_blocks.Goals as goal

pub returns : goal.returns
returns c =
    let ys = c.args.symbols.now in
    let plan = c.args.plan.now in
    let made = c.in_ok-make.ensures.made in
    let took = c.in_ok-joins.ensures in
    let value = check_is ys plan c.make.new.self c.take.new.self _ _ c.inverted.result made.2.sized (made.1 ∙ c.over-run.ensures.state) (search rules) took.taken c.inverted.ensures in
    record {
      answer = accepted ys plan (length c.args.work.now) (length c.args.row.now) _ _ (took.serves _ [] made.2).0 value;
      kept = tt;
    }
