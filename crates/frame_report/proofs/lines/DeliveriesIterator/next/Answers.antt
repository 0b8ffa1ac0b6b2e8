use Rattle.std.proofs.Common.{◌<◌, length, rules, ap}
use Rattle.frame_report.proofs.FirstLines.{deliveries_more}
use Rattle.frame_report.proofs.lines.DeliveriesIterator.next.Goals as goal

pub returns-clause-steps : goal.returns-clause-steps
returns-clause-steps c =
    let some : 0 < length c.args.self.now.0.now = search rules in
    rw (c.split_line-2.ensures.line, c.split_line-2.ensures.rest, c.split_line.ensures.line, c.split_line.ensures.rest) (deliveries_more c.args.self.now.0.now some)

pub returns-clause-goes : goal.returns-clause-goes
returns-clause-goes c =
    let some : 0 < length c.args.self.now.0.now = search rules in
    let more = rw (← c.split_line.ensures.rest, ← c.split_line-2.ensures.rest) at (ap length (deliveries_more c.args.self.now.0.now some)) in
    search (rules, more)
