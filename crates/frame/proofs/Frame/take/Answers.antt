-- An accepted take stays within the limit, so the count of symbols fits.
use Rattle.std.proofs.Common.{sym, rules}
use Rattle.engine.proofs.Answered.{passed_limit}
use Rattle.frame.specs.Plain.{limit, survivor_rule}
use Rattle.frame.proofs.Frame.take.Goals as goal

pub overflow_add-self : goal.overflow_add-self
overflow_add-self c =
    let low = passed_limit (survivor_rule c.args.self.now.code) c.args.symbols.now c.args.plan.now limit c.args.self.now.steps _ _ _ _ (sym c.in_ok-answer.ensures.answer) in
    search rules
