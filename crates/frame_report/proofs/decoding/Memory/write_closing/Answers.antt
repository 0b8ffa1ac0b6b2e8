-- The decode answers the cheapest path to state 0, and is never refused.
use Rattle.std.proofs.Common.{refl, ◌∙◌, rules}
use Rattle.std.proofs.lemmas.Result.{IfOk-weaker}
use Rattle.frame_report.proofs.Closings.{closes, never_refused}
use Rattle.frame_report.proofs.Turns.{steps_are}
use Rattle.frame_report.proofs.decoding.Memory.write_closing.Goals as goal

pub returns-in-Ok : goal.returns-in-Ok
returns-in-Ok c =
    let frame = c.args.frame.now in
    let store = c.args.self.now.store in
    IfOk-weaker c.write.result _ _
    (λ x written p follows bounded. closes frame store _ _ (search rules) refl p follows bounded
    c.in-Ok.cost c.steps-steps.result _ _ c.in-Ok.ensures.traced (c.steps-steps.ensures ∙ steps_are p frame store follows) written)
    c.write.ensures.bytes

pub returns-in-Err : goal.returns-in-Err
returns-in-Err c =
    IfOk-weaker c.write-in-Err.result _ _
    (λ x written p follows bounded. absurd (never_refused c.args.frame.now c.args.self.now.store _ _ (search rules) refl p follows bounded
    c.in-Err.refusal c.in-Err.ensures.traced))
    c.write-in-Err.ensures.bytes
