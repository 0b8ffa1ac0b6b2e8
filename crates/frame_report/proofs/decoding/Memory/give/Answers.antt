-- The questions of the text come first, and a take answers the others.
use Rattle.std.proofs.Common.{◌≡◌, true, false, ◌&&◌, length, ⊎_elim, rules}
use Rattle.std.proofs.lemmas.Result.{err_from_is_err_and}
use Rattle.std.proofs.lemmas.Bool.{and_from, and_left, and_right, le-leb, lt-leb}
use Rattle.refusal.specs.declared.Refusal.TheVariants.{Text}
use Rattle.frame_report.specs.Fields.{field_count, short}
use Rattle.frame_report.proofs.Answers.{bad_field, good_text, long_text}
use Rattle.frame_report.proofs.Gives.{gave_refused, gave_taken}
use Rattle.frame_report.proofs.decoding.Memory.give.Goals as goal

pub returns-then-plan-gt-LINE : goal.returns-then-plan-gt-LINE
returns-then-plan-gt-LINE c =
    let plan = c.args.delivery.plan.now in
    let line = c.args.delivery.symbols.now in
    let long : short plan && short line ≡ false =
    ⊎_elim (λ h. and_left _ _ (lt-leb (length plan) 200 h)) (λ h. and_right _ _ (lt-leb (length line) 200 h.1)) c.then-plan-gt-LINE.either in
    gave_refused plan line c.args.frame.now c.args.self.now.store (Text 0) (long_text plan line long)

pub returns-in_err-count : goal.returns-in_err-count
returns-in_err-count c =
    let plan = c.args.delivery.plan.now in
    let line = c.args.delivery.symbols.now in
    let both : short plan && short line ≡ true = and_from _ _ (le-leb (length plan) 200 c.if-plan-gt-LINE.false) (le-leb (length line) 200 c.if-symbols-gt-LINE.false) in
    let p = err_from_is_err_and c.from_residual.result c.from_residual.ensures.1 in
    rw (p.1, p.2) (gave_refused plan line c.args.frame.now c.args.self.now.store _ (bad_field plan line (field_count line) _ both c.in_err-count.ensures.answer))

pub returns : goal.returns
returns c =
    let plan = c.args.delivery.plan.now in
    let line = c.args.delivery.symbols.now in
    let both : short plan && short line ≡ true = and_from _ _ (le-leb (length plan) 200 c.if-plan-gt-LINE.false) (le-leb (length line) 200 c.if-symbols-gt-LINE.false) in
    let read = c.in_ok-count.ensures in
    gave_taken plan line c.args.frame.now c.args.self.now.store _ c.args.self.now.work c.args.self.now.row _ _ _ _ _ c.if-plan-gt-LINE.false
    (good_text plan line (field_count line) _ both read.answer) read.read (search rules) (search rules) (search rules) c.take.ensures.took
