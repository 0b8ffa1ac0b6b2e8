-- Blanks are passed, and digits counted in.
use Rattle.std.proofs.Common.{◌≡◌, eqb, not, sym, ap, ◌∙◌, rules}
use borrow.Author.Tests.{tests}
use Rattle.std.specs.List.{position}
use Rattle.std.proofs.lemmas.Iterator.{YieldsList-from_slice}
use Rattle.std.proofs.lemmas.Iterator.Search.{position_from_yields_List}
use Rattle.std.proofs.lemmas.List.{take_rest}
use Rattle.frame_report.specs.Fields.{digits_on}
use Rattle.frame_report.proofs.Digits.{blanks_alone, blanks_until}
use Rattle.frame_report.proofs.fields.field_number.Goals as goal

pub returns-in_err-start : goal.returns-in_err-start
returns-in_err-start c =
    let field = c.args.field.now in
    let found : c.position.result ≡ position (λ b. not (eqb b 32)) field =
    position_from_yields_List (λ b. not (eqb b 32)) _ _ c.position.result c.position.ensures.ran (YieldsList-from_slice field cc) (λ x b q k. search (rules, tests)) in
    c.from_residual.ensures ∙ sym (blanks_alone field c.if-field-ne-FIELD.false (sym found ∙ c.in_err-start.was))

pub loop-byte-init : goal.loop-byte-init
loop-byte-init c =
    let field = c.args.field.now in
    let found : c.position.result ≡ position (λ b. not (eqb b 32)) field =
    position_from_yields_List (λ b. not (eqb b 32)) _ _ c.position.result c.position.ensures.ran (YieldsList-from_slice field cc) (λ x b q k. search (rules, tests)) in
    (search rules, ap (digits_on 0) (take_rest field _) ∙ sym (blanks_until field c.if-field-ne-FIELD.false _ (sym found ∙ c.in_ok-start.was)))
