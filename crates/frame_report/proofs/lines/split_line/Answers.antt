use Rattle.std.proofs.Common.{◌≡◌, eqb, length, sym, ◌∙◌, rules, arith}
use borrow.Author.Tests.{tests}
use Rattle.std.specs.List.{position}
use Rattle.std.proofs.lemmas.Iterator.{YieldsList-from_slice}
use Rattle.std.proofs.lemmas.Iterator.Search.{position_from_yields_List}
use Rattle.std.proofs.lemmas.List.{take_rest, drop_all}
use Rattle.frame_report.proofs.FirstLines.{ends_at, ends_nowhere}
use Rattle.frame_report.proofs.lines.split_line.Goals as goal

pub returns-in-Some : goal.returns-in-Some
returns-in-Some c =
    let text = c.args.text.now in
    let found : c.position.result ≡ position (λ b. eqb b 10) text =
    position_from_yields_List (λ b. eqb b 10) _ _ c.position.result c.position.ensures.ran (YieldsList-from_slice text cc) (λ x b q k. search (rules, tests)) in
    let at = ends_at text c.in-Some.end (sym found ∙ c.in-Some.is) in
    record { line = at.0; rest = take_rest text _ ∙ at.1 }

pub returns-in-None : goal.returns-in-None
returns-in-None c =
    let text = c.args.text.now in
    let found : c.position.result ≡ position (λ b. eqb b 10) text =
    position_from_yields_List (λ b. eqb b 10) _ _ c.position.result c.position.ensures.ran (YieldsList-from_slice text cc) (λ x b q k. search (rules, tests)) in
    let at = ends_nowhere text (sym found ∙ c.in-None.is) in
    record { line = at.0; rest = take_rest text _ ∙ drop_all (length text) text (omega arith) ∙ at.1 }
