-- The first line decides what is printed.
use Rattle.std.proofs.Common.{◌≡◌, true, leb, length, sym, ap, ◌∙◌}
use Rattle.std.proofs.lemmas.Bool.{le-leb}
use Rattle.frame_report.specs.Lines.{line_of}
use Rattle.frame_report.specs.Report.{coded}
use Rattle.frame_report.proofs.Readings.{coded_ok, coded_err, read_decoded, read_unnamed}
use Rattle.frame_report.proofs.report.Goals as goal
use Rattle.frame_report.proofs.report.Goals.{in-Ok+in_ok-write_frame-in-Ok, in-Err+in_ok-write-in-Err}

pub returns : goal.returns
returns c =
    let input = c.args.input.now in
    let short : leb (length input) 1000000 ≡ true = le-leb (length input) 1000000 c.if-input-gt-BYTES.false in
    let line = c.split_line.ensures.line in
    let fresh = c.new-out.ensures.bytes in
    rw short (elim c.match-code_named.branch [
      | in-Ok+in_ok-write_frame-in-Ok w ↦
          let named = coded_ok (line_of input) w.in-Ok.code (sym w.in-Ok.is ∙ c.code_named.ensures ∙ ap coded line) in
          rw w.out-is (read_decoded input _ _ _ named.0 c.split_line.ensures.rest fresh w.in_ok-write_frame-in-Ok.ensures)
      | in-Err+in_ok-write-in-Err w ↦
          let named = coded_err (line_of input) w.in-Err.refusal (sym w.in-Err.is ∙ c.code_named.ensures ∙ ap coded line) in
          rw w.out-is (read_unnamed input _ _ w.in-Err.refusal named.0 named.1 fresh w.in_ok-write-in-Err.ensures.bytes)
    ])
