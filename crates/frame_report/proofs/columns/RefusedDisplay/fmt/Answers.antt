use Rattle.frame_report.proofs.Widths.{number_right, zero_right}
use Rattle.frame_report.proofs.columns.RefusedDisplay.fmt.Goals as goal

pub returns-clause-writes : goal.returns-clause-writes
returns-clause-writes g c =
    rw (zero_right 6 c.laid_out.ensures, number_right 4 _ c.laid_out-2.ensures, c.number-number.ensures) at c.writeln.ensures.writes
