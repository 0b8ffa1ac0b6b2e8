use Rattle.frame_report.proofs.Widths.{number_right, zero_right}
use Rattle.frame_report.proofs.columns.DecodedDisplay.fmt.Goals as goal

pub returns-clause-writes : goal.returns-clause-writes
returns-clause-writes g c = rw (number_right 6 _ c.laid_out.ensures, zero_right 4 c.laid_out-2.ensures) at c.writeln.ensures.writes
