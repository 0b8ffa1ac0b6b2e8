-- Four columns, of an answer or of a refusal.
use Rattle.frame_report.proofs.Widths.{number_right}
use Rattle.frame_report.proofs.columns.DeliveredDisplay.fmt.Goals as goal
use Rattle.frame_report.proofs.columns.DeliveredDisplay.fmt.Goals.{in-Ok, in-Err}

pub returns-clause-writes : goal.returns-clause-writes
returns-clause-writes g c =
    let wrote = rw (number_right 6 _ c.laid_out.ensures, number_right 6 _ c.laid_out-2.ensures, number_right 4 _ c.laid_out-3.ensures, number_right 6 _ c.laid_out-4.ensures) at c.writeln.ensures.writes in
    elim c.match-self.branch [
      | in-Ok w ↦ rw w.in-Ok.is (rw w.symbols-is at wrote)
      | in-Err w ↦ rw w.in-Err.is (rw (w.symbols-is, w.number.ensures, w.place.ensures) at wrote)
    ]
