use Rattle.std.proofs.Common.{take}
use Rattle.std.specs.Fmt.{HasWritten, IsPlainFormatter}
use Rattle.frame_report.specs.Columns.{characters}
use Rattle.frame_report.proofs.columns.BitsDisplay.fmt.Given as goal

-- the bits so far are written
abbrev pub invariant-loop-bit : goal.invariant-loop-bit
invariant-loop-bit g l = IsPlainFormatter l.initial.f → HasWritten g.W.Write.write_str_gives l.initial.f (characters (take l.bit-index l.bit-items)) l.f
