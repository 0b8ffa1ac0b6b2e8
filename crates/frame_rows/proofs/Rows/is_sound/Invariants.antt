use Rattle.std.proofs.Common.{◌≡◌}
use Rattle.frame_rows.specs.Traces.{rows_in, sound}
use Rattle.frame_rows.proofs.Walks.{Left}
use Rattle.frame_rows.proofs.Rows.is_sound.Given as goal

-- the rows are sound where those that are left are, with the steps that are left and from this state
abbrev pub invariant-loop-row : goal.invariant-loop-row
invariant-loop-row l = record {
  code : l.state.code ≡ l.self.end.code;
  rows : Left l.self.end.code l.self.store.now l.row-iterator;
  sound : sound l.self.end.code (rows_in l.self.end.code l.self.store.now l.self.count) l.initial.left l.self.end.number
      ≡ sound l.self.end.code (rows_in l.self.end.code l.self.store.now rows.count) l.left l.state.number;
}
