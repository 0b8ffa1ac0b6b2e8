use Rattle.std.proofs.Common.{◌≡◌, ◌≤◌, true, ◌++◌, length, drop}
use Rattle.frame_paths.specs.Rows.{all_steps, decoded, rows_in_range}
use Rattle.frame_rows.specs.Traces.{rows_in}
use Rattle.frame_rows.proofs.Walks.{Left}
use Rattle.frame_rows.proofs.Rows.write_bits.Given as goal

-- the rows that are left give the bits before those that are written
abbrev pub invariant-loop-row : goal.invariant-loop-row
invariant-loop-row l = record {
  code : l.state.code ≡ l.self.end.code;
  rows : Left l.self.end.code l.self.store.now l.row-iterator;
  range : rows_in_range (rows_in l.self.end.code l.self.store.now rows.count) ≡ true;
  steps : all_steps (rows_in l.self.end.code l.self.store.now rows.count) ≡ l.end;
  inside : l.end ≤ length l.initial.bits;
  bits : decoded l.self.end.code (rows_in l.self.end.code l.self.store.now l.self.count) l.self.end.number
      ≡ decoded l.self.end.code (rows_in l.self.end.code l.self.store.now rows.count) l.state.number ++ drop l.end l.bits;
}
