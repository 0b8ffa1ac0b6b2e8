use Rattle.std.proofs.Common.{◌≡◌, ◌++◌, length, drop}
use Rattle.frame_paths.specs.Rows.{origin, traced}
use Rattle.frame_rows.proofs.State.trace.Given as goal

-- what is left of the trace goes from the state on, and gives the bits before those that are written
abbrev pub invariant-loop-t : goal.invariant-loop-t
invariant-loop-t l = record {
  code : l.state.code ≡ l.initial.state.code;
  before : origin l.initial.state.code (length l.initial.bits) l.initial.state.number l.word ≡ origin l.initial.state.code l.t l.state.number l.word;
  path : traced l.initial.state.code (length l.initial.bits) l.initial.state.number l.word ≡ traced l.initial.state.code l.t l.state.number l.word ++ drop l.t l.bits;
}
