-- The copy moves the bits down, and the write of the newest ends the step.
use Rattle.std.proofs.Common.{◌∙◌, ap₂, arith}
use Rattle.algebra_scalars.specs.Bits.{xor}
use Rattle.run_sequence.proofs.Places.{read_place}
use Rattle.run_sequence.proofs.Shifts.{rest_kept, step_made}
use Rattle.run_sequence.proofs.shift.Goals as goal

pub returns : goal.returns
returns c =
    let start = c.args.state.now in
    let state = c.copy_within.new.self in
    let newest = c.sum-newest.result in
    record {
      after = step_made start state c.requires c.copy_within.ensures.after newest (omega arith) (c.sum-newest.ensures ∙ ap₂ xor (read_place start 0) (read_place start 4));
      rest = rest_kept start state c.requires c.copy_within.ensures.after newest;
    }
