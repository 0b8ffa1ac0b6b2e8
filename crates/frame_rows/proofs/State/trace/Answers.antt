-- Each turn takes one step back.
use Rattle.std.proofs.Common.{◌≡◌, ◌-◌, ◌/◌, ◌%◌, ◌^◌, length, ◌∙◌, arith}
use Rattle.code.specs.Codes.{input}
use Rattle.frame_paths.specs.Rows.{prior}
use Rattle.frame_rows.proofs.Traces.{one_back, trace_turn}
use Rattle.frame_rows.proofs.State.trace.Goals as goal

pub loop-t-preserved : goal.loop-t-preserved
loop-t-preserved c =
    let turn = trace_turn c.args.self.code (length c.args.bits.now) c.args.self.number c.args.word c.loop-t.t c.loop-t.state.number c.loop-t.bits
    (omega arith) (omega arith) c.loop-t.invariant.before c.loop-t.invariant.path in
    let number : c.before-state.result.number ≡ prior c.args.self.code c.loop-t.state.number (c.args.word / 2 ^ (c.loop-t.t - 1) % 2) =
    (rw c.loop-t.invariant.code at c.before-state.ensures.number) ∙ one_back c.args.self.code c.loop-t.state.number (c.args.word / 2 ^ (c.loop-t.t - 1)) in
    let bit : c.input.result ≡ input c.args.self.code c.loop-t.state.number = rw c.loop-t.invariant.code at c.input.ensures in
    record { code = cc; before = rw number turn.0; path = rw (number, bit) turn.1 }
