-- Half the states have the input bit 0, and the others 1.
use Rattle.frame_rows.proofs.Traces.{halved, some_half}
use Rattle.frame_rows.proofs.State.input.Goals as goal

pub nonzero_div-result-2 : goal.nonzero_div-result-2
nonzero_div-result-2 c = some_half c.args.self.code _ c.states.ensures

pub returns : goal.returns
returns c = rw (halved c.args.self.code _ c.states.ensures)
