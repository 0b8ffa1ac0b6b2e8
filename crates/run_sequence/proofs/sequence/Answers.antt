-- Each turn is one single step, after which the newest bit is written.
use Rattle.std.proofs.Common.{◌≡◌, ◌+◌, ◌<◌, ◌≢◌, length, sym, refl, ap, ◌∙◌, arith, get_or-set_other, get_or-set_same, below_more}
use mir.Val.{bool_byte}
use Rattle.algebra_scalars.specs.Bits.{number}
use Rattle.run_sequence.specs.Sequence.{stages}
use Rattle.run_sequence.proofs.Places.{read_place, byte_number}
use Rattle.run_sequence.proofs.Questions.{passed_nine}
use Rattle.run_sequence.proofs.Stages.{stages_none, stages_more}
use Rattle.run_sequence.proofs.sequence.Goals as goal

pub loop-bit-init : goal.loop-bit-init
loop-bit-init c = (
  λ k h. absurd (omega arith),
  λ j h. stages_none c.args.state.now j,
  refl,
  passed_nine (length c.args.bits.now) (length c.args.state.now) tt _ (sym c.in_ok-ask.ensures),
)

pub loop-bit-preserved : goal.loop-bit-preserved
loop-bit-preserved c =
    let start = c.args.state.now in
    let i = c.loop-bit.bit-index in
    let more = stages_more start c.loop-bit.state c.shift.new.state i c.loop-bit.invariant.1 c.shift.ensures.after in
    let newest : c.from.result ≡ number (stages start (i + 1) 8) =
    c.from.ensures ∙ ap bool_byte (read_place c.shift.new.state 8) ∙ byte_number _ ∙ ap number (more 8 (omega arith)) in (
      below_more _ _
          (λ k h. let ne : k ≢ i = omega arith in rw get_or-set_other (c.loop-bit.invariant.0 k h))
          (let low : i < length c.loop-bit.bits = omega arith in rw get_or-set_same newest),
      more,
      c.shift.ensures.rest ∙ c.loop-bit.invariant.2,
      omega arith,
    )
