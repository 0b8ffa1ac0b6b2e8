-- Bits that pass are shifted; the refusals are those of `ask`.
use Rattle.std.proofs.Common.{[], Ok, sym, ap, ◌∙◌}
use Rattle.refusal.proofs.Questions.{asked_rest}
use Rattle.run_check.specs.Check.{bit_questions, register_value}
use Rattle.run_check.proofs.Questions.{passed_bits}
use Rattle.run_check.proofs.Weights.{register_value_is}
use Rattle.run_check.proofs.register.Goals as goal

pub returns : goal.returns
returns c =
    let bits = c.args.bits.now in
    let passed = sym c.in_ok-ask.ensures in
    ap Ok (c.shift_all.ensures ∙ sym (register_value_is bits (passed_bits bits tt _ passed)))
    ∙ sym (asked_rest [] tt _ (register_value bits) (bit_questions bits) passed)
