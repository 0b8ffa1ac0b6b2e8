-- The check is the register with each place inverted; the refusals are those of `register`.
use Rattle.std.proofs.Common.{ℕ, [], Ok, sym, ap, ◌∙◌}
use lib.Bits.{bit_xor}
use Rattle.refusal.proofs.Questions.{asked_rest}
use Rattle.run_check.specs.Check.{bit_questions, register_value, check_value}
use Rattle.run_check.proofs.Questions.{passed_bits, passed_value}
use Rattle.run_check.proofs.Weights.{check_value_is}
use Rattle.run_check.proofs.check.Goals as goal

pub returns : goal.returns
returns c =
    let bits = c.args.bits.now in
    let passed = sym c.in_ok-register.ensures in
    ap (λ (r : ℕ). Ok (bit_xor r 0xFFFFFFFF)) (passed_value bits (register_value bits) _ passed)
    ∙ ap Ok (sym (check_value_is bits (passed_bits bits _ _ passed)))
    ∙ sym (asked_rest [] (register_value bits) _ (check_value bits) (bit_questions bits) passed)
