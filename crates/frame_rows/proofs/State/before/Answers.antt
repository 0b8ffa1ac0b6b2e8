-- The dropped bits come back in below, and the input bits go.
use Rattle.std.proofs.Common.{◌≡◌, ℕ, ◌%◌, ◌^◌, ◌*◌, ◌≤◌, sym, arith, pow_mono}
use Rattle.frame_rows.proofs.Traces.{origin_is}
use Rattle.frame_rows.proofs.State.before.Goals as goal

weight_is : (n : ℕ) → n ≤ 32 → (1 * 2 ^ n) % 18446744073709551616 ≡ 2 ^ n
weight_is n h = let low : 2 ^ n ≤ 2 ^ 32 = pow_mono {i = n} {j = 32} h in omega arith

pub returns-clause-number : goal.returns-clause-number
returns-clause-number c =
    let self = c.args.self in
    rw (weight_is c.args.steps c.requires, c.states.ensures) (sym (origin_is self.code c.args.steps self.number c.args.word self.below))
