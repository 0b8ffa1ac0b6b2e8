-- No number of a key reaches the next, so that joining their bits adds them.
use Rattle.std.proofs.Common.{◌≡◌, ◌+◌, ◌*◌, ◌%◌, ◌^◌, arith}
use lib.Bits.{bit_or}
use Rattle.std.proofs.lemmas.Nat.{or_shifted}
use Rattle.algebra_survivor.proofs.Survivor.key.Goals as goal

pub returns : goal.returns
returns c =
    let n = c.args.self.length in
    let d = c.args.self.cost in
    let w = c.args.self.word in
    let high : (n * 2 ^ 48) % 2 ^ 64 ≡ n * 2 ^ 48 = omega arith in
    let middle : (d * 2 ^ 32) % 2 ^ 64 ≡ d * 2 ^ 32 = omega arith in
    let both : bit_or (n * 2 ^ 48) (d * 2 ^ 32) ≡ n * 2 ^ 48 + d * 2 ^ 32 = or_shifted n 48 (d * 2 ^ 32) (omega arith) in
    let over : n * 2 ^ 48 + d * 2 ^ 32 ≡ (n * 2 ^ 16 + d) * 2 ^ 32 = omega arith in
    rw (high, middle, both, over, or_shifted (n * 2 ^ 16 + d) 32 w (omega arith)) (omega arith)
