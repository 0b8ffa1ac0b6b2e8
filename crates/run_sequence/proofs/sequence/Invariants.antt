use Rattle.std.proofs.Common.{◌≡◌, ℕ, ◌+◌, ◌<◌, ◌≤◌, length, get_or, drop}
use Rattle.algebra_scalars.specs.Bits.{number}
use Rattle.run_sequence.specs.Sequence.{bit_at, stages}
use Rattle.run_sequence.proofs.sequence.Given as goal

-- the bytes so far hold their newest bits, and the state of nine places is the one after as many steps
abbrev pub invariant-loop-bit : goal.invariant-loop-bit
invariant-loop-bit l =
    ((k : ℕ) → k < l.bit-index → get_or l.bits k 0 ≡ number (stages l.initial.state (k + 1) 8))
    × ((j : ℕ) → j < 9 → bit_at l.state j ≡ stages l.initial.state l.bit-index j)
    × (drop 9 l.state ≡ drop 9 l.initial.state)
    × (9 ≤ length l.state)
