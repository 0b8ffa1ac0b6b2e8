use Rattle.std.proofs.Common.{◌≡◌, not}
use Rattle.run_check.specs.Check.{weigh}
use Rattle.run_blocks.specs.Blocks.{place_of}
use Rattle.run_blocks.proofs.inverted.Given as goal

-- the value is that of the places so far
abbrev pub invariant-loop-place : goal.invariant-loop-place
invariant-loop-place l = l.value ≡ weigh l.place (λ k. not (place_of l.places k))
