use Rattle.std.proofs.Common.{◌≡◌, ℕ, ◌+◌, ◌<◌, ◌≤◌, true, length, take}
use Rattle.plan.specs.Asks.{finds}
use Rattle.plan.proofs.Backwards.{Back}
use Rattle.plan.proofs.is_block.Given as goal

-- the letters before a place are left, and those after it were counted
abbrev pub invariant-loop-code : goal.invariant-loop-code
invariant-loop-code l =
    let left = l.code-iterator.iter.rest.now in
    (left ≡ take (length left) l.fn.plan) × (length left ≤ l.fn.place) × (l.found + l.wanted ≤ 33)
    × ((inside : l.fn.place ≤ length l.fn.plan) (served-all : (q : ℕ) → q < l.fn.place → finds l.fn.plan q ≡ true)
    → Back l.fn.plan l.fn.place inside served-all (length left) l.wanted l.found)
