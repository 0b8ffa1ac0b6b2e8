-- No more matrices ever stand than a plan has letters.
use Rattle.std.proofs.Common.{ℕ, zero, suc, ◌<◌, ◌≤◌, Bool, true, false, cond, List, length, arith}
use Rattle.plan.specs.Asks.{tally, peak, height, is, most}
use Rattle.plan.proofs.Bounds.{taken}

at_most_one : (t : Bool) → cond t 1 0 ≤ 1
at_most_one true = omega arith
at_most_one false = omega arith

tally_short : (f : ℕ → Bool) (n : ℕ) → tally f n ≤ n
unfolding tally
tally_short f zero = omega arith
tally_short f (suc n) = omega (arith, tally_short f n, at_most_one (f n))

peak_below : (f : ℕ → ℕ) (n m : ℕ) → ((p : ℕ) → p < n → f p ≤ m) → peak f n ≤ m
unfolding peak
peak_below f zero m below = omega arith
peak_below f (suc n) m below = omega (arith, peak_below f n m (λ p h. below p (omega arith)), below n (omega arith))

pub most_short : (plan : List ℕ) → most plan ≤ length plan
most_short plan = peak_below (height plan) (suc (length plan)) (length plan) (λ p h. omega (arith, (taken plan p (omega arith)).low, tally_short (is plan 115) p))
