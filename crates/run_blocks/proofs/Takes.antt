-- A fresh run from 33 ones answers the questions of the check by blocks, and its places after a take give the check.
use Rattle.std.proofs.Common.{◌≡◌, ℕ, ◌<◌, true, false, not, List, [], length, take, replicate, Ok, Result, sym, refl, ap, ◌∙◌, ap₂, arith}
use lib.ListN.{length-replicate}
use Rattle.std.proofs.lemmas.List.{length-take-le, get_or-replicate}
use Rattle.algebra.proofs.Places.{at_get, at_take}
use Rattle.algebra_scalars.specs.Bits.{bit_ops}
use Rattle.algebra_scalars.specs.declared.bit.Bit.{Bit}
use Rattle.algebra_scalars.specs.contracts.bit.BitAlgebra.TheImpl.{ghosts as bits}
use Rattle.engine.specs.Plain.{took}
use Rattle.engine.specs.Runs.{Stepped}
use Rattle.engine.specs.declared.run.Run.{Run}
use Rattle.plan.specs.Asks.{joins}
use Rattle.recursion.proofs.Steps.{steps_cong}
use Rattle.recursion_bits.specs.Register.{register_entry}
use Rattle.refusal.specs.Questions.{asked}
use Rattle.refusal.proofs.Questions.{asked_rest}
use Rattle.refusal.specs.declared.Refusal.{Refusal}
use Rattle.run_check.specs.Check.{run, weigh, check_value}
use Rattle.run_blocks.specs.Blocks.{place_of, register, ones, block_questions, checked}
use Rattle.run_check.proofs.Weights.{weigh_cong}

-- what the run's state starts from
abbrev pub ones_list : List Bit
ones_list = replicate 33 (record { 0 = true })

module _ (ys plan : List ℕ) (n k : ℕ) where
  same_pair : (x y : ℕ × ℕ) → ◌≡◌ {A = Result (ℕ × ℕ) Refusal} (Ok x) (Ok y) → x.1 ≡ y.1
  same_pair x y e = let p : x ≡ y = cc in ap (λ (z : ℕ × ℕ). z.1) p

  -- a take that is accepted passes them all, and its joins are the plan's
  pub accepted : (x : ℕ × ℕ) (v : ℕ) → Ok x ≡ took ones register ys plan n k → v ≡ check_value ys
      → Ok (record { value = v; joins = x.1 }) ≡ asked (block_questions ys plan n k) (checked ys plan)
  accepted x v answer value =
      let all = asked_rest [] (length ys, joins plan) x (length ys, joins plan) (block_questions ys plan n k) (sym answer) in
      let same = same_pair x (length ys, joins plan) (answer ∙ all) in
      ap₂ (λ (a b : ℕ). Ok (record { value = a; joins = b })) value same
      ∙ sym (asked_rest [] (length ys, joins plan) x (checked ys plan) (block_questions ys plan n k) (sym answer))

ones_at : (n j : ℕ) → j < n → place_of (replicate n (record { 0 = true })) j ≡ true
ones_at n j h = sym (at_get false (λ (b : Bit). b.0) (replicate n (record { 0 = true })) j (record { 0 = false }) refl) ∙ ap (λ (b : Bit). b.0) (get_or-replicate n j _ _ h)

-- each place after the single steps is that of the check's run
place_is : (ys plan : List ℕ) (was is : Run Bit) (work' : List Bit) → was.size ≡ 33 → was.state.now ≡ ones_list → Stepped bits register ys plan was is work'
    → (k : ℕ) → k < 33 → place_of is.state.now k ≡ run ys k
unfolding run
place_is ys plan was is work' sized begins s k h =
    let m = s.means k (omega (arith, sized)) in
    let e = rw (sized, begins) at m in
    e ∙ steps_cong bit_ops 33 register_entry ys (place_of ones_list) (λ j. true) (ones_at 33) k h

-- the first 32 places after the single steps from 33 ones, inverted and weighed, are the check
pub check_is : (ys plan : List ℕ) (was is : Run Bit) (state' work' : List Bit) (v : ℕ)
    → was.size ≡ 33 → was.state.now ≡ ones_list → state' ≡ is.state.now
    → Stepped bits register ys plan was is work'
    → v ≡ weigh (length (take 32 state')) (λ k. not (place_of (take 32 state') k)) → v ≡ check_value ys
unfolding check_value
check_is ys plan was is state' work' v sized begins ends s weighed =
    let long : length state' ≡ 33 = ap length ends ∙ s.long ∙ ap length begins ∙ length-replicate {A = Bit} 33 (record { 0 = true }) in
    let front : length (take 32 state') ≡ 32 = length-take-le 32 state' (omega arith) in
    weighed
    ∙ ap (λ (m : ℕ). weigh m (λ k. not (place_of (take 32 state') k))) front
    ∙ weigh_cong 32 _ _ (λ k h. ap not (at_take false (λ (b : Bit). b.0) 32 state' k h ∙ ap (λ (xs : List Bit). place_of xs k) ends ∙ place_is ys plan was is work' sized begins s k (omega arith)))
