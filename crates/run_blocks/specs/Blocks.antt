-- The check by blocks.
--   place_of bits k                whether the element at place k is 1
--   register                       the check register as a rule of 33 places
--   ones                           the plain run that has just begun, from 33 ones
--   block_questions ys plan n k    what is asked: a take of the symbols ys by that run, with a work area of n elements and a row of k
--   checked ys plan                the check of ys, which no plan changes, and the plan's joins
--   Kept                           a refusal leaves the work area and the row as found
use Rattle.std.specs.Prelude.{◌≡◌, ℕ, Bool, true, false, List, Ok, Err, Result}
use Rattle.algebra.specs.Sums.{at}
use Rattle.algebra_scalars.specs.declared.bit.Bit.{Bit}
use Rattle.engine.specs.Plain.{Plain, takes}
use Rattle.plan.specs.Asks.{joins}
use Rattle.recursion.specs.Steps.{Rule}
use Rattle.recursion_bits.specs.Register.{register_accepts, register_entry}
use Rattle.refusal.specs.Questions.{Question}
use Rattle.refusal.specs.declared.Refusal.{Refusal}
use Rattle.run_check.specs.Check.{check_value}
use Rattle.run_blocks.specs.declared.Checked.{Checked}

abbrev pub place_of : List Bit → ℕ → Bool
place_of bits k = at false (λ (b : Bit). b.0) bits k

abbrev pub register : Rule Bool
register = record { size = 33; accepts = register_accepts; entry = register_entry }

abbrev pub ones : Plain Bool
ones = record { size = 33; count = 0; state = λ k. true }

abbrev pub block_questions : List ℕ → List ℕ → ℕ → ℕ → List Question
block_questions ys plan n k = takes ones register ys plan n k

abbrev pub checked : List ℕ → List ℕ → Checked
checked ys plan = record { value = check_value ys; joins = joins plan }

abbrev pub Kept : Result Checked Refusal → List Bit → List Bit → List Bit → List Bit → Type 0
Kept (Ok x) work row work' row' = Unit {0}
Kept (Err e) work row work' row' = (work' ≡ work) × (row' ≡ row)
