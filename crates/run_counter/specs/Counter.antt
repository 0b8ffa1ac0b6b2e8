-- Counters: runs over the count trellis of a code, from 1 at state 0 and 0 at the others.
--   trellis_rule c         what the count trellis of the code c means
--   start_of s             the count of state s before any symbol
--   counting c ys          what the plain run over the count trellis of c holds after the symbols ys, from that start
--   Counts c ys k          the counter k is of the code c and has taken the symbols ys, in however many accepted takes
--   Laid c buffer k        the counter k of the code c was laid over a buffer that held this before
--   made k                 whether a counter was made: 4 where its run has no state yet
--   MadeRoom k o           a counter that was just laid is made exactly where there was an element for each state, and one that
--                          counts is made
--   with_taken o ys zs     the symbols ys, and zs after them where the answer o accepts
--   TakeCounts             whatever symbols a counter has taken, its answer to one take more is the plain run's, and if it accepts it
--                          has taken those symbols too
--   present n              n, absent where it is 0
--   Shows o w              the answer o is what was read as w: its number modulo 4,294,967,296, absent where that is 0
--   path_count c ys s      the number of admitted paths over ys to state s, modulo 4,294,967,296 and absent where that is 0; 9 for a
--                          state that c does not have
--   CountsPaths s k o      whatever symbols a counter has taken, it answers the number of admitted paths over them
use Rattle.std.specs.Prelude.{◌≡◌, ℕ, ◌%◌, ◌<◌, ◌≤◌, cond, ◌&&◌, List, [], ◌∷◌, ◌++◌, length, drop, Some, None, Ok, Err, Option, Result, ◌==◌, nat_le, nat_lt}
use Rattle.refusal.specs.declared.Refusal.{Refusal}
use Rattle.refusal.specs.declared.Refusal.TheVariants.{Memory, Place}
use Rattle.refusal.specs.Questions.{once, asked}
use Rattle.algebra_scalars.specs.Counts.{Residue, residue_of, count_ops, modulus}
use Rattle.algebra_scalars.specs.declared.count.Count.{Count}
use Rattle.algebra_scalars.specs.contracts.count.CountAlgebra.TheImpl.{ghosts as counts}
use Rattle.code.specs.declared.description.Code.{Code}
use Rattle.code.specs.Codes.{states}
use Rattle.recursion.specs.Steps.{Rule, rule, steps}
use Rattle.recursion_trellis.specs.contracts.count.CountTrellisRecursion.TheImpl.{ghosts as trellises}
use Rattle.paths.specs.Paths.{paths_to}
use Rattle.engine.specs.Plain.{Plain, took}
use Rattle.engine.specs.Runs.{Holds}
use Rattle.run_counter.specs.declared.Counter.{Counter}

abbrev pub trellis_rule : Code → Rule Residue
trellis_rule c = rule counts trellises (record { code = c })

abbrev pub start_of : ℕ → Residue
start_of s = cond (s == 0) (residue_of 1) (residue_of 0)

abbrev pub counting : Code → List ℕ → Plain Residue
counting c ys = record { size = states c; count = length ys; state = steps count_ops (states c) (trellis_rule c).entry ys start_of }

pub record Counts (c : Code) (ys : List ℕ) (k : Counter) : Type 0 where
  pub of : k.trellis.code ≡ c
  pub holds : Holds counts (counting c ys) k.run

-- it begins to count, or there are too few elements, nothing was written and the run was not made; past the states nothing has changed
pub record Laid (c : Code) (buffer : List Count) (k : Counter) : Type 0 where
  pub of : k.trellis.code ≡ c
  pub begins : states c ≤ length buffer → Counts c [] k
  pub short : length buffer < states c → (k.run.size ≡ 0) × (k.run.taken ≡ 0) × (k.run.state.now ≡ buffer)
  pub rest : drop (states c) k.run.state.now ≡ drop (states c) buffer

abbrev pub made : Counter → Result Unit Refusal
made k = asked (once (nat_lt 0 k.run.size && nat_lt 0 (length k.run.state.now)) Memory ∷ []) tt

pub record MadeRoom (k : Counter) (o : Result Unit Refusal) : Type 0 where
  pub laid : (c : Code) (buffer : List Count) → Laid c buffer k → o ≡ asked (once (nat_le (states c) (length buffer)) Memory ∷ []) tt
  pub counts : (c : Code) (ys : List ℕ) → Counts c ys k → o ≡ Ok tt

abbrev pub with_taken : Result (ℕ × ℕ) Refusal → List ℕ → List ℕ → List ℕ
with_taken (Ok x) ys zs = ys ++ zs
with_taken (Err e) ys zs = ys

abbrev pub TakeCounts : List ℕ → List ℕ → ℕ → ℕ → Counter → Result (ℕ × ℕ) Refusal → Counter → Type 0
TakeCounts zs plan n m was o is =
    (c : Code) (ys : List ℕ) → Counts c ys was → (o ≡ took (counting c ys) (trellis_rule c) zs plan n m) × Counts c (with_taken o ys zs) is

abbrev pub present : ℕ → Option ℕ
present n = cond (n == 0) None (Some n)

abbrev pub Shows : Result (Option ℕ) Refusal → Result Residue Refusal → Type 0
Shows (Ok x) w = (n : ℕ) × (x ≡ present (n % modulus)) × (w ≡ Ok (residue_of n))
Shows (Err e) w = w ≡ Err e

abbrev pub path_count : Code → List ℕ → ℕ → Result (Option ℕ) Refusal
path_count c ys s = asked (once (nat_lt s (states c)) Place ∷ []) (present (length (paths_to c ys s) % modulus))

abbrev pub CountsPaths : ℕ → Counter → Result (Option ℕ) Refusal → Type 0
CountsPaths s k o = (c : Code) (ys : List ℕ) → Counts c ys k → o ≡ path_count c ys s
