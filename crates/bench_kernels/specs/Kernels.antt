-- What the benchmark's functions answer and do.
--   survivors                    the algebra of survivors
--   trellis                      the survivor trellis of k7, as a rule of 64 places
--   multiplying d n k            the answer to a product of two matrices of size d in a work area of n elements, with a row of k
--   taking state ys plan n k     the answer to taking the symbols ys under a plan, with a work area of n elements and a row of k: is
--                                there a state of 64 elements, and what does a fresh run over it answer?
--   Moved                        the state did the symbols' single steps, and the last block's product stands in the work area
--   Took                         what an accepted take did, and that a refused one did nothing
use Rattle.std.specs.Prelude.{◌≡◌, ℕ, ◌<◌, List, [], ◌∷◌, length, drop, Ok, Err, Result, nat_le}
use Rattle.algebra.specs.Sums.{at}
use Rattle.algebra.specs.declared.Algebra.{Ghosts as Algebra}
use Rattle.algebra_survivor.specs.Survivors.{Path, none, path_of}
use Rattle.algebra_survivor.specs.declared.Survivor.{Survivor}
use Rattle.algebra_survivor.specs.contracts.SurvivorAlgebra.TheImpl.{ghosts as survivors_of}
use Rattle.code.specs.Codes.{k7}
use Rattle.engine.specs.Blocks.{Stands, chosen}
use Rattle.engine.specs.Matrices.{multiplies}
use Rattle.engine.specs.Plain.{takes}
use Rattle.engine.specs.Runs.{fresh}
use Rattle.plan.specs.Asks.{joins}
use Rattle.plan.specs.Plans.{after}
use Rattle.recursion.specs.Steps.{Rule, rule, steps}
use Rattle.recursion_trellis.specs.contracts.survivor.SurvivorTrellisRecursion.TheImpl.{ghosts as trellis_of}
use Rattle.refusal.specs.Questions.{asked, once}
use Rattle.refusal.specs.declared.Refusal.{Refusal}
use Rattle.refusal.specs.declared.Refusal.TheVariants.{Memory}

abbrev pub survivors : Algebra Survivor
survivors = survivors_of

abbrev pub trellis : Rule Path
trellis = rule survivors trellis_of (record { code = k7 })

abbrev pub multiplying : ℕ → ℕ → ℕ → Result Unit Refusal
multiplying d n k = asked (multiplies d n k ∷ []) (record {})

unfoldable pub taking : List Survivor → List ℕ → List ℕ → ℕ → ℕ → Result (ℕ × ℕ) Refusal
taking state ys plan n k =
    asked (once (nat_le trellis.size (length state)) Memory ∷ takes (fresh survivors trellis.size state) trellis ys plan n k) (length ys, joins plan)

pub record Moved (ys plan : List ℕ) (state state' work' : List Survivor) : Type 0 where
  pub means : (j : ℕ) → j < trellis.size → at none path_of state' j ≡ steps survivors.ops trellis.size trellis.entry ys (at none path_of state) j
  pub rest : drop trellis.size state' ≡ drop trellis.size state
  pub block : Stands survivors trellis.size (chosen trellis.entry ys) work' (after plan (length plan)).last

abbrev pub Took : List ℕ → List ℕ → List Survivor → List Survivor → List Survivor → Result (ℕ × ℕ) Refusal → List Survivor → List Survivor → List Survivor → Type 0
Took ys plan state work row (Ok x) state' work' row' = Moved ys plan state state' work'
Took ys plan state work row (Err e) state' work' row' = (state' ≡ state) × (work' ≡ work) × (row' ≡ row)
