-- The plain frame: what a frame answers, by paths over the symbols that it was given and by the questions alone.
--   limit                       the most symbols that one frame may take
--   Plain                       what it holds: the symbols of the accepted takes, and how many letters a their plans had
--   nothing                     a fresh one
--   survivor_rule c             what the survivor trellis of the code c means
--   took c p ys plan n k s      the answer to a take of the symbols ys under a plan, with a work area of n elements, a row of k and a
--                               store of s words: how many symbols were taken and how many joins made, or the first no
--   taken c p ys plan n k s     what the plain frame holds after it
--   allowed c p j s b           the first questions of a decode to state j, with a store of s words and a bit buffer of b bytes: is there
--                               such a state; have store and bit buffer room for the rows and the bits?
--   Found c ys j bits o bits'   what a decode that passes them answers and leaves in the bit buffer: the cost of the cheapest path over ys
--                               to j, with the bits of that path; or that no path ends in j, with the buffer as it was
--   DecodesRight c p ..         what a decode answers and leaves: the first question that says no, with the buffer as it was; else Found
use Rattle.std.specs.Prelude.{◌≡◌, ℕ, ◌+◌, ◌*◌, ◌&&◌, List, [], ◌∷◌, ◌++◌, length, drop, Ok, Err, Result, nat_le, nat_lt}
use Rattle.refusal.specs.declared.Refusal.{Refusal}
use Rattle.refusal.specs.declared.Refusal.TheVariants.{Memory, NoPath, Place}
use Rattle.refusal.specs.Questions.{once, asked}
use Rattle.algebra_survivor.specs.Survivors.{Path}
use Rattle.algebra_survivor.specs.contracts.SurvivorAlgebra.TheImpl.{ghosts as survivors}
use Rattle.code.specs.declared.description.Code.{Code}
use Rattle.code.specs.Codes.{states}
use Rattle.recursion.specs.Steps.{Rule, rule}
use Rattle.recursion_trellis.specs.contracts.survivor.SurvivorTrellisRecursion.TheImpl.{ghosts as trellises}
use Rattle.plan.specs.Asks.{blocks, joins}
use Rattle.engine.specs.Deliveries.{delivery}
use Rattle.frame_paths.specs.Paths.{costs, Reaches, Cheapest}
use Rattle.frame_rows.specs.Traces.{row_words}

abbrev pub limit : ℕ
limit = 4096

pub record Plain : Type 0 where
  pub symbols : List ℕ
  pub rows : ℕ

abbrev pub nothing : Plain
nothing = record { symbols = []; rows = 0 }

abbrev pub survivor_rule : Code → Rule Path
survivor_rule c = rule survivors trellises (record { code = c })

abbrev pub took : Code → Plain → List ℕ → List ℕ → ℕ → ℕ → ℕ → Result (ℕ × ℕ) Refusal
took c p ys plan n k s =
    asked (delivery (survivor_rule c) ys plan limit (length p.symbols) (nat_le ((p.rows + blocks plan) * row_words c) s) n k) (length ys, joins plan)

abbrev pub settled : Result (ℕ × ℕ) Refusal → Plain → Plain → Plain
settled (Ok x) p q = p
settled (Err e) p q = q

abbrev pub taken : Code → Plain → List ℕ → List ℕ → ℕ → ℕ → ℕ → Plain
taken c p ys plan n k s = settled (took c p ys plan n k s) (record { symbols = p.symbols ++ ys; rows = p.rows + blocks plan }) p

abbrev pub allowed : Code → Plain → ℕ → ℕ → ℕ → Result Unit Refusal
allowed c p j s b = asked (once (nat_lt j (states c)) Place ∷ (once (nat_le (p.rows * row_words c) s && nat_le (length p.symbols) b) Memory ∷ [])) tt

abbrev pub Found : Code → List ℕ → ℕ → List ℕ → Result ℕ Refusal → List ℕ → Type 0
Found c ys j bits (Ok cost) bits' = (us : List ℕ) × Cheapest c ys j us × (costs c 0 ys us ≡ cost) × (bits' ≡ us ++ drop (length ys) bits)
Found c ys j bits (Err e) bits' = (e ≡ NoPath) × ((us : List ℕ) → Reaches c ys j us → ⊥) × (bits' ≡ bits)

abbrev pub DecodesRight : Code → Plain → ℕ → ℕ → List ℕ → Result ℕ Refusal → List ℕ → Type 0
DecodesRight c p j s bits o bits' =
    (allowed c p j s (length bits) ≡ Ok tt → Found c p.symbols j bits o bits')
    × ((e : Refusal) → allowed c p j s (length bits) ≡ Err e → (o ≡ Err e) × (bits' ≡ bits))
