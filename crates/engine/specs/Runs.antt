-- Runs beside the plain run.
--   Holds a p run            a run holds what the plain run p holds
--   Follows a p cs run       a run is where the calls cs lead from p
--   asking, looked           the questions of a take and the answer of a read, put to a run itself
--   Taken                    what an accepted take did, and that a refused one did nothing
--   TakeServes, ReadServes   whatever calls led to a run, its answer to one call more is the plain run's, and so is what it holds then
--   Event, History           calls on a run with their answers, each by its own contract; what the run held after each
--   Whole a p run            from this run on, all answers and all that it holds are the plain run's, over every history
--   Made                     what making a run did
use Rattle.std.specs.Prelude.{◌≡◌, ℕ, ◌+◌, ◌*◌, ◌<◌, ◌≤◌, ◌&&◌, List, [], ◌∷◌, ◌++◌, length, drop, Ok, Err, Result, ◌==◌, nat_le, nat_lt}
use Rattle.algebra.specs.Sums.{at}
use Rattle.algebra.specs.declared.Algebra.{Ghosts as Algebra}
use Rattle.plan.specs.Asks.{asks, joins, most}
use Rattle.plan.specs.Plans.{after as letters_after}
use Rattle.recursion.specs.Steps.{Rule, steps}
use Rattle.refusal.specs.declared.Refusal.{Refusal}
use Rattle.refusal.specs.declared.Refusal.TheVariants.{Memory, Place}
use Rattle.refusal.specs.Questions.{Question, once, asked}
use Rattle.engine.specs.Blocks.{Stands, chosen}
use Rattle.engine.specs.Plain.{Plain, Call, accepted, within, took, found, next, after}
use Rattle.engine.specs.Plain.{Take, Read}
use Rattle.engine.specs.declared.run.Run.{Run}

pub record Holds {E : Type 0} (a : Algebra E) (p : Plain a.Value) (run : Run E) : Type 0 where
  pub sized : run.size ≡ p.size
  pub counted : run.taken ≡ p.count
  pub fits : run.size ≤ length run.state.now
  pub means : (j : ℕ) → j < run.size → at a.ops.zero a.mean run.state.now j ≡ p.state j

abbrev pub Follows : {E : Type 0} (a : Algebra E) → Plain a.Value → List (Call a.Value) → Run E → Type 0
Follows a start calls run = Holds a (after a.ops start calls) run

-- the questions of a take, put to a run; one that was never made has size 0, and each has a buffer of its size at least
abbrev pub asking : {E : Type 0} (a : Algebra E) → Run E → Rule a.Value → List ℕ → List ℕ → ℕ → ℕ → List Question
asking a run r ys plan n k =
    asks plan (length ys) ++ (accepted r ys ∷ (within run.taken ys
    ∷ (once (r.size == run.size && (nat_le r.size (length run.state.now) && (nat_le (most plan * (r.size * r.size)) n && nat_le r.size k))) Memory ∷ [])))

-- what reading a place of a run answers
abbrev pub looked : {E : Type 0} (a : Algebra E) → Run E → ℕ → Result a.Value Refusal
looked a run i = asked (once (nat_lt i run.size && nat_lt i (length run.state.now)) Place ∷ []) (at a.ops.zero a.mean run.state.now i)

-- the run did the symbols' single steps, and nothing past its size has changed; the front of the work area is the product of the last block
pub record Stepped {E : Type 0} (a : Algebra E) (r : Rule a.Value) (ys plan : List ℕ) (was is : Run E) (work : List E) : Type 0 where
  pub same : is.size ≡ was.size
  pub long : length is.state.now ≡ length was.state.now
  pub counted : is.taken ≡ was.taken + length ys
  pub rest : drop was.size is.state.now ≡ drop was.size was.state.now
  pub means : (j : ℕ) → j < was.size → at a.ops.zero a.mean is.state.now j ≡ steps a.ops was.size r.entry ys (at a.ops.zero a.mean was.state.now) j
  pub block : Stands a was.size (chosen r.entry ys) work (letters_after plan (length plan)).last

abbrev pub Taken : {E : Type 0} (a : Algebra E) → Rule a.Value → List ℕ → List ℕ → Run E → List E → List E → Result (ℕ × ℕ) Refusal → Run E → List E → List E → Type 0
Taken a r ys plan was work row (Ok x) is work' row' = Stepped a r ys plan was is work'
Taken a r ys plan was work row (Err e) is work' row' = (is ≡ was) × (work' ≡ work) × (row' ≡ row)

abbrev pub TakeServes : {E : Type 0} (a : Algebra E) → Rule a.Value → List ℕ → List ℕ → ℕ → ℕ → Run E → Result (ℕ × ℕ) Refusal → Run E → Type 0
TakeServes a r ys plan n k was o is =
    (start : Plain a.Value) (calls : List (Call a.Value)) → Follows a start calls was
    → (o ≡ took (after a.ops start calls) r ys plan n k) × Follows a start (calls ++ (Take r ys plan n k ∷ [])) is

-- an element that was read is the one that the plain run answers, by meaning
abbrev pub Heard : {E : Type 0} (a : Algebra E) → Result E Refusal → Result a.Value Refusal → Type 0
Heard a (Ok x) w = w ≡ Ok (a.mean x)
Heard a (Err e) w = w ≡ Err e

abbrev pub ReadServes : {E : Type 0} (a : Algebra E) → ℕ → Run E → Result E Refusal → Type 0
ReadServes a i run o =
    (start : Plain a.Value) (calls : List (Call a.Value)) → Follows a start calls run
    → Heard a o (found (after a.ops start calls) i) × Follows a start (calls ++ (Read i ∷ [])) run

-- what the plain run holds at the start, for a run that was just made
abbrev pub fresh : {E : Type 0} (a : Algebra E) → ℕ → List E → Plain a.Value
fresh a d state = record { size = d; count = 0; state = at a.ops.zero a.mean state }

-- one call of a history, with what was answered
pub data Event {E : Type 0} (a : Algebra E) : Type 0 where
  Took : Rule a.Value → List ℕ → List ℕ → ℕ → ℕ → Result (ℕ × ℕ) Refusal → Event a
  Looked : ℕ → Result E Refusal → Event a

-- calls on a run, the latest first, each of which answered and left what its own contract says
pub data History {E : Type 0} (a : Algebra E) (first : Run E) : List (Event a) → Run E → Type 0 where
  begun : History a first [] first
  then_take : (r : Rule a.Value) (ys plan : List ℕ) (work row work' row' : List E) (o : Result (ℕ × ℕ) Refusal) (es : List (Event a)) (was is : Run E)
      → History a first es was
      → o ≡ asked (asking a was r ys plan (length work) (length row)) (length ys, joins plan) → Taken a r ys plan was work row o is work' row'
      → History a first (Took r ys plan (length work) (length row) o ∷ es) is
  then_read : (i : ℕ) (o : Result E Refusal) (es : List (Event a)) (was : Run E)
      → History a first es was → Heard a o (looked a was i) → History a first (Looked i o ∷ es) was

-- what the plain run holds after these calls
abbrev pub held : {E : Type 0} (a : Algebra E) → Plain a.Value → List (Event a) → Plain a.Value
held a start [] = start
held a start (Took r ys plan n k o ∷ es) = next a.ops (held a start es) (Take r ys plan n k)
held a start (Looked i o ∷ es) = next a.ops (held a start es) (Read i)

-- each answer is the plain run's
abbrev pub Agree : {E : Type 0} (a : Algebra E) → Plain a.Value → List (Event a) → Type 0
Agree a start [] = Unit {0}
Agree a start (Took r ys plan n k o ∷ es) = (o ≡ took (held a start es) r ys plan n k) × Agree a start es
Agree a start (Looked i o ∷ es) = Heard a o (found (held a start es) i) × Agree a start es

-- whatever takes and reads follow, every answer is the plain run's, and so is what the run holds after each
abbrev pub Whole : {E : Type 0} (a : Algebra E) → Plain a.Value → Run E → Type 0
Whole {E = E} a start first = (es : List (Event a)) (last : Run E) → History a first es last → Agree a start es × Holds a (held a start es) last

-- there are d elements, they are the start state, and the run is fresh; or there are fewer, and nothing has changed
abbrev pub Made : {E : Type 0} (a : Algebra E) → ℕ → Run E → Result Unit Refusal → Run E → Type 0
Made a d was (Ok x) is =
    (d ≤ length was.state.now) × (is.state.now ≡ was.state.now) × Follows a (fresh a d was.state.now) [] is × Whole a (fresh a d was.state.now) is
Made a d was (Err e) is = (length was.state.now < d) × (e ≡ Memory) × (is ≡ was)
