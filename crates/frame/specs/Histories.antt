-- Whole histories of a frame and its row store.
--   Event              a take or a decode with its arguments and what came of it; of work area, row and store only the lengths
--   History            calls on a frame and one store, the latest first, each of which answered and left what its own contract says
--   held c es          what the plain frame holds after these calls
--   Agree c es         each answer, and each bit buffer after a decode, is the plain frame's
--   Whole c f          from the frame f on, with whatever the store holds at first, all answers and bits are the plain frame's, over every
--                      history
--   Counted c f        over every history from the frame f on, a frame has as many steps as symbols were accepted, and as many rows as
--                      their plans had letters a
--   Alike c            two frames that were given the same symbols, in whatever deliveries and under whatever plans, decode alike
use Rattle.std.specs.Prelude.{◌≡◌, ℕ, List, [], ◌∷◌, length, take, Ok, Result}
use Rattle.refusal.specs.declared.Refusal.{Refusal}
use Rattle.algebra_survivor.specs.declared.Survivor.{Survivor}
use Rattle.code.specs.declared.description.Code.{Code}
use Rattle.frame.specs.declared.Frame.{Frame}
use Rattle.frame.specs.Plain.{Plain, nothing, took, taken, allowed, DecodesRight}
use Rattle.frame.specs.Frames.{Took, Traced}

pub data Event : Type 0 where
  Take : List ℕ → List ℕ → ℕ → ℕ → ℕ → Result (ℕ × ℕ) Refusal → Event
  Decode : ℕ → ℕ → List ℕ → Result ℕ Refusal → List ℕ → Event

pub data History (first : Frame) (noise : List ℕ) : List Event → Frame → List ℕ → Type 0 where
  begun : History first noise [] first noise
  then_take : (ys plan : List ℕ) (work row work' row' : List Survivor) (o : Result (ℕ × ℕ) Refusal) (es : List Event) (was is : Frame) (store store' : List ℕ)
      → History first noise es was store → Took ys plan was store work row o is store' work' row'
      → History first noise (Take ys plan (length work) (length row) (length store) o ∷ es) is store'
  then_decode : (j : ℕ) (bits bits' : List ℕ) (o : Result ℕ Refusal) (es : List Event) (was : Frame) (store : List ℕ)
      → History first noise es was store → Traced was j store bits o bits'
      → History first noise (Decode j (length store) bits o bits' ∷ es) was store

abbrev pub held : Code → List Event → Plain
held c [] = nothing
held c (Take ys plan n k s o ∷ es) = taken c (held c es) ys plan n k s
held c (Decode j s bits o bits' ∷ es) = held c es

abbrev pub Agree : Code → List Event → Type 0
Agree c [] = Unit {0}
Agree c (Take ys plan n k s o ∷ es) = (o ≡ took c (held c es) ys plan n k s) × Agree c es
Agree c (Decode j s bits o bits' ∷ es) = DecodesRight c (held c es) j s bits o bits' × Agree c es

abbrev pub Whole : Code → Frame → Type 0
Whole c f = (noise store : List ℕ) (es : List Event) (last : Frame) → History f noise es last store → Agree c es

abbrev pub Counted : Code → Frame → Type 0
Counted c f =
    (noise store : List ℕ) (es : List Event) (last : Frame) → History f noise es last store
    → (last.code ≡ c) × (last.steps ≡ length (held c es).symbols) × (last.metrics.rows ≡ (held c es).rows)

-- decodes of as many symbols that are equal, which pass their first questions, answer the same and write the same bits
abbrev pub Alike : Code → Type 0
Alike c =
    (f g : Frame) → Whole c f → Whole c g → (noise noise' store store' bits bits' new new' : List ℕ) (es es' : List Event) (last last' : Frame) (j : ℕ) (o o' : Result ℕ Refusal)
    → History f noise (Decode j (length store) bits o new ∷ es) last store → History g noise' (Decode j (length store') bits' o' new' ∷ es') last' store'
    → (held c es).symbols ≡ (held c es').symbols
    → allowed c (held c es) j (length store) (length bits) ≡ Ok tt → allowed c (held c es') j (length store') (length bits') ≡ Ok tt
    → (o ≡ o') × ((cost : ℕ) → o ≡ Ok cost → take (length (held c es).symbols) new ≡ take (length (held c es).symbols) new')
