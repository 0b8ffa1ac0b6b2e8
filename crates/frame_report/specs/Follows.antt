-- Frames and stores that follow the plain frame of the code k3.
--   Follows p f store     the frame f and its store come from a fresh frame by takes and decodes after which the plain frame holds p
--   Gave ..               a delivery was answered as the plain frame answers it, and frame and store follow
--   Listed ..             the lines of deliveries were written from a fresh frame on, frame and store follow, and the frame has a step for
--                         each symbol
--   Closes ys was is      the closing line was written: the cheapest path to state 0 over the symbols ys, and its cost
--   Shows ds was is       the lines of deliveries to a fresh frame were written, and its closing line
use Rattle.std.specs.Prelude.{◌≡◌, ℕ, List, ◌++◌, length, Ok, Result}
use Rattle.refusal.specs.declared.Refusal.{Refusal}
use Rattle.code.specs.Codes.{k3}
use Rattle.frame_paths.specs.Paths.{Cheapest, costs}
use Rattle.frame.specs.declared.Frame.{Frame}
use Rattle.frame.specs.Histories.{Counted, Event, History, Whole, held}
use Rattle.frame.specs.Plain.{Plain, nothing}
use Rattle.frame_report.specs.Columns.{closed}
use Rattle.frame_report.specs.Deliveries.{Bounded, answered, kept, kept_all, listed}

pub record Follows (p : Plain) (f : Frame) (store : List ℕ) : Type 0 where
  pub first : Frame
  pub noise : List ℕ
  pub calls : List Event
  pub whole : Whole k3 first
  pub counts : Counted k3 first
  pub history : History first noise calls f store
  pub holds : held k3 calls ≡ p

abbrev pub Gave : List ℕ × List ℕ → Frame → List ℕ → Result (ℕ × ℕ) Refusal → Frame → List ℕ → Type 0
Gave d f store o f' store' = (p : Plain) → Follows p f store → (o ≡ answered p d) × Follows (kept p d) f' store'

pub record Listed (ds : List (List ℕ × List ℕ)) (was is : List ℕ) (f : Frame) (store : List ℕ) : Type 0 where
  pub shown : is ≡ was ++ listed nothing ds
  pub follows : Follows (kept_all nothing ds) f store
  pub counted : f.steps ≡ length (kept_all nothing ds).symbols
  pub bounded : Bounded (kept_all nothing ds)

abbrev pub Closes : List ℕ → List ℕ → List ℕ → Type 0
Closes ys was is = (us : List ℕ) × Cheapest k3 ys 0 us × (is ≡ was ++ closed (Ok (costs k3 0 ys us, us)))

abbrev pub Shows : List (List ℕ × List ℕ) → List ℕ → List ℕ → Type 0
Shows ds was is = (us : List ℕ) × Cheapest k3 (kept_all nothing ds).symbols 0 us × (is ≡ was ++ (listed nothing ds ++ closed (Ok (costs k3 0 (kept_all nothing ds).symbols us, us))))
