-- What is printed for an input.
--   most_bytes          the most bytes that an input may have
--   coded line          the code that a first line names, k3 alone
--   Decoded ds out      a line for each delivery, and the closing line: the cheapest path to state 0 over the symbols of the accepted ones
--   Read ls out         what is printed for an input of these lines; where the first does not name the code, the closing line alone
--   Printed bytes out   what is printed for an input; where it is too long, the closing line alone
use Rattle.std.specs.Prelude.{◌≡◌, ℕ, cond, List, [], ◌∷◌, ◌++◌, length, Ok, Err, codes, MatchBool, Result, nat_le}
use Rattle.std.specs.Str.{bytes_eq}
use Rattle.refusal.specs.declared.Refusal.{Refusal}
use Rattle.refusal.specs.declared.Refusal.TheVariants.{Limit, Name}
use Rattle.code.specs.declared.description.Code.{Code}
use Rattle.code.specs.Codes.{k3}
use Rattle.frame_paths.specs.Paths.{Cheapest, costs}
use Rattle.frame.specs.Plain.{nothing}
use Rattle.frame_report.specs.Columns.{closed}
use Rattle.frame_report.specs.Deliveries.{kept_all, listed}
use Rattle.frame_report.specs.Lines.{deliveries, lines}

abbrev pub most_bytes : ℕ
most_bytes = 1000000

abbrev pub coded : List ℕ → Result Code Refusal
coded line = cond (bytes_eq line (codes "k3")) (Ok k3) (Err Name)

abbrev pub Decoded : List (List ℕ × List ℕ) → List ℕ → Type 0
Decoded ds out =
    (us : List ℕ) × Cheapest k3 (kept_all nothing ds).symbols 0 us × (out ≡ listed nothing ds ++ closed (Ok (costs k3 0 (kept_all nothing ds).symbols us, us)))

abbrev pub Read : List (List ℕ) → List ℕ → Type 0
Read [] out = out ≡ closed (Err Name)
Read (l ∷ ls) out = MatchBool (bytes_eq l (codes "k3")) (Decoded (deliveries ls) out) (out ≡ closed (Err Name))

abbrev pub Printed : List ℕ → List ℕ → Type 0
Printed bytes out = MatchBool (nat_le (length bytes) most_bytes) (Read (lines bytes) out) (out ≡ closed (Err Limit))
