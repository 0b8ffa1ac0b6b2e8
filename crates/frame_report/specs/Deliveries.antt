-- Deliveries to a plain frame of the code k3, each a plan and a line of symbols.
--   store_words       the words of the store: 512 rows, each a length and four words
--   answered p d      the answer to the delivery d where the plain frame holds p: the questions of its text, and then those of a take,
--                     with a work area that suffices
--   grown p d         what the plain frame holds after an accepted one
--   kept p d          what it holds after any
--   kept_all p ds     what it holds after many
--   listed p ds       the lines that are printed for them
--   Bounded p         no more symbols than a frame may take, and no more rows than the store has
use Rattle.std.specs.Prelude.{ℕ, ◌+◌, ◌*◌, ◌≤◌, List, [], ◌∷◌, ◌++◌, length, Ok, Err, Result}
use Rattle.refusal.specs.declared.Refusal.{Refusal}
use Rattle.refusal.specs.Questions.{asked}
use Rattle.code.specs.Codes.{k3}
use Rattle.plan.specs.Asks.{blocks, most}
use Rattle.frame.specs.Plain.{Plain, limit, settled, took}
use Rattle.frame_report.specs.Columns.{delivered}
use Rattle.frame_report.specs.Fields.{numbers, text_asks}

abbrev pub store_words : ℕ
store_words = 2560

-- the second answer, unless the first is a refusal
abbrev pub after : Result Unit Refusal → Result (ℕ × ℕ) Refusal → Result (ℕ × ℕ) Refusal
after (Ok x) o = o
after (Err e) o = Err e

unfoldable pub answered : Plain → List ℕ × List ℕ → Result (ℕ × ℕ) Refusal
answered p d = after (asked (text_asks d.0 d.1) tt) (took k3 p (numbers d.1) d.0 (most d.0 * 16) 4 store_words)

abbrev pub grown : Plain → List ℕ × List ℕ → Plain
grown p d = record { symbols = p.symbols ++ numbers d.1; rows = p.rows + blocks d.0 }

unfoldable pub kept : Plain → List ℕ × List ℕ → Plain
kept p d = settled (answered p d) (grown p d) p

abbrev pub kept_all : Plain → List (List ℕ × List ℕ) → Plain
kept_all p [] = p
kept_all p (d ∷ ds) = kept_all (kept p d) ds

abbrev pub listed : Plain → List (List ℕ × List ℕ) → List ℕ
listed p [] = []
listed p (d ∷ ds) = delivered (answered p d) ++ listed (kept p d) ds

pub record Bounded (p : Plain) : Type 0 where
  pub symbols : length p.symbols ≤ limit
  pub rows : p.rows * 5 ≤ store_words
