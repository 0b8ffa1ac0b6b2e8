-- Rows of words in a store, and the bits that their trace decodes. Row k lies at place k × row_words c: the number of its steps, and
-- then the chosen word of each end state.
--   row_words c                     the words of a row
--   row_at c store k                row k of the store
--   rows_in c store n               the first n rows of the store, the latest first
--   state_total totals j            the total of state j, if it has one
--   has_total totals j              whether it has one
--   total_of totals j               that total, and 0 where there is none
--   memory_suffices c n steps store b
--                                   whether the store has n rows and the bit buffer of b bytes has room for the steps
--   sound c rs steps j              whether the rows rs are those of a frame of so many steps that is traced from state j: each row has
--                                   1 to 32 steps, together they have all, and the trace arrives at state 0
--   decode_questions                what a decode asks, in this order: is there such a state, has the memory room, has the state a
--                                   total, are the rows sound?
--   Decoded                         what a decode leaves in the bit buffer: the decoded bits, and after a refusal what it held
use Rattle.std.specs.Prelude.{◌≡◌, ℕ, zero, suc, ◌+◌, ◌*◌, Bool, ◌&&◌, List, [], ◌∷◌, ◌++◌, length, drop, is_some, None, Ok, Err, Option, Result, ◌==◌, nat_le, nat_lt, slice_index, slice_index_or}
use Rattle.std.specs.Option.{unwrap_or}
use Rattle.refusal.specs.declared.Refusal.{Refusal}
use Rattle.refusal.specs.declared.Refusal.TheVariants.{Memory, NoPath, Place, Rows}
use Rattle.refusal.specs.Questions.{Question, once}
use Rattle.code.specs.declared.description.Code.{Code}
use Rattle.code.specs.Codes.{states}
use Rattle.frame_paths.specs.Rows.{Row, all_steps, decoded, rows_in_range, started}

abbrev pub row_words : Code → ℕ
row_words c = 1 + states c

abbrev pub row_at : Code → List ℕ → ℕ → Row
row_at c store k = record { steps = slice_index store (k * row_words c); words = λ j. slice_index store (k * row_words c + (1 + j)) }

abbrev pub rows_in : Code → List ℕ → ℕ → List Row
rows_in c store zero = []
rows_in c store (suc n) = row_at c store n ∷ rows_in c store n

abbrev pub state_total : List (Option ℕ) → ℕ → Option ℕ
state_total totals j = slice_index_or totals j None

abbrev pub has_total : List (Option ℕ) → ℕ → Bool
has_total totals j = is_some (state_total totals j)

abbrev pub total_of : List (Option ℕ) → ℕ → ℕ
total_of totals j = unwrap_or (state_total totals j) 0

abbrev pub memory_suffices : Code → ℕ → ℕ → List ℕ → ℕ → Bool
memory_suffices c n steps store b = nat_le (n * row_words c) (length store) && nat_le steps b

abbrev pub sound : Code → List Row → ℕ → ℕ → Bool
sound c rs steps j = rows_in_range rs && (all_steps rs == steps && started c rs j == 0)

abbrev pub decode_questions : Code → ℕ → ℕ → List (Option ℕ) → ℕ → List ℕ → ℕ → List Question
decode_questions c n steps totals j store b =
    once (nat_lt j (states c)) Place
    ∷ (once (memory_suffices c n steps store b) Memory
    ∷ (once (has_total totals j) NoPath
    ∷ (once (sound c (rows_in c store n) steps j) Rows ∷ [])))

abbrev pub Decoded : Code → ℕ → ℕ → ℕ → List ℕ → List ℕ → Result ℕ Refusal → List ℕ → Type 0
Decoded c n steps j store bits (Ok total) bits' = bits' ≡ decoded c (rows_in c store n) j ++ drop steps bits
Decoded c n steps j store bits (Err refusal) bits' = bits' ≡ bits
