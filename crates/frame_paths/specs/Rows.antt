-- Rows, and how they are traced back.
--   Row                what letter a appends: the number of steps of its block, and the chosen word of each end state
--   prior c j b        the state before a step that ended in state j and dropped the bit b
--   origin c n j w     the state from which n steps came that end in j and dropped the word w
--   traced c n j w     the input bits of these steps
--   started c rs j     where the trace of the rows rs, the latest first, from state j arrives
--   decoded c rs j     the input bits of that trace, the earliest first
--   all_steps rs       how many steps the rows have together
--   rows_in_range rs   whether each row has 1 to 32 steps
use Rattle.std.specs.Prelude.{ℕ, zero, suc, ◌+◌, ◌*◌, ◌/◌, ◌%◌, ◌^◌, Bool, true, ◌&&◌, List, [], ◌∷◌, ◌++◌, nat_le}
use Rattle.code.specs.declared.description.Code.{Code}
use Rattle.code.specs.Codes.{half, input}

pub record Row : Type 0 where
  pub steps : ℕ
  pub words : ℕ → ℕ

abbrev pub prior : Code → ℕ → ℕ → ℕ
prior c j b = (j % half c) * 2 + b

abbrev pub origin : Code → ℕ → ℕ → ℕ → ℕ
origin c zero j w = j
origin c (suc t) j w = origin c t (prior c j (w / 2 ^ t % 2)) w

abbrev pub traced : Code → ℕ → ℕ → ℕ → List ℕ
traced c zero j w = []
traced c (suc t) j w = traced c t (prior c j (w / 2 ^ t % 2)) w ++ (input c j ∷ [])

abbrev pub started : Code → List Row → ℕ → ℕ
started c [] j = j
started c (r ∷ rs) j = started c rs (origin c r.steps j (r.words j))

abbrev pub decoded : Code → List Row → ℕ → List ℕ
decoded c [] j = []
decoded c (r ∷ rs) j = decoded c rs (origin c r.steps j (r.words j)) ++ traced c r.steps j (r.words j)

abbrev pub all_steps : List Row → ℕ
all_steps [] = 0
all_steps (r ∷ rs) = all_steps rs + r.steps

abbrev pub rows_in_range : List Row → Bool
rows_in_range [] = true
rows_in_range (r ∷ rs) = (nat_le 1 r.steps && nat_le r.steps 32) && rows_in_range rs
