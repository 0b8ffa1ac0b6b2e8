-- Lines of a text. A line ends with byte 10; a last line without an end is a line, and an end at the very end starts no further one.
--   line_of text      the first line: the bytes before the first end
--   rest_of text      what follows that end
--   lines text        all lines, first to last
--   deliveries ls     the lines in pairs, a plan and its symbols; where the last symbols are missing, their line is empty
use Rattle.std.specs.Prelude.{ℕ, cond, List, [], ◌∷◌, ◌==◌}

abbrev pub line_of : List ℕ → List ℕ
line_of [] = []
line_of (b ∷ bs) = cond (b == 10) [] (b ∷ line_of bs)

abbrev pub rest_of : List ℕ → List ℕ
rest_of [] = []
rest_of (b ∷ bs) = cond (b == 10) bs (rest_of bs)

-- a byte more in front of the first line
abbrev pub fronted : ℕ → List (List ℕ) → List (List ℕ)
fronted b [] = (b ∷ []) ∷ []
fronted b (l ∷ ls) = (b ∷ l) ∷ ls

abbrev pub lines : List ℕ → List (List ℕ)
lines [] = []
lines (b ∷ bs) = cond (b == 10) ([] ∷ lines bs) (fronted b (lines bs))

abbrev pub deliveries : List (List ℕ) → List (List ℕ × List ℕ)
deliveries [] = []
deliveries (plan ∷ []) = (plan, []) ∷ []
deliveries (plan ∷ (symbols ∷ ls)) = (plan, symbols) ∷ deliveries ls
