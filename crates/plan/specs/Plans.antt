-- Plans: letters that say which neighbouring matrices are joined first.
--   Tree               a standing matrix: of the symbol at a place, or the product of two, the earlier first
--   places t, size t   the places of its symbols, first to last, and how many they are
--   Progress           what the letters so far have built:
--     stack              the standing matrices, the top first
--     next               the place of the next symbol
--     done               the places of the symbols that were applied, first to last
--     last               the matrix that letter a applied last
--     blocks             the matrices that letters a applied, the latest first
--   letter, letters    one letter more, and many: s puts the next symbol's matrix on the stack, j replaces the top two
--                      by their product, a applies the only matrix and removes it
--   after plan p       the progress after the first p letters
use Rattle.std.specs.Prelude.{ℕ, ◌+◌, cond, List, [], ◌∷◌, ◌++◌, take, ◌==◌}

pub data Tree : Type 0 where
  Single : ℕ → Tree
  Join : Tree → Tree → Tree

abbrev pub places : Tree → List ℕ
places (Single p) = p ∷ []
places (Join a b) = places a ++ places b

abbrev pub size : Tree → ℕ
size (Single p) = 1
size (Join a b) = size a + size b

pub record Progress : Type 0 where
  pub stack : List Tree
  pub next : ℕ
  pub done : List ℕ
  pub last : List Tree
  pub blocks : List Tree

abbrev pub joined : List Tree → List Tree
joined [] = []
joined (b ∷ []) = b ∷ []
joined (b ∷ (a ∷ rest)) = Join a b ∷ rest

abbrev pub applied : List ℕ → List Tree → List ℕ
applied done [] = done
applied done (b ∷ rest) = done ++ places b

-- the codes of s and j are 115 and 106; any other letter counts as a here, once no other is left
abbrev pub letter : Progress → ℕ → Progress
letter w c =
    cond (c == 115) (record { stack = Single w.next ∷ w.stack; next = w.next + 1; done = w.done; last = w.last; blocks = w.blocks })
    (cond (c == 106) (record { stack = joined w.stack; next = w.next; done = w.done; last = w.last; blocks = w.blocks })
    (record { stack = []; next = w.next; done = applied w.done w.stack; last = w.stack; blocks = w.stack ++ w.blocks }))

abbrev pub letters : Progress → List ℕ → Progress
letters w [] = w
letters w (c ∷ cs) = letters (letter w c) cs

abbrev pub none_yet : Progress
none_yet = record { stack = []; next = 0; done = []; last = []; blocks = [] }

abbrev pub after : List ℕ → ℕ → Progress
after plan p = letters none_yet (take p plan)
