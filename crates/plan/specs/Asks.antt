-- The questions of a plan, and what it comes to.
--   tally f n         at how many of the places below n f says yes
--   peak f n          the greatest of f(0), .., f(n - 1)
--   top n stack       how many symbols the top n matrices have together
--   height plan p     how many matrices stand after the first p letters
--   is plan c p       whether the letter at place p is c
--   known plan p      whether it is s, j or a
--   served c h        whether the letter c finds what it needs where h matrices stand: j two or more, a exactly one
--   finds plan p      whether the letter at place p does
--   makes plan p      whether it makes a block of at most 32 symbols, where it is j
--   singles, joins    how many letters s and j there are
--   blocks plan       how many letters a there are: each applies a block
--   most plan         the most matrices that ever stand
--   asks plan n       the plan's questions, in their order, for n symbols
--   shape plan        what a plan that passes comes to
use Rattle.std.specs.Prelude.{ℕ, zero, suc, ◌+◌, max, Bool, true, cond, ◌&&◌, ◌||◌, List, [], ◌∷◌, length, ◌==◌, nat_le, slice_index}
use Rattle.refusal.specs.declared.Refusal.TheVariants.{Letter, Standing, Block, Unfinished}
use Rattle.refusal.specs.Questions.{Question, once}
use Rattle.plan.specs.declared.Shape.{Shape}
use Rattle.plan.specs.Plans.{Tree, size, after}

unfoldable pub tally : (ℕ → Bool) → ℕ → ℕ
tally f zero = 0
tally f (suc n) = tally f n + cond (f n) 1 0

unfoldable pub peak : (ℕ → ℕ) → ℕ → ℕ
peak f zero = 0
peak f (suc n) = max (peak f n) (f n)

unfoldable pub top : ℕ → List Tree → ℕ
top zero stack = 0
top (suc n) [] = 0
top (suc n) (t ∷ rest) = size t + top n rest

abbrev pub height : List ℕ → ℕ → ℕ
height plan p = length (after plan p).stack

abbrev pub is : List ℕ → ℕ → ℕ → Bool
is plan code p = slice_index plan p == code

abbrev pub known : List ℕ → ℕ → Bool
known plan p = is plan 115 p || (is plan 106 p || is plan 97 p)

abbrev pub served : ℕ → ℕ → Bool
served c h = cond (c == 115) true (cond (c == 106) (nat_le 2 h) (h == 1))

abbrev pub finds : List ℕ → ℕ → Bool
finds plan p = served (slice_index plan p) (height plan p)

abbrev pub makes : List ℕ → ℕ → Bool
makes plan p = cond (is plan 106 p) (nat_le (top 2 (after plan p).stack) 32) true

abbrev pub singles : List ℕ → ℕ
singles plan = tally (is plan 115) (length plan)

abbrev pub joins : List ℕ → ℕ
joins plan = tally (is plan 106) (length plan)

abbrev pub blocks : List ℕ → ℕ
blocks plan = tally (is plan 97) (length plan)

abbrev pub most : List ℕ → ℕ
most plan = peak (height plan) (suc (length plan))

abbrev pub knows : List ℕ → Question
knows plan = record { count = length plan; test = known plan; refuse = λ p. Letter p }

abbrev pub stands : List ℕ → Question
stands plan = record { count = length plan; test = finds plan; refuse = λ p. Standing p }

abbrev pub fits : List ℕ → Question
fits plan = record { count = length plan; test = makes plan; refuse = λ p. Block p }

abbrev pub ends : List ℕ → ℕ → Question
ends plan n = once (singles plan == n && height plan (length plan) == 0) Unfinished

abbrev pub asks : List ℕ → ℕ → List Question
asks plan n = knows plan ∷ (stands plan ∷ (fits plan ∷ (ends plan n ∷ [])))

abbrev pub shape : List ℕ → Shape
shape plan = record { joins = joins plan; most = most plan }
