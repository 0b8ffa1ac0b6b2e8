-- The lines that are printed.
--   right w n        the number n right-justified in w columns, blanks in front; a wider number stands whole
--   columns a b c d  four numbers in columns of 6, 6, 4 and 6, and the line's end
--   delivered o      the line of a delivery: symbols, joins, refusal number and place
--   characters us    bits as characters 0 and 1
--   closed o         the closing line: cost, refusal number, and the bits after a blank where there are some to show
use Rattle.std.specs.Prelude.{ℕ, ◌-◌, cond, List, [], ◌∷◌, ◌++◌, map, length, replicate, Ok, Err, decimal, Result, ◌==◌}
use Rattle.refusal.specs.declared.Refusal.{Refusal}
use Rattle.refusal.specs.Numbers.{number, place}

abbrev pub right : ℕ → ℕ → List ℕ
right w n = replicate (w - length (decimal n)) 32 ++ decimal n

abbrev pub columns : ℕ → ℕ → ℕ → ℕ → List ℕ
columns symbols joins refusal place = right 6 symbols ++ (right 6 joins ++ (right 4 refusal ++ (right 6 place ++ (10 ∷ []))))

abbrev pub delivered : Result (ℕ × ℕ) Refusal → List ℕ
delivered (Ok x) = columns x.0 x.1 0 0
delivered (Err e) = columns 0 0 (number e) (place e)

abbrev pub characters : List ℕ → List ℕ
characters us = map (λ (u : ℕ). cond (u == 0) 48 49) us

abbrev pub closed : Result (ℕ × List ℕ) Refusal → List ℕ
closed (Ok x) = right 6 x.0 ++ (right 4 0 ++ ((32 ∷ characters x.1) ++ (10 ∷ [])))
closed (Err e) = right 6 0 ++ (right 4 (number e) ++ (10 ∷ []))
