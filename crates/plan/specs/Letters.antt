-- The letters of a plan, and their bytes.
--   code l        the byte of a letter: 115 for s, 106 for j, 97 for a
--   letter_of c   the letter of a byte; any byte but those of s and j is an a here
use Rattle.std.specs.Prelude.{ℕ, cond, ◌==◌}
use Rattle.plan.specs.declared.letter.Letter.{Letter}
use Rattle.plan.specs.declared.letter.Letter.TheVariants.{Single, Join, Apply}

abbrev pub code : Letter → ℕ
code Single = 115
code Join = 106
code Apply = 97

abbrev pub letter_of : ℕ → Letter
letter_of c = cond (c == 115) Single (cond (c == 106) Join Apply)
