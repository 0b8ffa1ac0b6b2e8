-- The number and the place of each refusal.
--   number r   the number by which it is known outside
--   place r    the place of the symbol, letter or field that was refused, 0 where none is named
use Rattle.std.specs.Prelude.{ℕ}
use Rattle.refusal.specs.declared.Refusal.{Refusal}
use Rattle.refusal.specs.declared.Refusal.TheVariants.{Name, Symbol, Limit, Memory, Letter, Standing, Block, Unfinished, Place, NoPath, Rows, Text}

abbrev pub number : Refusal → ℕ
number Name = 1
number (Symbol p) = 2
number Limit = 3
number Memory = 4
number (Letter p) = 5
number (Standing p) = 6
number (Block p) = 7
number Unfinished = 8
number Place = 9
number NoPath = 10
number Rows = 12
number (Text p) = 13

abbrev pub place : Refusal → ℕ
place Name = 0
place (Symbol p) = p
place Limit = 0
place Memory = 0
place (Letter p) = p
place (Standing p) = p
place (Block p) = p
place Unfinished = 0
place Place = 0
place NoPath = 0
place Rows = 0
place (Text p) = p
