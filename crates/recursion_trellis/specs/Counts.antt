-- The count trellis.
--   count_entry c y i j   1 if a branch goes from i to j and the symbol y admits it, else 0
use Rattle.std.specs.Prelude.{ℕ, cond, ◌&&◌}
use Rattle.code.specs.declared.description.Code.{Code}
use Rattle.code.specs.Codes.{register_of, goes, input}
use Rattle.code.specs.Symbols.{admitted}

abbrev pub count_entry : Code → ℕ → ℕ → ℕ → ℕ
count_entry c y i j = cond (goes c i j && admitted c y (register_of c i (input c j))) 1 0
