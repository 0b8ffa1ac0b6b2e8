-- The survivor trellis.
--   survivor_entry c y i j   the row (1, the branch's cost, i mod 2) if a branch goes from i to j and the symbol y is accepted,
--                            else the row of none
use Rattle.std.specs.Prelude.{ℕ, ◌%◌, cond, ◌&&◌}
use Rattle.algebra_survivor.specs.declared.Survivor.{Survivor}
use Rattle.algebra_survivor.specs.Survivors.{none_row}
use Rattle.code.specs.declared.description.Code.{Code}
use Rattle.code.specs.Codes.{register_of, goes, input}
use Rattle.code.specs.Symbols.{accepted, branch_cost}

abbrev pub survivor_entry : Code → ℕ → ℕ → ℕ → Survivor
survivor_entry c y i j =
    cond (goes c i j && accepted y) (record { length = 1; cost = branch_cost c y (register_of c i (input c j)); word = i % 2 }) none_row
