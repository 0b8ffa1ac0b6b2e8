-- The entries of the survivor trellis: the row of a branch, which is in range, or the row of none.
use Rattle.std.specs.Prelude.{◌≡◌, ℕ, ◌%◌, true, false, cond, ◌&&◌}
use Rattle.std.proofs.Common.{ap, arith}
use Rattle.std.proofs.lemmas.Bool.{and_from, le-leb, lt-ltb}
use Rattle.algebra_survivor.specs.declared.Survivor.{Survivor}
use Rattle.algebra_survivor.specs.Survivors.{ranged, none_row}
use Rattle.code.specs.declared.description.Code.{Code}
use Rattle.code.specs.Codes.{register_of, goes, input}
use Rattle.code.specs.Symbols.{accepted, branch_cost}
use Rattle.code.proofs.Costs.{branch_cost_le}
use Rattle.recursion_trellis.specs.Survivors.{survivor_entry}

module _ (c : Code) (y : ℕ) where
  pub branch_in_range : (r i : ℕ) → accepted y ≡ true → ranged 1 (branch_cost c y r) (i % 2) ≡ true
  branch_in_range r i a = and_from _ _ (le-leb (branch_cost c y r) _ (branch_cost_le c y r a)) (lt-ltb (i % 2) 2 (omega arith))

  abbrev pub branch_row : ℕ → ℕ → Survivor
  branch_row i j = record { length = 1; cost = branch_cost c y (register_of c i (input c j)); word = i % 2 }

  pub entry_branch : (i j : ℕ) → (goes c i j && accepted y) ≡ true → survivor_entry c y i j ≡ branch_row i j
  entry_branch i j e = ap (λ t. cond t (branch_row i j) none_row) e

  pub entry_none : (i j : ℕ) → (goes c i j && accepted y) ≡ false → survivor_entry c y i j ≡ none_row
  entry_none i j e = ap (λ t. cond t (branch_row i j) none_row) e
