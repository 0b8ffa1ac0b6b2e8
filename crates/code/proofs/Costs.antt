-- A branch costs at most twice the surest value against an accepted symbol.
use Rattle.std.proofs.Common.{◌≡◌, ℕ, ◌*◌, ◌/◌, ◌%◌, ◌≤◌, true, arith}
use Rattle.std.proofs.lemmas.Bool.{and_parts, leb-true}
use Rattle.std.proofs.lemmas.Bool.Decides.{nat_tests}
use Rattle.code.specs.declared.description.Code.{Code}
use Rattle.code.specs.Codes.{code_bit}
use Rattle.code.specs.Symbols.{base, sure, erased, accepted, soft_cost, branch_cost}

pub soft_cost_le : (q b : ℕ) → q ≤ erased → soft_cost q b ≤ sure
soft_cost_le q b h = grind (arith, nat_tests)

pub branch_cost_le : (c : Code) (y r : ℕ) → accepted y ≡ true → branch_cost c y r ≤ 2 * sure
branch_cost_le c y r e =
    let both = and_parts _ _ e in
    let one = soft_cost_le (y / base) (code_bit r c.first) (leb-true _ _ both.0) in
    let two = soft_cost_le (y % base) (code_bit r c.second) (leb-true _ _ both.1) in
    omega arith
