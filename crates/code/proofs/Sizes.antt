-- The number of states is even, at least 2 and at most 64.
use Rattle.std.proofs.Common.{◌≡◌, suc, ◌-◌, ◌*◌, ◌≤◌, pow-suc, arith, pow_mono}
use Rattle.std.proofs.lemmas.Nat.{pow_pos}
use Rattle.code.specs.declared.description.Code.{Code}
use Rattle.code.specs.Codes.{states, half}

pub states_even : (c : Code) → states c ≡ 2 * half c
states_even c =
    let above : c.constraint - 1 ≡ suc (c.constraint - 2) = omega (arith, c.least) in
    rw above (omega (arith, pow-suc 2 (c.constraint - 2)))

pub half_positive : (c : Code) → 1 ≤ half c
half_positive c = pow_pos (c.constraint - 2)

pub states_positive : (c : Code) → 1 ≤ states c
states_positive c = pow_pos (c.constraint - 1)

pub states_bounded : (c : Code) → states c ≤ 64
states_bounded c = pow_mono {i = c.constraint - 1} {j = 6} (omega (arith, c.most))
