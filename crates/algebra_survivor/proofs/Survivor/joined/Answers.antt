-- A key made of a length that is not too long is that of the product.
use Rattle.std.proofs.Common.{arith}
use Rattle.algebra_survivor.proofs.Keys.{Made, joined_value, joined_normal}
use Rattle.algebra_survivor.proofs.Survivor.joined.Goals as goal

pub returns-then-high : goal.returns-then-high
returns-then-high c =
    let a = c.args.self in
    let b = c.args.later in
    let r = c.from_key.result in
    let made : Made a b r = record {
      costs = (omega arith, omega arith, omega arith);
      words = (omega arith, omega arith);
      high = _;
      high_is = omega arith;
      short = omega arith;
      shifted = _;
      shifted_is = c.wrapping_shl-word.ensures;
      key_is = c.from_key.ensures;
    } in
    record { value = joined_value a b r made; normal = joined_normal a b r made }
