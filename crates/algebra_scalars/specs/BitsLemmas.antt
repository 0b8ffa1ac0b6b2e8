-- Bits meet the eight laws.
use Rattle.std.specs.Prelude.{refl}
use Rattle.std.proofs.Common.{arith}
use Rattle.algebra.specs.Laws.{Laws}
use Rattle.algebra_scalars.specs.Bits.{bit_ops}

pub bit_laws : Laws bit_ops
bit_laws = record {
  add_assoc = λ a b c. grind arith;
  add_comm = λ a b. grind arith;
  zero-add = λ a. refl;
  mul_assoc = λ a b c. grind arith;
  one-mul = λ a. refl;
  mul-one = λ a. grind arith;
  mul-add = λ a b c. grind arith;
  add-mul = λ a b c. grind arith;
  zero-mul = λ a. refl;
  mul-zero = λ a. grind arith;
}
