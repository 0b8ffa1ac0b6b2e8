-- Bits, which are the values false and true.
--   xor a b        exclusive or
--   bit_ops        exclusive or as the sum, and as the product, false as zero, true as one
--   number b       0 for false, 1 for true
--   BitFormulas    the operations as numbers: sum modulo 2, product, 0 and 1
use Rattle.std.specs.Prelude.{◌≡◌, ℕ, ◌+◌, ◌*◌, ◌%◌, Bool, true, false, ◌&&◌}
use Rattle.algebra.specs.Laws.{Ops}

abbrev pub xor : Bool → Bool → Bool
xor true true = false
xor true false = true
xor false b = b

abbrev pub bit_ops : Ops Bool
bit_ops = record { zero = false; one = true; add = xor; mul = λ a b. a && b }

abbrev pub number : Bool → ℕ
number false = 0
number true = 1

pub record BitFormulas : Type 0 where
  pub zero : number bit_ops.zero ≡ 0
  pub one : number bit_ops.one ≡ 1
  pub sum : (a b : Bool) → number (bit_ops.add a b) ≡ (number a + number b) % 2
  pub product : (a b : Bool) → number (bit_ops.mul a b) ≡ number a * number b
  -- two bits of one number are one bit
  pub distinct : (a b : Bool) → number a ≡ number b → a ≡ b
