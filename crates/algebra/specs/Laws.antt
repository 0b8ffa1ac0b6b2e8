-- What an algebra is.
--   Ops V    sum, product, zero and one on the values V
--   Laws o   the eight laws; the fifth and the eighth have a side each
use Rattle.std.specs.Prelude.{◌≡◌}

pub record Ops (V : Type 0) : Type 0 where
  pub zero : V
  pub one : V
  pub add : V → V → V
  pub mul : V → V → V

pub record Laws {V : Type 0} (o : Ops V) : Type 0 where
  -- 1. the sum is associative
  pub add_assoc : (a b c : V) → o.add (o.add a b) c ≡ o.add a (o.add b c)
  -- 2. the sum is commutative
  pub add_comm : (a b : V) → o.add a b ≡ o.add b a
  -- 3. zero is neutral for the sum
  pub zero-add : (a : V) → o.add o.zero a ≡ a
  -- 4. the product is associative
  pub mul_assoc : (a b c : V) → o.mul (o.mul a b) c ≡ o.mul a (o.mul b c)
  -- 5. one is neutral for the product, on either side
  pub one-mul : (a : V) → o.mul o.one a ≡ a
  pub mul-one : (a : V) → o.mul a o.one ≡ a
  -- 6. the product distributes over a sum on its right
  pub mul-add : (a b c : V) → o.mul a (o.add b c) ≡ o.add (o.mul a b) (o.mul a c)
  -- 7. and over a sum on its left
  pub add-mul : (a b c : V) → o.mul (o.add b c) a ≡ o.add (o.mul b a) (o.mul c a)
  -- 8. zero absorbs in the product, on either side
  pub zero-mul : (a : V) → o.mul o.zero a ≡ o.zero
  pub mul-zero : (a : V) → o.mul a o.zero ≡ o.zero
