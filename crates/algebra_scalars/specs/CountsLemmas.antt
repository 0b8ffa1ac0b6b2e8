-- Every residue is the residue of a number, so counts meet the laws of numbers.
use Rattle.std.specs.Prelude.{◌≡◌, ℕ, ◌+◌, ◌*◌, ◌/◌, ◌%◌, ◌<◌, T, nat_lt, refl}
use Rattle.std.proofs.Common.{ap, sym, ◌∙◌, subst, mod-eq_of_lt, mul_comm, mul_assoc, mul-add, add-mul, one-mul, mul-one, zero-mul, mul-zero, arith, ltb→lt}
use Rattle.std.proofs.Math.Nat.{mod-mod, add-mod, mul-add-mod_self_left, div-add-mod}
use Rattle.std.proofs.Math.Dec.{T_prop}
use Rattle.algebra.specs.Laws.{Laws}
use Rattle.algebra_scalars.specs.Counts.{modulus, Residue, residue, residue_of, plus, times, count_ops, CountFormulas}

same : (n m : ℕ) (p : T (nat_lt n modulus)) (q : T (nat_lt m modulus)) → n ≡ m → residue n p ≡ residue m q
same n m p q e = subst (λ x. (r : T (nat_lt x modulus)) → residue n p ≡ residue x r) e (λ r. ap (residue n) (T_prop (nat_lt n modulus) p r)) q

-- numbers with one remainder mean the same
pub residue_same : (n m : ℕ) → n % modulus ≡ m % modulus → residue_of n ≡ residue_of m
unfolding residue_of
residue_same n m e = same _ _ _ _ e

pub by_number : (P : Residue → Type 0) → ((n : ℕ) → P (residue_of n)) → (v : Residue) → P v
unfolding residue_of
by_number P f (residue n p) = subst P (same _ _ _ _ (mod-eq_of_lt (ltb→lt n modulus p))) (f n)

-- a product depends on the remainders alone
mul_left_mod : (a b m : ℕ) → (a % m * b) % m ≡ (a * b) % m
mul_left_mod a b m =
    let whole : a * b ≡ m * (a / m * b) + a % m * b = ap (λ x. x * b) (sym (div-add-mod a m)) ∙ add-mul (m * (a / m)) (a % m) b ∙ ap (λ x. x + a % m * b) (mul_assoc m (a / m) b) in
    sym (ap (λ x. x % m) whole ∙ mul-add-mod_self_left m (a / m * b) (a % m * b))

mul_mods : (a b m : ℕ) → (a % m * (b % m)) % m ≡ (a * b) % m
mul_mods a b m = mul_left_mod a (b % m) m ∙ ap (λ x. x % m) (mul_comm a (b % m)) ∙ mul_left_mod b a m ∙ ap (λ x. x % m) (mul_comm b a)

pub plus_residue : (a b : ℕ) → plus (residue_of a) (residue_of b) ≡ residue_of (a + b)
unfolding residue_of
plus_residue a b = residue_same _ _ (sym (add-mod a b modulus))

pub times_residue : (a b : ℕ) → times (residue_of a) (residue_of b) ≡ residue_of (a * b)
unfolding residue_of
times_residue a b = residue_same _ _ (mul_mods a b modulus)

pub count_laws : Laws count_ops
count_laws = record {
  add_assoc = by_number _ (λ a. by_number _ (λ b. by_number _ (λ c.
      let e : (a + b) + c ≡ a + (b + c) = omega arith in
      rw (plus_residue a b, plus_residue (a + b) c, plus_residue b c, plus_residue a (b + c), e))));
  add_comm = by_number _ (λ a. by_number _ (λ b. let e : a + b ≡ b + a = omega arith in rw (plus_residue a b, plus_residue b a, e)));
  zero-add = by_number _ (λ a. let e : 0 + a ≡ a = omega arith in rw (plus_residue 0 a, e));
  mul_assoc = by_number _ (λ a. by_number _ (λ b. by_number _ (λ c.
      rw (times_residue a b, times_residue (a * b) c, times_residue b c, times_residue a (b * c), mul_assoc a b c))));
  one-mul = by_number _ (λ a. rw (times_residue 1 a, one-mul a));
  mul-one = by_number _ (λ a. rw (times_residue a 1, mul-one a));
  mul-add = by_number _ (λ a. by_number _ (λ b. by_number _ (λ c.
      rw (plus_residue b c, times_residue a (b + c), times_residue a b, times_residue a c, plus_residue (a * b) (a * c), mul-add a b c))));
  add-mul = by_number _ (λ a. by_number _ (λ b. by_number _ (λ c.
      rw (plus_residue b c, times_residue (b + c) a, times_residue b a, times_residue c a, plus_residue (b * a) (c * a), add-mul b c a))));
  zero-mul = by_number _ (λ a. rw (times_residue 0 a, zero-mul a));
  mul-zero = by_number _ (λ a. rw (times_residue a 0, mul-zero a));
}

-- the number that a residue is
value : Residue → ℕ
value (residue n p) = n

-- numbers below the modulus mean the same only if they are equal
pub residue_distinct : (a b : ℕ) → a < modulus → b < modulus → residue_of a ≡ residue_of b → a ≡ b
unfolding residue_of value
residue_distinct a b p q e = sym (mod-eq_of_lt p) ∙ ap value e ∙ mod-eq_of_lt q

pub count_formulas_lem : CountFormulas
count_formulas_lem = record {
  zero = refl;
  one = refl;
  sum = λ a b. plus_residue a b ∙ residue_same _ _ (sym (mod-mod (a + b) modulus));
  product = λ a b. times_residue a b ∙ residue_same _ _ (sym (mod-mod (a * b) modulus));
  distinct = residue_distinct;
}
