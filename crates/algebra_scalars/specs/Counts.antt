-- Counts, which are the numbers below 4,294,967,296.
--   modulus          4,294,967,296
--   Residue          a number below the modulus
--   residue_of n     the remainder of n
--   plus, times      sum and product of the numbers, reduced to a remainder
--   count_ops        these, with the residues of 0 and 1
--   CountFormulas    the operations as numbers modulo 4,294,967,296
use Rattle.std.specs.Prelude.{◌≡◌, ℕ, ◌+◌, ◌*◌, ◌%◌, ◌<◌, T, nat_lt}
use Rattle.std.proofs.Common.{mod-lt, lt→ltb, lit<}
use Rattle.algebra.specs.Laws.{Ops}

abbrev pub modulus : ℕ
modulus = 4294967296

pub data Residue : Type 0 where
  residue : (n : ℕ) → T (nat_lt n modulus) → Residue

unfoldable pub residue_of : ℕ → Residue
residue_of n = residue (n % modulus) (lt→ltb _ _ (mod-lt n (lit< tt)))

abbrev pub plus : Residue → Residue → Residue
plus (residue a p) (residue b q) = residue_of (a + b)

abbrev pub times : Residue → Residue → Residue
times (residue a p) (residue b q) = residue_of (a * b)

abbrev pub count_ops : Ops Residue
count_ops = record { zero = residue_of 0; one = residue_of 1; add = plus; mul = times }

pub record CountFormulas : Type 0 where
  pub zero : count_ops.zero ≡ residue_of 0
  pub one : count_ops.one ≡ residue_of 1
  pub sum : (a b : ℕ) → count_ops.add (residue_of a) (residue_of b) ≡ residue_of ((a + b) % modulus)
  pub product : (a b : ℕ) → count_ops.mul (residue_of a) (residue_of b) ≡ residue_of ((a * b) % modulus)
  -- two numbers below the modulus mean the same only if they are equal
  pub distinct : (a b : ℕ) → a < modulus → b < modulus → residue_of a ≡ residue_of b → a ≡ b
