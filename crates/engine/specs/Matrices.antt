-- Matrices that lie row by row in a list of elements.
--   cell z f xs d a i j   f of the entry (i, j) of the matrix of size d that starts at place a, z past the end
--   means a xs p          what the element of xs at place p means, zero past the end
--   entry a d m i j       what the entry (i, j) of the matrix m of size d means
--   times o d m n i j     the entry (i, j) of the product m × n, the earlier matrix on the left
--   Normal f xs n         the first n elements are in normal form
--   NormalFrom f xs a n   the n elements at place a are
--   Blocked a d n block k  a list is the matrix of a block of n symbols, 32 at most, row by row in normal form, and a row of k elements
--                         suffices to help it
--   WithColumn            one column of a matrix was put there
--   IsProduct a d m n now  the matrix now is the product of m and n, in normal form
--   Joined a d p was now  the matrix at place p was multiplied by the one after it
--   multiplies d n k      the question of a product: is d at most 64, and are there two matrices and a row?
--   Multiplied            what a product did, and that a refused one did nothing
use Rattle.std.specs.Prelude.{◌≡◌, ℕ, ◌+◌, ◌*◌, ◌<◌, ◌≤◌, Bool, true, ◌&&◌, List, length, take, drop, Ok, Err, Result, ◌≢◌, nat_le}
use Rattle.algebra.specs.Laws.{Ops}
use Rattle.algebra.specs.Sums.{sum, at}
use Rattle.algebra.specs.declared.Algebra.{Ghosts as Algebra}
use Rattle.refusal.specs.declared.Refusal.{Refusal}
use Rattle.refusal.specs.declared.Refusal.TheVariants.{Memory}
use Rattle.refusal.specs.Questions.{Question, once}

abbrev pub cell : {E V : Type 0} → V → (E → V) → List E → ℕ → ℕ → ℕ → ℕ → V
cell z f xs d a i j = at z f xs (a + (i * d + j))

abbrev pub means : {E : Type 0} (a : Algebra E) → List E → ℕ → a.Value
means a xs p = at a.ops.zero a.mean xs p

abbrev pub entry : {E : Type 0} (a : Algebra E) → ℕ → List E → ℕ → ℕ → a.Value
entry a d m i j = means a m (i * d + j)

abbrev pub times : {V : Type 0} → Ops V → ℕ → (ℕ → ℕ → V) → (ℕ → ℕ → V) → ℕ → ℕ → V
times o d m n i j = sum o d (λ l. o.mul (m i l) (n l j))

abbrev pub Normal : {E : Type 0} → (E → Bool) → List E → ℕ → Type 0
Normal f xs n = (p : ℕ) → p < n → at true f xs p ≡ true

abbrev pub NormalFrom : {E : Type 0} → (E → Bool) → List E → ℕ → ℕ → Type 0
NormalFrom f xs a n = (p : ℕ) → p < n → at true f xs (a + p) ≡ true

pub record Blocked {E : Type 0} (a : Algebra E) (d n : ℕ) (block : List E) (k : ℕ) : Type 0 where
  pub small : d ≤ 64
  pub few : n ≤ 32
  pub square : length block ≡ d * d
  pub helped : d ≤ k
  pub normal : Normal a.normal block (d * d)

-- column j is the one that was put there, and the other columns are as they were
pub record WithColumn {E V : Type 0} (z : V) (f : E → V) (column : List E) (j d : ℕ) (was now : List E) : Type 0 where
  pub here : (i : ℕ) → i < d → at z f now (i * d + j) ≡ at z f column i
  pub others : (i k : ℕ) → i < d → k < d → (k ≢ j) → at z f now (i * d + k) ≡ at z f was (i * d + k)

pub record IsProduct {E : Type 0} (a : Algebra E) (d : ℕ) (m n now : List E) : Type 0 where
  pub product : (i j : ℕ) → i < d → j < d → entry a d now i j ≡ times a.ops d (entry a d m) (entry a d n) i j
  pub normal : Normal a.normal now (d * d)

-- the matrix at place p is the product of itself and the one after it, in normal form; of the rest only the second matrix may change
pub record Joined {E : Type 0} (a : Algebra E) (d p : ℕ) (was now : List E) : Type 0 where
  pub before : take p now ≡ take p was
  pub after : drop (p + d * d + d * d) now ≡ drop (p + d * d + d * d) was
  pub product : (i j : ℕ) → i < d → j < d → cell a.ops.zero a.mean now d p i j
      ≡ times a.ops d (cell a.ops.zero a.mean was d p) (cell a.ops.zero a.mean was d (p + d * d)) i j
  pub normal : NormalFrom a.normal now p (d * d)

abbrev pub multiplies : ℕ → ℕ → ℕ → Question
multiplies d n k = once (nat_le d 64 && (nat_le d k && nat_le (2 * (d * d)) n)) Memory

-- the product stands in place of the first matrix, and nothing past the second has changed
pub record Product {E : Type 0} (a : Algebra E) (d : ℕ) (was now : List E) : Type 0 where
  pub cells : (i j : ℕ) → i < d → j < d → cell a.ops.zero a.mean now d 0 i j
      ≡ times a.ops d (cell a.ops.zero a.mean was d 0) (cell a.ops.zero a.mean was d (d * d)) i j
  pub rest : drop (2 * (d * d)) now ≡ drop (2 * (d * d)) was

abbrev pub Multiplied : {E : Type 0} (a : Algebra E) → ℕ → List E → List E → Result Unit Refusal → List E → List E → Type 0
Multiplied a d work row (Ok x) work' row' = Product a d work work'
Multiplied a d work row (Err e) work' row' = (work' ≡ work) × (row' ≡ row)
