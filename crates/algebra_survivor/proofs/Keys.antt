-- The product that is made of the keys of normal rows, without a test of their ranges, is the product of their paths.
use Rattle.std.proofs.Common.{◌≡◌, ℕ, ◌+◌, ◌*◌, ◌/◌, ◌%◌, ◌^◌, ◌<◌, ◌≤◌, true, sym, ap, ◌∙◌, mul_comm, arith}
use Rattle.std.proofs.lemmas.Bool.Decides.{nat_tests}
use Rattle.algebra_survivor.specs.declared.Survivor.{Survivor}
use Rattle.algebra_survivor.specs.Survivors.{longest, joined, row_ranged, path_of, normal_row, key_of}
use Rattle.algebra_survivor.specs.Rows.{row, word_below, word_fits}
use Rattle.algebra_survivor.specs.Paths.{path_in, from_true}

-- r is made of the keys of a and b: the high parts are added, and the word of b, shifted by the length of a
pub record Made (a b r : Survivor) : Type 0 where
  pub costs : (a.cost < 2 ^ 16) × (b.cost < 2 ^ 16) × (r.cost < 2 ^ 16)
  pub words : (a.word < 2 ^ 32) × (r.word < 2 ^ 32)
  pub high : ℕ
  pub high_is : high ≡ (key_of a + key_of (row b.length b.cost 0)) % 2 ^ 64
  pub short : high / 2 ^ 48 ≤ longest
  pub shifted : ℕ
  pub shifted_is : shifted ≡ (b.word * 2 ^ (a.length % 64)) % 2 ^ 64
  pub key_is : key_of r ≡ (high + shifted) % 2 ^ 64

module _ (a b r : Survivor) (m : Made a b r) (p : normal_row a ≡ true) (q : normal_row b ≡ true) where
  left : row_ranged a ≡ true
  left = grind (arith, nat_tests)

  right : row_ranged b ≡ true
  right = grind (arith, nat_tests)

  short_sum : a.length + b.length ≤ longest
  short_sum = grind (arith, nat_tests, left, right)

  below : a.word + 2 ^ a.length * b.word < 2 ^ longest
  below = grind (arith, nat_tests, left, right, short_sum, word_fits a.length b.length a.word b.word)

  word_is : m.shifted ≡ 2 ^ a.length * b.word
  word_is =
      let whole : a.length % 64 ≡ a.length = omega (arith, short_sum) in
      m.shifted_is ∙ rw (whole, mul_comm b.word (2 ^ a.length)) (omega (arith, below))

  row_is : r ≡ row (a.length + b.length) (a.cost + b.cost) (a.word + 2 ^ a.length * b.word)
  row_is = grind (arith, nat_tests, left, right, short_sum, below, word_is)

  pub joined_value : path_of r ≡ joined (path_of a) (path_of b)
  joined_value =
      ap path_of row_is
      ∙ sym (rw (path_in a.length a.cost a.word (from_true _ left), path_in b.length b.cost b.word (from_true _ right)))

  pub joined_normal : normal_row r ≡ true
  joined_normal = ap normal_row row_is ∙ grind (arith, nat_tests, left, right, short_sum, word_below a.length b.length a.word b.word)
