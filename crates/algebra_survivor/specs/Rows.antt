-- The laws of the lesser and of the joined of two rows, where none_row, which is longer than any path, stands for none.
use Rattle.std.specs.Prelude.{◌≡◌, ℕ, ◌+◌, ◌*◌, ◌^◌, ◌<◌, ◌≤◌, Bool, true, false, cond, nat_le, refl}
use Rattle.std.proofs.Common.{arith, mul-le-mul_left, pow_pos, pow-add, pow_mono}
use Rattle.std.proofs.Math.Nat.{mul-lt-mul_of_pos_left}
use Rattle.std.proofs.lemmas.Bool.Decides.{nat_tests}
use Rattle.algebra_survivor.specs.declared.Survivor.{Survivor}
use Rattle.algebra_survivor.specs.Survivors.{longest, before, none_row}

abbrev pub row : ℕ → ℕ → ℕ → Survivor
row n c w = record { word = w; cost = c; length = n }

abbrev pub row_before : Survivor → Survivor → Bool
row_before a b = before a.length a.cost a.word b.length b.cost b.word

abbrev pub least : Survivor → Survivor → Survivor
least a b = cond (row_before b a) b a

abbrev pub then : Survivor → Survivor → Survivor
then a b = cond (nat_le (a.length + b.length) longest) (row (a.length + b.length) (a.cost + b.cost) (a.word + 2 ^ a.length * b.word)) none_row

pub least_comm : (a b : Survivor) → least a b ≡ least b a
least_comm a b = grind (arith, nat_tests)

assoc_by : (a b c : Survivor) (p q : Bool) → row_before b a ≡ p → row_before c b ≡ q → least (least a b) c ≡ least a (least b c)
assoc_by a b c true true p q = grind (arith, nat_tests)
assoc_by a b c true false p q = grind (arith, nat_tests)
assoc_by a b c false true p q = grind (arith, nat_tests)
assoc_by a b c false false p q = grind (arith, nat_tests)

pub least_assoc : (a b c : Survivor) → least (least a b) c ≡ least a (least b c)
least_assoc a b c = assoc_by a b c _ _ refl refl

-- a word over a word over a word
words : (n m z y : ℕ) → 2 ^ n * (z + 2 ^ m * y) ≡ 2 ^ n * z + 2 ^ (n + m) * y
words n m z y = rw (pow-add 2 n m) (omega arith)

pub then_assoc : (a b c : Survivor) → then (then a b) c ≡ then a (then b c)
then_assoc a b c = grind (arith, nat_tests, words a.length b.length b.word c.word)

-- the order of two words is their order above another
above : (n z y : ℕ) → z < y → 2 ^ n * z < 2 ^ n * y
above n z y h = mul-lt-mul_of_pos_left h (pow_pos n)

pub then_least : (a b c : Survivor) → then a (least b c) ≡ least (then a b) (then a c)
then_least a b c = grind (arith, nat_tests, above a.length b.word c.word, above a.length c.word b.word)

pub least_then : (a b c : Survivor) → then (least b c) a ≡ least (then b a) (then c a)
least_then a b c = grind (arith, nat_tests)

-- a word of m bits above one of n bits
pub word_below : (n m w z : ℕ) → w < 2 ^ n → z < 2 ^ m → w + 2 ^ n * z < 2 ^ (n + m)
word_below n m w z p q = rw (pow-add 2 n m) (omega (arith, mul-le-mul_left (2 ^ n) q))

pub word_fits : (n m w z : ℕ) → w < 2 ^ n → z < 2 ^ m → n + m ≤ longest → w + 2 ^ n * z < 2 ^ longest
word_fits n m w z p q s = omega (arith, word_below n m w z p q, pow_mono s)
