-- Survivors: paths from one state to another, of which the least survives.
--   longest               the greatest length of a path
--   step_cost             the highest cost of one step
--   ranged n c w          whether length n, cost c and word w are in range
--   Path                  none, or a path of three numbers (n, c, w) in range
--   path_if n c w b f     the path (n, c, w) where the test b is passed, from which f shows its range, else none
--   path n c w            the path (n, c, w), and none where the numbers are out of range
--   before n c w m d z    whether (n, c, w) comes before (m, d, z): shorter, else cheaper, else of the lower word
--   lesser a b            the one of two paths that comes first; none comes after everything
--   joined a b            path a and then path b, whose word stands above the word of a; none where that is too long
--   path_ops              the algebra of paths
--   row_ranged r          whether the three numbers of a row are in range
--   path_of r             the path that a row means
--   none_row              the row that the code makes for none
--   normal_of r           the row itself where it is in range, else none_row
--   normal_row r          whether a row is in range or as long as none_row
--   key_of r              the three numbers of a row as one
use Rattle.std.specs.Prelude.{ℕ, ◌+◌, ◌*◌, ◌^◌, Bool, true, false, cond, ◌&&◌, ◌||◌, T, ◌==◌, nat_le, nat_lt}
use Rattle.algebra.specs.Laws.{Ops}
use Rattle.algebra_survivor.specs.declared.Survivor.{Survivor}

abbrev pub longest : ℕ
longest = 32

abbrev pub step_cost : ℕ
step_cost = 14

abbrev pub ranged : ℕ → ℕ → ℕ → Bool
ranged n c w = nat_le n longest && (nat_le c (step_cost * n) && nat_lt w (2 ^ n))

pub data Path : Type 0 where
  none : Path
  some : (n c w : ℕ) → T (ranged n c w) → Path

abbrev pub path_if : (n c w : ℕ) (b : Bool) → (T b → T (ranged n c w)) → Path
path_if n c w true f = some n c w (f tt)
path_if n c w false f = none

abbrev pub path : ℕ → ℕ → ℕ → Path
path n c w = path_if n c w (ranged n c w) (λ t. t)

abbrev pub before : ℕ → ℕ → ℕ → ℕ → ℕ → ℕ → Bool
before n c w m d z = nat_lt n m || (n == m && (nat_lt c d || (c == d && nat_lt w z)))

abbrev pub lesser : Path → Path → Path
lesser none b = b
lesser (some n c w p) none = some n c w p
lesser (some n c w p) (some m d z q) = cond (before m d z n c w) (some m d z q) (some n c w p)

abbrev pub joined : Path → Path → Path
joined none b = none
joined (some n c w p) none = none
joined (some n c w p) (some m d z q) = path (n + m) (c + d) (w + 2 ^ n * z)

abbrev pub path_ops : Ops Path
path_ops = record { zero = none; one = path 0 0 0; add = lesser; mul = joined }

abbrev pub row_ranged : Survivor → Bool
row_ranged r = ranged r.length r.cost r.word

abbrev pub path_of : Survivor → Path
path_of r = path r.length r.cost r.word

abbrev pub none_row : Survivor
none_row = record { word = 0; cost = 0; length = 64 }

abbrev pub normal_of : Survivor → Survivor
normal_of r = cond (row_ranged r) r none_row

abbrev pub normal_row : Survivor → Bool
normal_row r = row_ranged r || r.length == none_row.length

abbrev pub key_of : Survivor → ℕ
key_of r = r.length * 2 ^ 48 + (r.cost * 2 ^ 32 + r.word)
