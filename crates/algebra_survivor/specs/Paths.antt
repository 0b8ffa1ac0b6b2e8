-- The eight laws of survivors: a path is its row, in range or none_row, and the laws are those of rows.
use Rattle.std.specs.Prelude.{◌≡◌, ℕ, ◌+◌, ◌*◌, ◌^◌, Bool, true, false, cond, T, refl}
use Rattle.std.proofs.Common.{sym, ap, ◌∙◌, zero-add, add-zero, one-mul, mul-zero, arith}
use Rattle.std.proofs.Math.Dec.{T_prop}
use Rattle.std.proofs.lemmas.Bool.Decides.{nat_tests}
use Rattle.algebra.specs.Laws.{Laws}
use Rattle.algebra_survivor.specs.declared.Survivor.{Survivor}
use Rattle.algebra_survivor.specs.Survivors.{ranged, Path, none, some, path_if, path, lesser, joined, path_ops, row_ranged, path_of, none_row, normal_of}
use Rattle.algebra_survivor.specs.Rows.{row, least, then, least_comm, least_assoc, then_assoc, then_least, least_then, word_below}

pub true_from : (b : Bool) → T b → b ≡ true
true_from true t = refl
true_from false t = absurd t

pub from_true : (b : Bool) → b ≡ true → T b
from_true true e = tt
from_true false e = absurd (let z : ◌≡◌ {A = ℕ} 0 1 = cc in omega arith)

-- numbers in range are those of a path
pub path_in : (n c w : ℕ) (p : T (ranged n c w)) → path n c w ≡ some n c w p
path_in n c w p = passed (ranged n c w) (λ t. t) p
  where
    passed : (b : Bool) (f : T b → T (ranged n c w)) → T b → path_if n c w b f ≡ some n c w p
    passed true f t = ap (some n c w) (T_prop (ranged n c w) _ _)
    passed false f t = absurd t

-- numbers out of range are those of none
pub path_out : (n c w : ℕ) → ranged n c w ≡ false → path n c w ≡ none
path_out n c w e = failed (ranged n c w) (λ t. t) e
  where
    failed : (b : Bool) (f : T b → T (ranged n c w)) → b ≡ false → path_if n c w b f ≡ none
    failed true f e = absurd (let z : ◌≡◌ {A = ℕ} 0 1 = cc in omega arith)
    failed false f e = refl

-- the row of a path
abbrev pub row_of : Path → Survivor
row_of none = none_row
row_of (some n c w p) = row n c w

pub row_of_path : (r : Survivor) → row_of (path_of r) ≡ normal_of r
row_of_path r = by_test (row_ranged r) (λ t. t)
  where
    by_test : (b : Bool) (f : T b → T (row_ranged r)) → row_of (path_if r.length r.cost r.word b f) ≡ cond b r none_row
    by_test true f = refl
    by_test false f = refl

pub path_of_row : (a : Path) → path_of (row_of a) ≡ a
path_of_row none = refl
path_of_row (some n c w p) = path_in n c w p

-- paths of one row are one path
pub same_row : (a b : Path) → row_of a ≡ row_of b → a ≡ b
same_row a b e = sym (path_of_row a) ∙ ap path_of e ∙ path_of_row b

pub row_of_lesser : (a b : Path) → row_of (lesser a b) ≡ least (row_of a) (row_of b)
row_of_lesser none none = refl
row_of_lesser none (some m d z q) = let t = true_from (ranged m d z) q in grind (arith, nat_tests)
row_of_lesser (some n c w p) none = let t = true_from (ranged n c w) p in grind (arith, nat_tests)
row_of_lesser (some n c w p) (some m d z q) = grind (arith, nat_tests)

pub row_of_joined : (a b : Path) → row_of (joined a b) ≡ then (row_of a) (row_of b)
row_of_joined none none = refl
row_of_joined none (some m d z q) = grind (arith, nat_tests)
row_of_joined (some n c w p) none = grind (arith, nat_tests)
row_of_joined (some n c w p) (some m d z q) =
    let t = true_from (ranged n c w) p in
    let u = true_from (ranged m d z) q in
    row_of_path (row (n + m) (c + d) (w + 2 ^ n * z)) ∙ grind (arith, nat_tests, word_below n m w z)

one_joined : (a : Path) → joined path_ops.one a ≡ a
one_joined none = refl
one_joined (some n c w p) = simp (zero-add, one-mul) (path_in n c w p)

joined_one : (a : Path) → joined a path_ops.one ≡ a
joined_one none = refl
joined_one (some n c w p) = simp (add-zero, mul-zero) (path_in n c w p)

joined_none : (a : Path) → joined a none ≡ none
joined_none none = refl
joined_none (some n c w p) = refl

pub path_laws : Laws path_ops
path_laws = record {
  add_assoc = λ a b c. same_row _ _ (simp row_of_lesser (least_assoc (row_of a) (row_of b) (row_of c)));
  add_comm = λ a b. same_row _ _ (simp row_of_lesser (least_comm (row_of a) (row_of b)));
  zero-add = λ a. refl;
  mul_assoc = λ a b c. same_row _ _ (simp row_of_joined (then_assoc (row_of a) (row_of b) (row_of c)));
  one-mul = one_joined;
  mul-one = joined_one;
  mul-add = λ a b c. same_row _ _ (simp (row_of_lesser, row_of_joined) (then_least (row_of a) (row_of b) (row_of c)));
  add-mul = λ a b c. same_row _ _ (simp (row_of_lesser, row_of_joined) (least_then (row_of a) (row_of b) (row_of c)));
  zero-mul = λ a. refl;
  mul-zero = joined_none;
}
