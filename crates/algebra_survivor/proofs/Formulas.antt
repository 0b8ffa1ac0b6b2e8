-- The formulas of survivors follow from what is in range and what is not.
use Rattle.std.proofs.Common.{◌≡◌, ℕ, ◌+◌, ◌*◌, ◌^◌, Bool, true, false, T, ◌⊎◌, sym, refl, ap, ◌∙◌, inl, inr, arith}
use Rattle.std.proofs.lemmas.Bool.Decides.{nat_tests}
use Rattle.algebra_survivor.specs.declared.Survivor.{Survivor}
use Rattle.algebra_survivor.specs.Survivors.{ranged, Path, none, some, path, before, lesser, joined, path_of}
use Rattle.algebra_survivor.specs.Formulas.{Within, Chosen, Formulas}
use Rattle.algebra_survivor.specs.Rows.{word_below}
use Rattle.algebra_survivor.specs.Paths.{true_from, from_true, path_in, path_out, row_of, row_of_path, path_laws}

pub within : (n c w : ℕ) → Within n c w → T (ranged n c w)
within n c w h = from_true (ranged n c w) (grind (arith, nat_tests))

pub within_from : (n c w : ℕ) → T (ranged n c w) → Within n c w
within_from n c w p = let t = true_from (ranged n c w) p in (grind (arith, nat_tests), grind (arith, nat_tests), grind (arith, nat_tests))

-- numbers in range are those of a path
pub path_within : (n c w : ℕ) (h : Within n c w) → path n c w ≡ some n c w (within n c w h)
path_within n c w h = path_in n c w (within n c w h)

-- numbers out of range are those of none
pub path_outside : (n c w : ℕ) → (Within n c w → ⊥) → path n c w ≡ none
path_outside n c w h = path_out n c w (failed (ranged n c w) refl)
  where
    failed : (b : Bool) → ranged n c w ≡ b → b ≡ false
    failed true e = absurd (h (within_from n c w (from_true _ e)))
    failed false e = refl

-- rows in range that mean one path are one row
pub path_numbers : (r s : Survivor) → Within r.length r.cost r.word → Within s.length s.cost s.word → path_of r ≡ path_of s → r ≡ s
path_numbers r s h k e = let rows = sym (row_of_path r) ∙ ap row_of e ∙ row_of_path s in grind (arith, nat_tests)

every : (a : Path) → (a ≡ none) ⊎ ((n : ℕ) × (c : ℕ) × (w : ℕ) × Within n c w × (a ≡ path n c w))
every none = inl refl
every (some n c w p) = inr (n, c, w, within_from n c w p, sym (path_in n c w p))

-- the sum is the path that the other does not come before
pub chosen : (n c w m d z : ℕ) → Within n c w → Within m d z → before m d z n c w ≡ false → Chosen (path n c w) (path m d z)
chosen n c w m d z h k e =
    let first : lesser (path n c w) (path m d z) ≡ path n c w = rw (path_within n c w h, path_within m d z k, e) in
    (first, path_laws.add_comm (path m d z) (path n c w) ∙ first)

pub joined_within : (n c w m d z : ℕ) → Within n c w → Within m d z → joined (path n c w) (path m d z) ≡ path (n + m) (c + d) (w + 2 ^ n * z)
joined_within n c w m d z h k = rw (path_within n c w h, path_within m d z k)

lesser_none : (a : Path) → lesser a none ≡ a
lesser_none none = refl
lesser_none (some n c w p) = refl

pub formulas : Formulas
formulas = record {
  row_within = λ r h. (within _ _ _ h, path_within _ _ _ h);
  row_outside = λ r h. path_outside _ _ _ h;
  row_numbers = λ r s h k e. let same = path_numbers r s h k e in (ap (λ t. t.length) same, ap (λ t. t.cost) same, ap (λ t. t.word) same);
  every_path = every;
  sum_shorter = λ n c w m d z h k l. chosen n c w m d z h k (grind (arith, nat_tests));
  sum_cheaper = λ n c w d z h k l. chosen n c w n d z h k (grind (arith, nat_tests));
  sum_lower = λ n c w z h k l. chosen n c w n c z h k (grind (arith, nat_tests));
  sum_none = λ a. (lesser_none a, refl);
  product_within = λ n c w m d z h k l. ((omega arith, omega arith, word_below n m w z h.2 k.2), joined_within n c w m d z h k);
  product_outside = λ n c w m d z h k l. joined_within n c w m d z h k ∙ path_outside (n + m) (c + d) (w + 2 ^ n * z) (λ t. omega arith);
  product_none = λ a. (path_laws.mul-zero a, refl);
  zero_is = refl;
  one_is = refl;
}
