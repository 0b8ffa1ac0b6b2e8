-- The formulas of survivors, in plain numbers.
--   Within n c w    length n, cost c and word w are in range
--   Chosen a b      the sum of a and b, in either order, is a
--   Formulas        what rows mean, and the sum, the product, zero and one of paths
use Rattle.std.specs.Prelude.{◌≡◌, ℕ, ◌+◌, ◌*◌, ◌^◌, ◌<◌, ◌≤◌, T, ◌⊎◌}
use Rattle.algebra_survivor.specs.declared.Survivor.{Survivor}
use Rattle.algebra_survivor.specs.Survivors.{step_cost, ranged, Path, none, some, path, path_of, path_ops}

abbrev pub Within : ℕ → ℕ → ℕ → Type 0
Within n c w = (n ≤ 32) × (c ≤ step_cost * n) × (w < 2 ^ n)

abbrev pub Chosen : Path → Path → Type 0
Chosen a b = (path_ops.add a b ≡ a) × (path_ops.add b a ≡ a)

pub record Formulas : Type 0 where
  -- a row in range means its three numbers
  pub row_within : (r : Survivor) → Within r.length r.cost r.word
      → (p : T (ranged r.length r.cost r.word)) × (path_of r ≡ some r.length r.cost r.word p)
  -- any other row means none
  pub row_outside : (r : Survivor) → (Within r.length r.cost r.word → ⊥) → path_of r ≡ none
  -- rows in range mean the same only if their numbers are equal
  pub row_numbers : (r s : Survivor) → Within r.length r.cost r.word → Within s.length s.cost s.word → path_of r ≡ path_of s
      → (r.length ≡ s.length) × (r.cost ≡ s.cost) × (r.word ≡ s.word)
  -- every path is none or three numbers in range
  pub every_path : (a : Path) → (a ≡ none) ⊎ ((n : ℕ) × (c : ℕ) × (w : ℕ) × Within n c w × (a ≡ path n c w))
  -- the sum is the shorter path, of equal lengths the cheaper, of equal costs the one of the lower word; none comes last
  pub sum_shorter : (n c w m d z : ℕ) → Within n c w → Within m d z → n < m → Chosen (path n c w) (path m d z)
  pub sum_cheaper : (n c w d z : ℕ) → Within n c w → Within n d z → c < d → Chosen (path n c w) (path n d z)
  pub sum_lower : (n c w z : ℕ) → Within n c w → Within n c z → w ≤ z → Chosen (path n c w) (path n c z)
  pub sum_none : (a : Path) → Chosen a none
  -- lengths and costs add, and the later word stands above the earlier; a path longer than 32 is none
  pub product_within : (n c w m d z : ℕ) → Within n c w → Within m d z → n + m ≤ 32
      → Within (n + m) (c + d) (w + 2 ^ n * z) × (path_ops.mul (path n c w) (path m d z) ≡ path (n + m) (c + d) (w + 2 ^ n * z))
  pub product_outside : (n c w m d z : ℕ) → Within n c w → Within m d z → 32 < n + m → path_ops.mul (path n c w) (path m d z) ≡ none
  pub product_none : (a : Path) → (path_ops.mul a none ≡ none) × (path_ops.mul none a ≡ none)
  -- zero is none, and one is the path without a step
  pub zero_is : path_ops.zero ≡ none
  pub one_is : path_ops.one ≡ path 0 0 0
