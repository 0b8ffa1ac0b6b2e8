-- What a survivor says of the paths between two states.
--   word c s us            the bits that the input bits us drop from state s, the earliest lowest
--   Lower a w b z          cost a with word w is not above cost b with word z: no dearer, and where as dear, of no higher word
--   Survives c i j ys v    v is none where no path over ys leads from i to j; else its length is theirs, its cost the least of theirs,
--                          and its word the least among the paths of that cost
--   block_symbols zs t     the symbols of a block, of which zs has the one at each place
--   trellis c y            the matrix of the symbol y, in survivors
--   SurvivorsBest          however the symbols of a block are bracketed, each entry of its matrix is the survivor of the paths
use Rattle.std.specs.Prelude.{◌≡◌, ℕ, ◌+◌, ◌*◌, ◌%◌, ◌<◌, ◌≤◌, true, List, [], ◌∷◌, map, length, slice_index}
use Rattle.std.specs.List.{AllByRecursion}
use Rattle.algebra_survivor.specs.Survivors.{Path, none, some, path_of, path_ops}
use Rattle.code.specs.declared.description.Code.{Code}
use Rattle.code.specs.Codes.{states, next}
use Rattle.code.specs.Symbols.{accepted}
use Rattle.plan.specs.Plans.{Tree, places, size}
use Rattle.engine.specs.Blocks.{chosen, product}
use Rattle.recursion_trellis.specs.Survivors.{survivor_entry}
use Rattle.frame_paths.specs.Paths.{costs, Leads}

abbrev pub word : Code → ℕ → List ℕ → ℕ
word c s [] = 0
word c s (u ∷ us) = s % 2 + 2 * word c (next c s u) us

abbrev pub Lower : ℕ → ℕ → ℕ → ℕ → Type 0
Lower a w b z = (a ≤ b) × (a ≡ b → w ≤ z)

abbrev pub Survives : Code → ℕ → ℕ → List ℕ → Path → Type 0
Survives c i j ys none = (us : List ℕ) → Leads c i ys j us → ⊥
Survives c i j ys (some n a w p) =
    (n ≡ length ys)
    × ((us : List ℕ) × Leads c i ys j us × (costs c i ys us ≡ a) × (word c i us ≡ w))
    × ((vs : List ℕ) → Leads c i ys j vs → Lower a w (costs c i ys vs) (word c i vs))

abbrev pub block_symbols : List ℕ → Tree → List ℕ
block_symbols zs t = map (λ p. slice_index zs p) (places t)

abbrev pub trellis : Code → ℕ → ℕ → ℕ → Path
trellis c y i j = path_of (survivor_entry c y i j)

abbrev pub SurvivorsBest : Type 0
SurvivorsBest =
    (c : Code) (zs : List ℕ) (t : Tree) → size t ≤ 32 → AllByRecursion (λ y. accepted y ≡ true) (block_symbols zs t) → (i j : ℕ) → i < states c → j < states c
    → Survives c i j (block_symbols zs t) (product path_ops (states c) (chosen (trellis c) zs) t i j)
