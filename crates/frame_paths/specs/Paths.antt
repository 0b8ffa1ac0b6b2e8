-- Paths through the trellis of a code, what they cost, and which of them is decoded. A path is a list of input bits, one for each
-- symbol.
--   costs c s ys us      what the input bits us cost from state s over the symbols ys: the sum over their branches
--   Leads c i ys j us    us is a path over the symbols ys from state i to state j
--   Reaches c ys j us    us is a path over the symbols ys from state 0 to state j
--   LatestZero us vs     us has the 0 and vs the 1 at the latest input bit where they differ
--   Cheapest c ys j us   us is the path that is decoded: every other path over ys from state 0 to state j costs at least as much, and
--                        against each of equal cost us has the 0 at the latest input bit where they differ
--   OneCheapest          there is one such path at most
use Rattle.std.specs.Prelude.{◌≡◌, ℕ, ◌+◌, ◌<◌, ◌≤◌, List, [], ◌∷◌, length, ◌≢◌, slice_index, slice_index_or}
use Rattle.code.specs.declared.description.Code.{Code}
use Rattle.code.specs.Codes.{register_of, next}
use Rattle.code.specs.Symbols.{branch_cost}
use Rattle.paths.specs.Paths.{Bits, end}

abbrev pub costs : Code → ℕ → List ℕ → List ℕ → ℕ
costs c s [] us = 0
costs c s (y ∷ ys) [] = 0
costs c s (y ∷ ys) (u ∷ us) = branch_cost c y (register_of c s u) + costs c (next c s u) ys us

pub record Leads (c : Code) (i : ℕ) (ys : List ℕ) (j : ℕ) (us : List ℕ) : Type 0 where
  pub bits : Bits us
  pub as_long : length us ≡ length ys
  pub there : end c i us ≡ j

abbrev pub Reaches : Code → List ℕ → ℕ → List ℕ → Type 0
Reaches c ys j us = Leads c 0 ys j us

pub record LatestZero (us vs : List ℕ) : Type 0 where
  pub place : ℕ
  pub within : place < length us
  pub has_zero : slice_index_or us place 0 ≡ 0
  pub has_one : slice_index_or vs place 0 ≡ 1
  pub same_after : (k : ℕ) → place < k → k < length us → slice_index us k ≡ slice_index vs k

pub record Cheapest (c : Code) (ys : List ℕ) (j : ℕ) (us : List ℕ) : Type 0 where
  pub reaches : Reaches c ys j us
  pub least : (vs : List ℕ) → Reaches c ys j vs → (us ≢ vs)
      → (costs c 0 ys us ≤ costs c 0 ys vs) × (costs c 0 ys us ≡ costs c 0 ys vs → LatestZero us vs)

abbrev pub OneCheapest : Type 0
OneCheapest = (c : Code) (ys : List ℕ) (j : ℕ) (us vs : List ℕ) → Cheapest c ys j us → Cheapest c ys j vs → us ≡ vs
