-- What letter a does to the metrics and to the store.
--   entries matrix d i j   what the element (i, j) of a matrix of size d means, none past its end
--   Selected               each state below d has the least total that it is offered, and the store one row more: the number of symbols
--                          and each state's word. Nothing else has changed
--   Applies                the same, as what a block does to a target with a lent buffer
--   Selects                the same, where there is room for a row, the matrix has the size d, d is at most 64, a block of so many symbols
--                          is at most 32 long, and the matrix is in normal form
use Rattle.std.specs.Prelude.{◌≡◌, ℕ, ◌+◌, ◌*◌, ◌<◌, ◌≤◌, true, List, length, take, drop, slice_index, slice_index_or}
use Rattle.algebra.specs.Sums.{at}
use Rattle.algebra_survivor.specs.declared.Survivor.{Survivor}
use Rattle.algebra_survivor.specs.Survivors.{Path, none, normal_row, path_of}
use Rattle.engine.specs.Matrices.{Normal}
use Rattle.frame_paths.specs.Choices.{Gets}
use Rattle.frame_rows.specs.Traces.{state_total}
use Rattle.frame_metrics.specs.declared.metrics.Metrics.{Metrics}
use Rattle.frame_metrics.specs.Totals.{has_room}

abbrev pub entries : List Survivor → ℕ → ℕ → ℕ → Path
entries matrix d i j = at none path_of matrix (i * d + j)

pub record Selected (d symbols : ℕ) (m : ℕ → ℕ → Path) (was is : Metrics) (store store' : List ℕ) : Type 0 where
  pub counted : is.rows ≡ was.rows + 1
  -- a state gets its total, and its word stands in the row
  pub gets : (j : ℕ) → j < d → Gets d (state_total was.totals) m j (state_total is.totals j) (slice_index store' (was.rows * (1 + d) + (1 + j)))
  pub steps : slice_index_or store' (was.rows * (1 + d)) 0 ≡ symbols
  pub before : take (was.rows * (1 + d)) store' ≡ take (was.rows * (1 + d)) store
  pub after : drop ((was.rows + 1) * (1 + d)) store' ≡ drop ((was.rows + 1) * (1 + d)) store
  pub others : (j : ℕ) → d ≤ j → state_total is.totals j ≡ state_total was.totals j

abbrev pub Selects : ℕ → ℕ → List Survivor → Metrics → Metrics → List ℕ → List ℕ → Type 0
Selects d symbols matrix was is store store' =
    has_room was.rows d (length store) 1 ≡ true → d ≤ 64 → length matrix ≡ d * d → symbols ≤ 32 → Normal normal_row matrix (d * d)
    → Selected d symbols (entries matrix d) was is store store'

abbrev pub Applies : Metrics → List ℕ → ℕ → ℕ → List Survivor → Metrics → List ℕ → Type 0
Applies was store d symbols matrix is store' = Selected d symbols (entries matrix d) was is store store'
