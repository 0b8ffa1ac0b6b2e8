-- Sums of tallies.
--   Together a b r   r has the cases of both, and those that agreed; a count stays at its largest number
use Rattle.std.specs.Prelude.{◌≡◌, ◌+◌, ◌-◌, ◌^◌, min}
use Rattle.vectors.specs.declared.tally.Tally.{Tally}

pub record Together (a b r : Tally) : Type 0 where
  pub cases : r.cases ≡ min (a.cases + b.cases) (2 ^ 32 - 1)
  pub agreed : r.agreed ≡ min (a.agreed + b.agreed) (2 ^ 32 - 1)
