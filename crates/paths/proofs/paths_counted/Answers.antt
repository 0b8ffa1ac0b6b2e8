-- The counting theorem, from its two halves.
use Rattle.paths.proofs.Counts.{counted}
use Rattle.paths.proofs.Lists.{listed}
use Rattle.paths.proofs.paths_counted.Goals as goal

pub returns : goal.returns
returns g c = (counted c, listed c)
