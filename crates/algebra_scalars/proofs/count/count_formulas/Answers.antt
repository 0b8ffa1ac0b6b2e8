use Rattle.algebra_scalars.specs.CountsLemmas.{count_formulas_lem}
use Rattle.algebra_scalars.proofs.count.count_formulas.Goals as goal

pub returns : goal.returns
returns c = count_formulas_lem
