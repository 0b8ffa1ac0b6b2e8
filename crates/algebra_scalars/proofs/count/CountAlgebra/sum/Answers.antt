use Rattle.std.proofs.Common.{sym}
use Rattle.algebra_scalars.specs.CountsLemmas.{count_formulas_lem}
use Rattle.algebra_scalars.proofs.count.CountAlgebra.sum.Goals as goal

pub returns : goal.returns
returns c = sym (count_formulas_lem.sum c.args.self.0 c.args.other.0)
