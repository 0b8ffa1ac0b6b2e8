use Rattle.std.proofs.Common.{sym}
use Rattle.algebra_scalars.specs.CountsLemmas.{count_formulas_lem}
use Rattle.algebra_scalars.proofs.count.CountAlgebra.product.Goals as goal

pub returns : goal.returns
returns c = sym (count_formulas_lem.product c.args.self.0 c.args.other.0)
