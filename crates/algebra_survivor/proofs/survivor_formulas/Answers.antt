-- The formulas.
use Rattle.algebra_survivor.proofs.Formulas.{formulas}
use Rattle.algebra_survivor.proofs.survivor_formulas.Goals as goal

pub returns : goal.returns
returns c = formulas
