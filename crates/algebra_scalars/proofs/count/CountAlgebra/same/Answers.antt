use Rattle.std.proofs.Common.{sym, ap, ◌∙◌, arith}
use Rattle.std.proofs.lemmas.Bool.{eqb-true, eqb-false}
use Rattle.algebra_scalars.specs.Counts.{residue_of}
use Rattle.algebra_scalars.specs.CountsLemmas.{residue_distinct}
use Rattle.algebra_scalars.proofs.count.CountAlgebra.same.Goals as goal

pub returns : goal.returns
returns c = record {
  equal = λ e. ap residue_of (eqb-true _ _ (sym c.eq.ensures ∙ e));
  differ = λ e same. eqb-false _ _ (sym c.eq.ensures ∙ e) (residue_distinct _ _ (omega arith) (omega arith) same);
}
