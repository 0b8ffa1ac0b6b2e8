-- The two halves of the pair are matrices in normal form.
use Rattle.std.proofs.Common.{◌+◌, true, ap, ◌∙◌, arith}
use Rattle.algebra.specs.Sums.{at}
use Rattle.algebra.proofs.Places.{at_drop, at_take}
use Rattle.engine.proofs.matrix.join_pair.Goals as goal

pub invariant_of-left : goal.invariant_of-left
invariant_of-left g c =
    let f = g.E.Algebra.normal in
    let n = c.elements.result in
    let is = c.elements.ensures in
    let cut = c.split_at_mut-first.ensures in
    record {
      square = cut.front_len ∙ is;
      normal = λ p h. ap (λ xs. at true f xs p) cut.front ∙ at_take true f n c.args.pair.now p (omega arith) ∙ c.requires.normal p (omega arith);
    }

pub invariant_of-right : goal.invariant_of-right
invariant_of-right g c =
    let f = g.E.Algebra.normal in
    let n = c.elements.result in
    let is = c.elements.ensures in
    let cut = c.split_at_mut-first.ensures in
    record {
      square = omega (arith, cut.back_len);
      normal = λ p h. ap (λ xs. at true f xs p) cut.back ∙ at_drop true f n c.args.pair.now p ∙ c.requires.normal (n + p) (omega arith);
    }
