-- The two matrices are a part of the work area.
use Rattle.std.proofs.Common.{true, ◌∙◌, arith}
use Rattle.algebra.proofs.Places.{at_part}
use Rattle.engine.proofs.Joins.{joined}
use Rattle.engine.proofs.matrix.join.Goals as goal

pub join_pair-requires-clause-normal : goal.join_pair-requires-clause-normal
join_pair-requires-clause-normal g c p h =
    at_part true g.E.Algebra.normal c.args.a _ c.args.work.now p (omega (arith, c.elements.ensures)) ∙ c.requires.normal_from p (omega arith)

pub returns : goal.returns
returns g c = joined g.E.Algebra c.args.size.rows c.args.a _ c.args.work.now c.join_pair.new.pair (omega (arith, c.elements.ensures)) (omega (arith, c.elements.ensures)) (omega (arith, c.elements.ensures, c.join_pair.auto.pair)) c.join_pair.ensures
