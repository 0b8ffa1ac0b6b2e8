use Rattle.std.proofs.Common.{sym}
use Rattle.algebra.proofs.Places.{at_read}
use Rattle.engine.proofs.run.pick.Goals as goal

pub returns : goal.returns
returns g c = sym (at_read g.E.Algebra.ops.zero g.E.Algebra.mean c.args.xs.now _ _ c.requires c.index-xs-place.is)
