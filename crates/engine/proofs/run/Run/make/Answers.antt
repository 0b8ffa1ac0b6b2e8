-- A run that was just made is fresh, and every history from it on is that of single steps.
use Rattle.std.proofs.Common.{refl, arith}
use Rattle.engine.proofs.Serves.{made_holds, whole}
use Rattle.engine.proofs.run.Run.make.Goals as goal

pub returns : goal.returns
returns g c =
    let h = made_holds g.E.Algebra (g.R.Recursion.dim c.args.r.now) (record { state = c.args.self.now.state; size = c.size-d.result; taken = 0 }) c.size-d.ensures refl (omega (arith, c.size-d.ensures)) in
    record { over = refl; made = (omega (arith, c.size-d.ensures), refl, h, whole g.E.Algebra _ _ h) }
