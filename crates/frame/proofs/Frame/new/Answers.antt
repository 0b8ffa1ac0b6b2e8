-- A fresh frame keeps the history law.
use Rattle.std.proofs.Common.{refl}
use Rattle.frame.proofs.Wholes.{whole, counted, alike}
use Rattle.frame.proofs.Frame.new.Goals as goal

pub returns : goal.returns
returns c =
    let e = c.fresh.ensures in
    record {
      code = refl;
      steps = refl;
      rows = e.rows;
      start = e.start;
      others = e.others;
      whole = whole c.args.code _ refl refl e.rows e.start e.others;
      counted = counted c.args.code _ refl refl e.rows e.start e.others;
      alike = alike c.args.code;
    }
