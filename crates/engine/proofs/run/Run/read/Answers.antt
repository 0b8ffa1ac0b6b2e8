-- A read answers the element, or 9 past the state's end, and so for every history.
use Rattle.std.proofs.Common.{◌≡◌, false, ◌&&◌, ltb, length, Ok, Err, sym, ap, ◌∙◌, arith}
use Rattle.std.proofs.lemmas.Bool.Decides.{nat_tests}
use Rattle.refusal.specs.declared.Refusal.TheVariants.{Place}
use Rattle.engine.proofs.Serves.{looked_past, looked_at, read_serves}
use Rattle.engine.proofs.run.Run.read.Goals as goal

pub returns-then-place-min : goal.returns-then-place-min
returns-then-place-min g c =
    let a = g.E.Algebra in
    let run = c.args.self.now in
    let i = c.args.place in
    let least = c.min.ensures in
    let past : (ltb i run.size && ltb i (length run.state.now)) ≡ false = grind (arith, nat_tests) in
    let e = looked_past a run i past in
    record { answer = e; serves = read_serves a run i (Err Place) e }

pub returns : goal.returns
returns g c =
    let a = g.E.Algebra in
    let run = c.args.self.now in
    let i = c.args.place in
    let e = looked_at a run i (omega arith) (omega arith) ∙ ap Ok (sym c.pick.ensures) in
    record { answer = e; serves = read_serves a run i (Ok c.pick.result) e }
