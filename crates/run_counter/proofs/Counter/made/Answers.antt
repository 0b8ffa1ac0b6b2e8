-- A run that can be read at state 0 was made.
use Rattle.std.proofs.Common.{◌≡◌, rules}
use Rattle.run_counter.specs.Counter.{made}
use Rattle.run_counter.proofs.Begins.{made_room}
use Rattle.run_counter.proofs.Counter.made.Goals as goal

pub returns : goal.returns
returns c = let e : c.map_err.result ≡ made c.args.self.now = search rules in record { answer = e; room = made_room c.args.self.now c.map_err.result e }
