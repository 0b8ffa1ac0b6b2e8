-- The text of each arm is the name of the code that it makes.
use Rattle.std.proofs.Common.{Ok, sym, refl, ap, ◌∙◌}
use Rattle.code.specs.Codes.{k3, k7, named}
use Rattle.code.proofs.Codes.{same_code}
use Rattle.code.proofs.by_name.Goals as goal

pub returns-in-k3 : goal.returns-in-k3
returns-in-k3 c = ap Ok (same_code _ k3 refl refl refl) ∙ sym (ap named c.in-k3.is)

pub returns-in-k7 : goal.returns-in-k7
returns-in-k7 c = ap Ok (same_code _ k7 refl refl refl) ∙ sym (ap named c.in-k7.is)
