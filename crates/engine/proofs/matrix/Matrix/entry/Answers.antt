-- The element at the entry's place.
use Rattle.std.proofs.Common.{◌<◌, true, length, ap, ◌∙◌, arith}
use Rattle.engine.specs.Matrices.{means}
use Rattle.engine.proofs.Adds.{at_get}
use Rattle.engine.proofs.matrix.Matrix.entry.Goals as goal

pub returns : goal.returns
returns g c =
    let a = g.E.Algebra in
    let xs = c.args.self.now.elements.now in
    let s = c.place.result in
    let inside : s < length xs = omega (arith, c.place.ensures.inside, c.args.self.now.square) in
    record {
      value = at_get a.ops.zero a.mean xs s _ inside ∙ ap (means a xs) c.place.ensures.value;
      normal = at_get true a.normal xs s _ inside ∙ c.args.self.now.normal s c.place.ensures.inside;
    }
