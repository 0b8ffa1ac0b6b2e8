-- Each turn adds the weight of one place.
use Rattle.std.proofs.Common.{◌+◌, not, sym, arith}
use Rattle.run_blocks.specs.Blocks.{place_of}
use Rattle.run_blocks.proofs.Weights.{weigh_none, weigh_fits, inverted_more}
use Rattle.run_blocks.proofs.inverted.Goals as goal

pub loop-place-init : goal.loop-place-init
loop-place-init c = sym (weigh_none _)

pub loop-place-preserved : goal.loop-place-preserved
loop-place-preserved c = inverted_more c.args.places.now c.loop-place.place _ _ (omega arith) c.loop-place.invariant c.from.ensures

pub overflow_add-value : goal.overflow_add-value
overflow_add-value c =
    let places = c.args.places.now in
    let n = c.loop-place.place in
    let next = inverted_more places n _ _ (omega arith) c.loop-place.invariant c.from.ensures in
    let fits = weigh_fits (n + 1) (λ k. not (place_of places k)) (omega arith) in
    omega (arith, next, fits)
