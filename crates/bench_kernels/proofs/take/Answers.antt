-- The code of the name k7 is k7, and the run promises the rest.
use Rattle.std.proofs.Common.{◌≡◌, [], refl, rules}
use Rattle.std.proofs.lemmas.Result.{err_from_is_err_and}
use Rattle.code.specs.Codes.{k7}
use Rattle.bench_kernels.proofs.Takes.{begun, refused_small, answered, did}
use Rattle.bench_kernels.proofs.take.Goals as goal

pub returns-in_err-make : goal.returns-in_err-make
returns-in_err-make c =
    let k = c.in_ok-by_name.field-0 in
    let found = c.in_ok-by_name.ensures in
    let named : k ≡ k7 = cc in
    let p = err_from_is_err_and c.from_residual-in_err-make.result c.from_residual-in_err-make.ensures.1 in
    let small = refused_small k named c.args.state.now c.args.symbols.now c.args.plan.now c.over-run.result c.make.new.self _ _ _ c.over-run.ensures.state c.in_err-make.ensures.made in
    rw (p.1, p.2) (record { answer = small.0; took = (search rules, refl, refl) })

pub returns : goal.returns
returns c =
    let state = c.args.state.now in
    let ys = c.args.symbols.now in
    let plan = c.args.plan.now in
    let k = c.in_ok-by_name.field-0 in
    let found = c.in_ok-by_name.ensures in
    let named : k ≡ k7 = cc in
    let fresh = begun k named state c.over-run.result c.make.new.self _ c.over-run.ensures.state c.in_ok-make.ensures.made in
    record {
      answer = answered k named state ys plan _ _ _ fresh.0 (c.take.ensures.serves _ [] fresh.2).0;
      took = did k named state ys plan _ c.make.new.self c.take.new.self _ _ _ _ _ fresh.2.sized fresh.1 (search rules) c.take.ensures.taken;
    }
