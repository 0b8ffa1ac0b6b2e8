-- The code of the name k7 is k7, so the frame is fresh, and promises the rest.
use Rattle.std.proofs.Common.{◌≡◌, Ok, Err, refl, ap, ◌∙◌}
use Rattle.std.proofs.lemmas.Result.{err_from_is_err_and}
use Rattle.code.specs.Codes.{k7}
use Rattle.bench_frames.specs.Frames.{Fresh}
use Rattle.bench_frames.proofs.Takes.{is_fresh, hands}
use Rattle.bench_frames.proofs.take.Goals as goal

pub returns-in_err-take : goal.returns-in_err-take
returns-in_err-take c =
    let k = c.in_ok-by_name.field-0 in
    let found = c.in_ok-by_name.ensures in
    let named : k ≡ k7 = cc in
    let e = c.new-frame.ensures in
    let fresh : Fresh c.new-frame.result = is_fresh k named c.new-frame.result e.code e.steps e.rows e.start e.others e.whole in
    let p = err_from_is_err_and c.from_residual-in_err-take.result c.from_residual-in_err-take.ensures.1 in
    hands c.args.symbols.now c.args.plan.now c.args.store.now c.args.work.now c.args.row.now c.take.new.store c.take.new.work c.take.new.row c.new-frame.result c.take.new.self fresh (Err c.in_err-take.field-0.0) c.in_err-take.ensures.took _ (p.1 ∙ ap Err p.2)

pub returns : goal.returns
returns c =
    let k = c.in_ok-by_name.field-0 in
    let found = c.in_ok-by_name.ensures in
    let named : k ≡ k7 = cc in
    let e = c.new-frame.ensures in
    let fresh : Fresh c.new-frame.result = is_fresh k named c.new-frame.result e.code e.steps e.rows e.start e.others e.whole in
    hands c.args.symbols.now c.args.plan.now c.args.store.now c.args.work.now c.args.row.now c.take.new.store c.take.new.work c.take.new.row c.new-frame.result c.take.new.self fresh (Ok c.in_ok-take.field-0) c.in_ok-take.ensures.took (Ok c.take.new.self) refl
