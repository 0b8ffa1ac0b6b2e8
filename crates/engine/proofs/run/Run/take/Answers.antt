-- A take is a delivery to the run's state: its answer, the single steps that it does, and the history law.
use Rattle.std.proofs.Common.{◌≡◌, ℕ, Bool, true, ◌&&◌, eqb, leb, length, Err, refl, sym, ap, ◌∙◌, arith, rules}
use Rattle.std.proofs.lemmas.Result.{err_from_is_err_and}
use Rattle.std.proofs.lemmas.Bool.Decides.{nat_tests}
use Rattle.plan.specs.Asks.{joins, shape}
use Rattle.plan.proofs.Passed.{all_singles, none_left}
use Rattle.recursion.specs.Steps.{rule}
use Rattle.refusal.specs.Questions.{asked}
use Rattle.engine.specs.Plain.{limit}
use Rattle.engine.proofs.Answered.{passed_plan, passed_limit, passed_room}
use Rattle.engine.proofs.Moves.{plan_steps}
use Rattle.engine.proofs.Serves.{delivery_asking, refuses, stepped_take, take_serves}
use Rattle.engine.proofs.run.Run.take.Goals as goal

pub returns-in_err-answer : goal.returns-in_err-answer
returns-in_err-answer g c =
    let a = g.E.Algebra in
    let r = rule a g.R.Recursion c.args.r.now in
    let ys = c.args.symbols.now in
    let plan = c.args.plan.now in
    let was = c.args.self.now in
    let n = length c.args.work.now in
    let k = length c.args.row.now in
    let p = err_from_is_err_and c.from_residual.result c.from_residual.ensures.1 in
    let is : c.from_residual.result ≡ Err c.in_err-answer.field-0.0 = p.1 ∙ ap Err p.2 in
    let left = c.in_err-answer.ensures.delivered in
    let answers = is ∙ c.in_err-answer.ensures.answer ∙ ap (λ qs. asked qs (length ys, joins plan)) (delivery_asking a was r ys plan n k) in
    let same = ap (λ s. record { state = record { ref_ptr = was.state.ref_ptr; ghost_name = was.state.ghost_name; now = s }; size = was.size; taken = was.taken }) left.1 in
    let took = refuses a r ys plan was _ c.args.work.now c.args.row.now c.deliver.new.work c.deliver.new.row c.from_residual.result _ is same left.2 left.3 in
    record {
      over = refl;
      answer = answers;
      taken = took;
      serves = take_serves a r ys plan n k was _ c.args.work.now c.args.row.now c.deliver.new.work c.deliver.new.row c.from_residual.result answers took;
    }

pub overflow_add-self : goal.overflow_add-self
overflow_add-self g c =
    let low = passed_limit (rule g.E.Algebra g.R.Recursion c.args.r.now) c.args.symbols.now c.args.plan.now limit c.args.self.now.taken _ _ _ _ (sym c.in_ok-answer.ensures.answer) in
    search rules

-- the size that the test of the memory found
made_for : (d size held : ℕ) (b : Bool) → ((eqb d size && leb d held) && b) ≡ true → d ≡ size
made_for d size held b e = grind (arith, nat_tests)

pub returns : goal.returns
returns g c =
    let a = g.E.Algebra in
    let r = rule a g.R.Recursion c.args.r.now in
    let ys = c.args.symbols.now in
    let plan = c.args.plan.now in
    let was = c.args.self.now in
    let n = length c.args.work.now in
    let k = length c.args.row.now in
    let b : Bool = eqb r.size was.size && leb r.size (length was.state.now) in
    let says = sym c.in_ok-answer.ensures.answer in
    let passed = passed_plan r ys plan limit was.taken b n k _ says in
    let made : r.size ≡ was.size = made_for r.size was.size _ _ (passed_room r ys plan limit was.taken b n k _ says) in
    let done = c.in_ok-answer.ensures.delivered in
    let moved = plan_steps a g.met.E.Algebra.lawful r.size r.entry ys plan _ _ was.state.now c.deliver.new.buffer (none_left plan (length ys) (shape plan) _ passed) (all_singles plan (length ys) (shape plan) _ passed) done.fed in
    let took = stepped_take a r ys plan r.size was _ c.deliver.new.work made refl c.deliver.auto.buffer refl moved.0 moved.1 done.block in
    let answers = sym says ∙ ap (λ qs. asked qs (length ys, joins plan)) (delivery_asking a was r ys plan n k) in
    record {
      over = refl;
      answer = answers;
      taken = took;
      serves = take_serves a r ys plan n k was _ c.args.work.now c.args.row.now c.deliver.new.work c.deliver.new.row _ answers took;
    }
