-- Letter by letter, target and work area follow the plan.
use Rattle.std.proofs.Common.{◌≡◌, ℕ, ◌+◌, ◌-◌, ◌*◌, true, length, get_or, sym, refl, ap, ◌∙◌, subst, arith}
use Rattle.std.proofs.lemmas.List.{nil_from_length}
use Rattle.plan.specs.Letters.{code}
use Rattle.plan.specs.Plans.{after, letter}
use Rattle.plan.specs.Asks.{tally, is, blocks, height, shape}
use Rattle.plan.proofs.Heights.{after_next, tally_none}
use Rattle.plan.proofs.Letters.{known_code}
use Rattle.plan.proofs.Passed.{all_known, all_found, all_made, all_singles, none_left}
use Rattle.recursion.specs.Steps.{rule}
use Rattle.engine.specs.Blocks.{Ready, chosen}
use Rattle.engine.specs.Letters.{Doing, applies}
use Rattle.engine.specs.Targets.{untouched}
use Rattle.engine.proofs.Readies.{ready, counts, small_block}
use Rattle.engine.proofs.letters.evaluate.Goals as goal

pub loop-code-init : goal.loop-code-init
loop-code-init g c = let e = c.default-stack.ensures in (
  record {
    topped = e.0;
    nexted = e.1.0;
    counted = omega (arith, e.1.0, e.1.1);
    stands = tt;
    normal = λ p h. absurd (omega (arith, ap (λ n. n * (c.args.size.rows * c.args.size.rows)) e.0));
    left = λ _. tt;
    fed = untouched;
  },
  refl,
  refl,
  refl,
  λ n e. subst (λ k. g.T.Target.roomy c.args.target.now c.args.size.rows (length c.args.buffer.now) k ≡ true) (omega (arith, e, tally_none (is c.args.plan.now 97))) c.requires.target_has_room,
)

pub turn-stack-requires : goal.turn-stack-requires
turn-stack-requires g c =
    let p = c.loop-code.code-index in
    let plan = c.args.plan.now in
    let now = c.loop-code.invariant.0 in
    let low = c.loop-code-test.true in
    let same = ap code c.of-letter.ensures ∙ known_code plan p (all_known plan (length c.args.symbols.now) (shape plan) (shape plan) c.requires.passed p low) in
    let found = ready plan (length c.args.symbols.now) c.args.size.rows (length c.args.work.now) p low (all_found plan (length c.args.symbols.now) (shape plan) (shape plan) c.requires.passed p low) (all_singles plan (length c.args.symbols.now) (shape plan) (shape plan) c.requires.passed) c.requires.work_in_bounds in record {
      row_in_bounds = omega arith;
      normal = now.normal;
      ready = subst (λ z. Ready z (length c.args.symbols.now) c.args.size.rows c.loop-code.stack.top c.loop-code.stack.next (length c.loop-code.work)) (sym same)
          (subst (λ n. Ready (get_or plan p 0) (length c.args.symbols.now) c.args.size.rows c.loop-code.stack.top c.loop-code.stack.next n) (sym c.loop-code.invariant.2)
          (subst (λ t. Ready (get_or plan p 0) (length c.args.symbols.now) c.args.size.rows t c.loop-code.stack.next (length c.args.work.now)) (sym now.topped)
          (subst (λ n. Ready (get_or plan p 0) (length c.args.symbols.now) c.args.size.rows (height plan p) n (length c.args.work.now)) (sym now.nexted) found)));
      applied_le_next = omega (arith, now.counted);
      applied_bound = λ is.
          let a : get_or plan p 0 ≡ 97 = sym same ∙ ap code is in
          omega (arith, now.counted, small_block plan p low (all_found plan (length c.args.symbols.now) (shape plan) (shape plan) c.requires.passed p low) (all_made plan (length c.args.symbols.now) (shape plan) (shape plan) c.requires.passed) (λ e. omega (arith, a, e)) (λ e. omega (arith, a, e)));
    }

pub loop-code-preserved : goal.loop-code-preserved
loop-code-preserved g c =
    let a = g.E.Algebra in
    let plan = c.args.plan.now in
    let p = c.loop-code.code-index in
    let low = c.loop-code-test.true in
    let left = counts plan p low (all_known plan (length c.args.symbols.now) (shape plan) (shape plan) c.requires.passed p low) in
    let same = ap code c.of-letter.ensures ∙ known_code plan p (all_known plan (length c.args.symbols.now) (shape plan) (shape plan) c.requires.passed p low) in
    let room : (n : ℕ) → tally (is plan 97) p + (n + applies (get_or plan p 0)) ≡ blocks plan → g.T.Target.roomy c.loop-code.target c.args.size.rows (length c.loop-code.buffer) (n + applies (code c.of-letter.result)) ≡ true =
    λ n e. subst (λ z. g.T.Target.roomy c.loop-code.target c.args.size.rows (length c.loop-code.buffer) (n + applies z) ≡ true) (sym same) (c.loop-code.invariant.4 _ e) in
    let m = chosen (rule a g.R.Recursion c.args.r.now).entry c.args.symbols.now in
    let step = c.turn-stack.ensures.does _ _ _ (blocks plan - tally (is plan 97) (p + 1)) (room _ left.1) c.loop-code.invariant.0 in (
      subst (λ w. Doing g.T.Target.Applied a c.args.size.rows m c.args.target.now c.args.buffer.now w c.turn-stack.result.top c.turn-stack.result.next c.turn-stack.result.applied c.turn-stack.new.target c.turn-stack.new.buffer c.turn-stack.new.work)
          (ap (letter (after plan p)) same ∙ sym (after_next plan p low)) step,
      c.turn-stack.auto.buffer ∙ c.loop-code.invariant.1,
      c.turn-stack.auto.work ∙ c.loop-code.invariant.2,
      c.turn-stack.auto.row ∙ c.loop-code.invariant.3,
      λ n e. c.turn-stack.ensures.room n (room n (omega (arith, e, left.0))),
    )

pub returns : goal.returns
returns g c =
    let a = g.E.Algebra in
    let plan = c.args.plan.now in
    let m = chosen (rule a g.R.Recursion c.args.r.now).entry c.args.symbols.now in
    let all : c.loop-code.code-index ≡ length plan = omega arith in
    let end : Doing g.T.Target.Applied a c.args.size.rows m c.args.target.now c.args.buffer.now (after plan (length plan)) c.loop-code.stack.top c.loop-code.stack.next c.loop-code.stack.applied c.loop-code.target c.loop-code.buffer c.loop-code.work =
    subst (λ n. Doing g.T.Target.Applied a c.args.size.rows m c.args.target.now c.args.buffer.now (after plan n) c.loop-code.stack.top c.loop-code.stack.next c.loop-code.stack.applied c.loop-code.target c.loop-code.buffer c.loop-code.work) all c.loop-code.invariant.0 in
    record { fed = end.fed; block = end.left (nil_from_length (after plan (length plan)).stack (none_left plan (length c.args.symbols.now) (shape plan) (shape plan) c.requires.passed)) }
