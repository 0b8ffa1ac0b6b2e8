-- The questions in their order, and the blocks of a delivery that passes them.
use Rattle.std.proofs.Common.{◌≡◌, ℕ, ◌-◌, ◌*◌, ◌≤◌, Bool, true, false, ◌&&◌, leb, List, length, Ok, Err, sym, refl, ap, ◌∙◌, subst, arith}
use Rattle.std.proofs.lemmas.Result.{err_from_is_err_and}
use Rattle.std.proofs.lemmas.Bool.Decides.{nat_tests}
use Rattle.plan.specs.Plans.{after}
use Rattle.plan.specs.Asks.{asks, blocks, joins, most, shape}
use Rattle.plan.specs.declared.Shape.{Shape}
use Rattle.plan.proofs.Blocks.{blocks_are, joins_few}
use Rattle.plan.proofs.Passed.{all_known, all_found, all_singles, none_left, shape_is}
use Rattle.recursion.specs.Steps.{rule}
use Rattle.refusal.specs.Questions.{asked}
use Rattle.engine.specs.Blocks.{Stands, chosen}
use Rattle.engine.specs.Deliveries.{Delivered}
use Rattle.engine.specs.Targets.{Fed}
use Rattle.engine.proofs.Answered.{says_plan, says_symbol, says_limit, says_memory, says_taken}
use Rattle.engine.proofs.delivery.deliver.Goals as goal

-- the joins of a plan that passed, and its blocks
module _ (plan : List ℕ) (n : ℕ) (s : Shape) (passed : asked (asks plan n) (shape plan) ≡ Ok s) where
  joins_are : s.joins ≡ joins plan
  joins_are = ap (λ x. x.joins) (shape_is plan n (shape plan) s passed)

  joins_fit : s.joins ≤ n
  joins_fit = omega (arith, joins_are, joins_few plan (all_known plan n (shape plan) s passed) (all_found plan n (shape plan) s passed), all_singles plan n (shape plan) s passed)

  blocks_fit : n - s.joins ≡ blocks plan
  blocks_fit =
      let e = blocks_are plan (all_known plan n (shape plan) s passed) (all_found plan n (shape plan) s passed) (none_left plan n (shape plan) s passed) in
      omega (arith, e, joins_are, all_singles plan n (shape plan) s passed)

pub returns-then-not-is_within : goal.returns-then-not-is_within
returns-then-not-is_within g c = record {
  answer = sym (says_limit (rule g.E.Algebra g.R.Recursion c.args.r.now) c.args.symbols.now c.args.plan.now _ _ _ _ _ _ c.in_ok-shape.ensures _ _ c.in_ok-ask_symbols.ensures (sym c.if-not-is_within.ensures));
  delivered = (refl, refl, refl, refl);
}

-- the test of the memory, as it is made with the size and the shape that were found
tested : (d e m n work row blocks many : ℕ) (room : ℕ → ℕ → Bool) (b : Bool) → d ≡ e → m ≡ n → blocks ≡ many → b ≡ (room d blocks && (leb (m * (d * d)) work && leb d row))
    → (room e many && (leb (n * (e * e)) work && leb e row)) ≡ b
tested d e m n work row blocks many room b p q s t = cc

-- what the test of the memory found
enough : (d most n row : ℕ) (b : Bool) → true ≡ (b && (leb (most * (d * d)) n && leb d row)) → (b ≡ true) × (most * (d * d) ≤ n) × (d ≤ row)
enough d most n row true e = grind (arith, nat_tests)
enough d most n row false e = grind (arith, nat_tests)

pub overflow_sub-blocks : goal.overflow_sub-blocks
overflow_sub-blocks g c = joins_fit c.args.plan.now (length c.args.symbols.now) c.in_ok-shape.shape (sym c.in_ok-shape.ensures)

pub returns-then-not-has_memory : goal.returns-then-not-has_memory
returns-then-not-has_memory g c =
    let plan = c.args.plan.now in
    let ys = c.args.symbols.now in
    let s = c.in_ok-shape.shape in
    let same = shape_is plan (length ys) (shape plan) s (sym c.in_ok-shape.ensures) in
    record {
      answer = sym (says_memory (rule g.E.Algebra g.R.Recursion c.args.r.now) ys plan _ _ _ _ _ _ c.in_ok-shape.ensures _ _ c.in_ok-ask_symbols.ensures (sym c.if-not-is_within.ensures)
          (tested _ _ _ _ _ _ _ _ (λ d n. g.T.Target.roomy c.args.target.now d (length c.args.buffer.now) n) false c.size.ensures (ap (λ x. x.most) same) (blocks_fit plan (length ys) s (sym c.in_ok-shape.ensures)) c.if-not-has_memory.ensures));
      delivered = (refl, refl, refl, refl);
    }

pub evaluate-requires : goal.evaluate-requires
evaluate-requires g c =
    let plan = c.args.plan.now in
    let ys = c.args.symbols.now in
    let s = c.in_ok-shape.shape in
    let passed = sym c.in_ok-shape.ensures in
    let same = shape_is plan (length ys) (shape plan) s passed in
    let has = enough c.size.result s.most _ _ _ c.if-not-has_memory.ensures in
    let m : s.most ≡ most plan = ap (λ x. x.most) same in
    let b = blocks_fit plan (length ys) s passed in record {
      row_in_bounds = has.2;
      passed = passed ∙ ap Ok same;
      work_in_bounds = subst (λ x. x * (c.size.result * c.size.result) ≤ length c.args.work.now) m has.1;
      target_has_room = subst (λ x. g.T.Target.roomy c.args.target.now c.size.result (length c.args.buffer.now) x ≡ true) b has.0;
    }

pub returns : goal.returns
returns g c =
    let a = g.E.Algebra in
    let r = rule a g.R.Recursion c.args.r.now in
    let plan = c.args.plan.now in
    let ys = c.args.symbols.now in
    let s = c.in_ok-shape.shape in
    let same = shape_is plan (length ys) (shape plan) s (sym c.in_ok-shape.ensures) in
    let says = says_taken r ys plan _ _ _ _ _ _ c.in_ok-shape.ensures _ _ c.in_ok-ask_symbols.ensures (sym c.if-not-is_within.ensures)
    (tested _ _ _ _ _ _ _ _ (λ d n. g.T.Target.roomy c.args.target.now d (length c.args.buffer.now) n) true c.size.ensures (ap (λ x. x.most) same) (blocks_fit plan (length ys) s (sym c.in_ok-shape.ensures)) c.if-not-has_memory.ensures) in
    record {
      answer = ap (λ j. Ok (length ys, j)) (ap (λ x. x.joins) same) ∙ sym says;
      delivered = record {
        fed = subst (λ d. Fed g.T.Target.Applied a d (chosen r.entry ys) c.args.target.now c.args.buffer.now (after plan (length plan)).blocks c.evaluate.new.target c.evaluate.new.buffer) c.size.ensures c.evaluate.ensures.fed;
        block = subst (λ d. Stands a d (chosen r.entry ys) c.evaluate.new.work (after plan (length plan)).last) c.size.ensures c.evaluate.ensures.block;
      };
    }
