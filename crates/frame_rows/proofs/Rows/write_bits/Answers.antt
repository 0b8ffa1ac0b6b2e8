-- Each turn writes the bits of one row before those of the rows after it.
use Rattle.std.proofs.Common.{◌≡◌, ◌+◌, ◌-◌, ◌<◌, ◌++◌, length, get_or, take, drop, sym, refl, ap, ◌∙◌, append-nil, arith}
use borrow.Rule.Slice.PartMut.{put_mid}
use Rattle.std.proofs.lemmas.List.{drop_all, length-drop, length-take}
use Rattle.code.specs.Codes.{states}
use Rattle.frame_paths.specs.Rows.{all_steps, decoded}
use Rattle.frame_rows.specs.Traces.{row_words, rows_in}
use Rattle.frame_rows.proofs.Turns.{Latest, decoded_again, drop_part, latest}
use Rattle.frame_rows.proofs.Walks.{Came, came, none_left}
use Rattle.frame_rows.proofs.Rows.write_bits.Goals as goal
use Rattle.frame_rows.proofs.Rows.write_bits.Goals.{In-Some}

pub loop-row-init : goal.loop-row-init
loop-row-init c =
    let is = c.into_iter-row-iterator.ensures.into_iter_gives in
    let e = c.latest_first-row-items.ensures in
    let bits = c.args.bits.now in
    let all = decoded c.args.self.now.end.code (rows_in c.args.self.now.end.code c.args.self.now.store.now c.args.self.now.count) c.args.self.now.end.number in
    record {
      code = refl;
      rows = record { count = c.args.self.now.count; inside = c.args.self.now.inside; rest = rw is e.rest; size = rw is e.size };
      range = c.requires.range;
      steps = c.requires.steps;
      inside = omega arith;
      bits = sym (ap (λ l. all ++ l) (drop_all (length bits) bits (omega arith)) ∙ append-nil all);
    }

-- the latest row of those that are left
module _ (c : In-Some) where
  row : Came c.args.self.now.end.code c.args.self.now.store.now c.loop-row.row-iterator c.loop-row.invariant.rows c.in-Some.row.now c.next.new.self
  row = came c.args.self.now.end.code c.args.self.now.store.now c.loop-row.row-iterator c.next.new.self c.next.result c.in-Some.row c.loop-row.invariant.rows c.in-Some.is c.next.ensures.steps

  inside : 1 + c.loop-row.state.number < row_words c.args.self.now.end.code
  inside = let low : c.loop-row.state.number < states c.args.self.now.end.code = rw c.loop-row.invariant.code at c.loop-row.state.below in omega arith

  part : Latest c.args.self.now.end.code c.args.self.now.store.now c.loop-row.invariant.rows.count c.loop-row.state.number _ _ row.some row.steps (row.word _ inside) c.loop-row.end
  part = latest c.args.self.now.end.code c.args.self.now.store.now c.loop-row.invariant.rows.count c.loop-row.state.number _ _ row.some row.steps (row.word _ inside) c.loop-row.end c.loop-row.invariant.range c.loop-row.invariant.steps

pub overflow_sub-start : goal.overflow_sub-start
overflow_sub-start c = (part (goal.at.overflow_sub-start c).In-Some).fits

pub trace-state-requires : goal.trace-state-requires
trace-state-requires c =
    let short = part (goal.at.trace-state-requires c).In-Some in
    simp length-take (omega arith)

pub loop-row-preserved : goal.loop-row-preserved
loop-row-preserved c =
    let here = (goal.at.loop-row-preserved c).In-Some in
    let last = row here in
    let rest = part here in
    let code = c.args.self.now.end.code in
    let store = c.args.self.now.store.now in
    let count = c.loop-row.invariant.rows.count in
    let traced = c.trace-state in
    let end = c.loop-row.end in
    let start = end - get_or c.in-Some.row.now 0 0 in
    let long : length (take (end - start) (drop start c.loop-row.bits)) ≡ get_or c.in-Some.row.now 0 0 = simp (length-take, length-drop) (omega arith) in
    let part : drop start (put_mid start (end - start) c.loop-row.bits traced.new.bits) ≡ traced.new.bits ++ drop end c.loop-row.bits = drop_part start end c.loop-row.bits traced.new.bits (omega arith) (omega arith) in
    record {
      code = traced.ensures.code ∙ c.loop-row.invariant.code;
      rows = last.left';
      range = rw last.fewer rest.range;
      steps = rw last.fewer rest.steps;
      inside = omega arith;
      bits = c.loop-row.invariant.bits
          ∙ decoded_again code store count c.loop-row.state.number _ _ last.some last.steps (last.word _ (inside here))
          (drop end c.loop-row.bits) _ _ _ long (rw c.loop-row.invariant.code at traced.ensures.before) (rw c.loop-row.invariant.code at traced.ensures.path)
          ∙ ap (λ n. decoded code (rows_in code store n) traced.result.number ++ (traced.new.bits ++ drop end c.loop-row.bits)) (sym last.fewer)
          ∙ ap (λ l. decoded code (rows_in code store last.left'.count) traced.result.number ++ l) (sym part);
    }

pub returns : goal.returns
returns c =
    let code = c.args.self.now.end.code in
    let store = c.args.self.now.store.now in
    let none = none_left code store c.loop-row.row-iterator c.next.new.self c.next.result c.loop-row.invariant.rows c.in-None.is c.next.ensures.steps in
    let end : 0 ≡ c.loop-row.end = ap (λ n. all_steps (rows_in code store n)) (sym none) ∙ c.loop-row.invariant.steps in
    sym (c.loop-row.invariant.bits ∙ ap (λ n. decoded code (rows_in code store n) c.loop-row.state.number ++ drop c.loop-row.end c.loop-row.bits) none ∙ ap (λ n. drop n c.loop-row.bits) (sym end))
