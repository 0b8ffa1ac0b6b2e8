-- Each turn leaves one row less, and as many steps less as it has.
use Rattle.std.proofs.Common.{◌≡◌, ◌+◌, ◌-◌, ◌<◌, ◌&&◌, eqb, get_or, sym, refl, ap, ◌∙◌, inl, inr, arith}
use Rattle.std.proofs.lemmas.Bool.Decides.{nat_tests}
use Rattle.code.specs.Codes.{states}
use Rattle.frame_rows.specs.Traces.{row_words, rows_in, sound}
use Rattle.frame_rows.proofs.Turns.{sound_again, sound_fails}
use Rattle.frame_rows.proofs.Walks.{Came, came, none_left}
use Rattle.frame_rows.proofs.Rows.is_sound.Goals as goal
use Rattle.frame_rows.proofs.Rows.is_sound.Goals.{In-Some, In-None}

pub loop-row-init : goal.loop-row-init
loop-row-init c =
    let is = c.into_iter-row-iterator.ensures.into_iter_gives in
    let e = c.latest_first-row-items.ensures in
    record { code = refl; rows = record { count = c.args.self.now.count; inside = c.args.self.now.inside; rest = rw is e.rest; size = rw is e.size }; sound = refl }

-- the latest row of those that are left
module _ (c : In-Some) where
  latest : Came c.args.self.now.end.code c.args.self.now.store.now c.loop-row.row-iterator c.loop-row.invariant.rows c.in-Some.row.now c.next.new.self
  latest = came c.args.self.now.end.code c.args.self.now.store.now c.loop-row.row-iterator c.next.new.self c.next.result c.in-Some.row c.loop-row.invariant.rows c.in-Some.is c.next.ensures.steps

  inside : 1 + c.loop-row.state.number < row_words c.args.self.now.end.code
  inside = let low : c.loop-row.state.number < states c.args.self.now.end.code = rw c.loop-row.invariant.code at c.loop-row.state.below in omega arith

pub returns-then-length-eq0 : goal.returns-then-length-eq0
returns-then-length-eq0 c =
    let row = latest (goal.at.returns-then-length-eq0 c).In-Some in
    sym (c.loop-row.invariant.sound
    ∙ sound_fails c.args.self.now.end.code c.args.self.now.store.now c.loop-row.invariant.rows.count c.loop-row.state.number _ _ row.some row.steps (row.word _ (inside (goal.at.returns-then-length-eq0 c).In-Some))
    c.loop-row.left (λ p q r. elim c.then-length-eq0.either [ inl a ↦ omega arith | inr b ↦ elim b [ inl x ↦ omega arith | inr y ↦ omega arith ] ]))

pub loop-row-preserved : goal.loop-row-preserved
loop-row-preserved c =
    let here = (goal.at.loop-row-preserved c).In-Some in
    let row = latest here in
    let code = c.args.self.now.end.code in
    let before = c.before-state in
    let steps = get_or c.in-Some.row.now 0 0 in
    record {
      code = before.ensures.code ∙ c.loop-row.invariant.code;
      rows = row.left';
      sound = c.loop-row.invariant.sound
          ∙ sound_again code c.args.self.now.store.now c.loop-row.invariant.rows.count c.loop-row.state.number _ _ row.some row.steps (row.word _ (inside here))
          c.loop-row.left (omega arith) c.if-length-gt-BLOCK.false c.if-length-left.false _ _ refl (rw c.loop-row.invariant.code at before.ensures.number)
          ∙ ap (λ n. sound code (rows_in code c.args.self.now.store.now n) (c.loop-row.left - steps) before.result.number) (sym row.fewer);
    }

-- where no row is left, no step may be, and the state is the start
module _ (c : In-None) where
  over : sound c.args.self.now.end.code (rows_in c.args.self.now.end.code c.args.self.now.store.now c.args.self.now.count) c.args.steps c.args.self.now.end.number
      ≡ (eqb 0 c.loop-row.left && eqb c.loop-row.state.number 0)
  over =
      let code = c.args.self.now.end.code in
      let store = c.args.self.now.store.now in
      c.loop-row.invariant.sound
      ∙ ap (λ n. sound code (rows_in code store n) c.loop-row.left c.loop-row.state.number)
      (none_left code store c.loop-row.row-iterator c.next.new.self c.next.result c.loop-row.invariant.rows c.in-None.is c.next.ensures.steps)

pub returns-then-left-eq0 : goal.returns-then-left-eq0
returns-then-left-eq0 c = grind (arith, nat_tests, over (goal.at.returns-then-left-eq0 c).In-None)

pub returns-else-left-eq0 : goal.returns-else-left-eq0
returns-else-left-eq0 c = grind (arith, nat_tests, over (goal.at.returns-else-left-eq0 c).In-None)
