-- The questions in their order, and the bits of a decode that passes them.
use Rattle.std.proofs.Common.{◌≡◌, ℕ, Option, ◌*◌, ◌<◌, ◌≤◌, true, length, ltb, is_some, Some, None, Ok, Err, unwrap_or, sym, refl, ap, ◌∙◌, arith, rules}
use Rattle.std.specs.Option.{option_flatten}
use Rattle.std.specs.Result.{result_ok}
use Rattle.std.proofs.lemmas.Bool.{and_from, and_left, and_right, le-leb, le-ltb, lt-leb, lt-ltb}
use Rattle.refusal.specs.declared.Refusal.TheVariants.{Memory, NoPath, Place}
use Rattle.code.specs.Codes.{states}
use Rattle.frame_rows.specs.Traces.{memory_suffices, rows_in, row_words, sound, state_total}
use Rattle.frame_rows.proofs.Questions.{says_decoded, says_memory, says_no_path, says_place, says_rows}
use Rattle.frame_rows.proofs.decode.Goals as goal
use Rattle.frame_rows.proofs.decode.Goals.{In_ok-end, In_ok-rows, After-flatten}

-- the state is one of the code's
module _ (c : In_ok-end) where
  state_is : (c.args.state < states c.args.code) × (c.in_ok-end.end.code ≡ c.args.code) × (c.in_ok-end.end.number ≡ c.args.state)
  state_is = let is = c.ok_or.ensures.ok_part ∙ ap result_ok c.in_ok-end.was in rw is at c.of.ensures

  has_state : ltb c.args.state (states c.args.code) ≡ true
  has_state = lt-ltb c.args.state (states c.args.code) (state_is.0)

-- and the store has the rows
module _ (c : In_ok-rows) where
  rows_are : (c.args.rows * row_words c.args.code ≤ length c.args.store.now) × (c.in_ok-rows.rows.end ≡ c.in_ok-end.end) × (c.in_ok-rows.rows.count ≡ c.args.rows) × (c.in_ok-rows.rows.store.now ≡ c.args.store.now)
  rows_are =
      let is = c.ok_or-2.ensures.ok_part ∙ ap result_ok c.in_ok-rows.was in
      let all = rw is at c.of-2.ensures in
      (rw (state_is (goal.at.In_ok-rows c).In_ok-end).1 at all.0, all.1, all.2, all.3)

  code_is : c.in_ok-rows.rows.end.code ≡ c.args.code
  code_is = ap (λ s. s.code) rows_are.1 ∙ (state_is (goal.at.In_ok-rows c).In_ok-end).1

  number_is : c.in_ok-rows.rows.end.number ≡ c.args.state
  number_is = ap (λ s. s.number) rows_are.1 ∙ (state_is (goal.at.In_ok-rows c).In_ok-end).2

pub returns-in_err-end-clause-answer : goal.returns-in_err-end-clause-answer
returns-in_err-end-clause-answer c =
    let none = c.ok_or.ensures.ok_part ∙ ap result_ok c.in_err-end.was in
    let past : states c.args.code ≤ c.args.state = rw none at c.of.ensures in
    let is : c.from_residual.result ≡ Err Place = search rules in
    is ∙ says_place _ _ _ _ _ (le-ltb c.args.state (states c.args.code) past)

pub returns-in_err-rows-clause-answer : goal.returns-in_err-rows-clause-answer
returns-in_err-rows-clause-answer c =
    let here = (goal.at.returns-in_err-rows-clause-answer c).In_ok-end in
    let none = c.ok_or-2.ensures.ok_part ∙ ap result_ok c.in_err-rows.was in
    let few : length c.args.store.now < c.args.rows * row_words c.args.code = rw (none, (state_is here).1) at c.of-2.ensures in
    let is : c.from_residual-in_err-rows.result ≡ Err Memory = search rules in
    is ∙ says_memory _ _ _ _ _ (has_state here) (and_left _ _ (lt-leb _ _ few))

pub returns-then-steps-bits-clause-answer : goal.returns-then-steps-bits-clause-answer
returns-then-steps-bits-clause-answer c =
    says_memory _ _ _ _ _ (has_state (goal.at.returns-then-steps-bits-clause-answer c).In_ok-end) (and_right _ _ (lt-leb c.args.steps (length c.args.bits.now) c.if-steps-bits.true))

-- the memory suffices
module _ (c : In_ok-rows) (room : c.args.steps ≤ length c.args.bits.now) where
  has_memory : memory_suffices c.args.code c.args.rows c.args.steps c.args.store.now (length c.args.bits.now) ≡ true
  has_memory = and_from _ _ (le-leb _ _ (rows_are c).0) (le-leb _ _ room)

  sound_is : sound c.in_ok-rows.rows.end.code (rows_in c.in_ok-rows.rows.end.code c.in_ok-rows.rows.store.now c.in_ok-rows.rows.count) c.args.steps c.in_ok-rows.rows.end.number
      ≡ sound c.args.code (rows_in c.args.code c.args.store.now c.args.rows) c.args.steps c.args.state
  sound_is = rw (code_is c, number_is c, (rows_are c).2, (rows_are c).3)

-- the total that is looked up
flat : (o : Option (Option ℕ)) → option_flatten o ≡ unwrap_or o None
flat None = refl
flat (Some o) = refl

module _ (c : After-flatten) where
  total_is : c.flatten.result ≡ state_total c.args.totals.now c.args.state
  total_is = c.flatten.ensures ∙ flat c.copied.result ∙ ap (λ o. unwrap_or o None) c.copied.ensures ∙ c.get.ensures.lookup.4 (omega arith) None

pub returns-in_err-total-clause-answer : goal.returns-in_err-total-clause-answer
returns-in_err-total-clause-answer c =
    let here = (goal.at.returns-in_err-total-clause-answer c).In_ok-rows in
    let none = c.ok_or-3.ensures.ok_part ∙ ap result_ok c.in_err-total.was in
    let is : c.from_residual-in_err-total.result ≡ Err NoPath = search rules in
    is ∙ says_no_path _ _ _ _ _ (has_state (goal.at.In_ok-rows here).In_ok-end) (has_memory here c.if-steps-bits.false)
    (ap is_some (sym (total_is (goal.at.returns-in_err-total-clause-answer c).After-flatten) ∙ none))

pub returns-then-not-is_sound-clause-answer : goal.returns-then-not-is_sound-clause-answer
returns-then-not-is_sound-clause-answer c =
    let here = (goal.at.returns-then-not-is_sound-clause-answer c).In_ok-rows in
    let is = c.ok_or-3.ensures.ok_part ∙ ap result_ok c.in_ok-total.was in
    says_rows _ _ _ _ _ (has_state (goal.at.In_ok-rows here).In_ok-end) (has_memory here c.if-steps-bits.false)
    (ap is_some (sym (total_is (goal.at.returns-then-not-is_sound-clause-answer c).After-flatten) ∙ is)) (sym (sound_is here c.if-steps-bits.false) ∙ sym c.is_sound.ensures ∙ c.if-not-is_sound.true)

pub returns-clause-answer : goal.returns-clause-answer
returns-clause-answer c =
    let here = (goal.at.returns-clause-answer c).In_ok-rows in
    let is = c.ok_or-3.ensures.ok_part ∙ ap result_ok c.in_ok-total.was in
    let some = sym (total_is (goal.at.returns-clause-answer c).After-flatten) ∙ is in
    ap (λ o. Ok (unwrap_or o 0)) (sym some) ∙ says_decoded _ _ _ _ _ (has_state (goal.at.In_ok-rows here).In_ok-end) (has_memory here c.if-steps-bits.false) (ap is_some some) (sym (sound_is here c.if-steps-bits.false) ∙ sym c.is_sound.ensures ∙ c.if-not-is_sound.false)
