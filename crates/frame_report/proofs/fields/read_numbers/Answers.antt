-- A turn reads one field more; the first that is no number is the refusal.
use Rattle.std.proofs.Common.{◌≡◌, ℕ, ◌<◌, ◌∙◌, sym, ap, arith, rules, length, take, length-set, Some, None, Ok, Err}
use Rattle.std.proofs.lemmas.List.{take_more_set}
use Rattle.refusal.specs.declared.Refusal.TheVariants.{Text}
use Rattle.frame_report.specs.Fields.{field_count, number_of_field}
use Rattle.frame_report.proofs.Chunks.{left_length, reading_all, reading_more, reading_stops}
use Rattle.frame_report.proofs.fields.read_numbers.Goals as goal

pub returns-in_err-number : goal.returns-in_err-number
returns-in_err-number c =
    let steps = c.in-Some.ensures.steps in
    let none : number_of_field c.in-Some.field.now ≡ None = search rules in
    let stops = reading_stops _ _ _ _ c.loop-place.invariant.reading c.in-Some.field.now _ steps.0.1.0 (rw c.loop-place.invariant.size at steps.0.1.1) steps.0.1.2 none in
    let refused : c.from_residual.result ≡ Err (Text c.in-Some.place) = search rules in
    record {
      answer = rw refused (ap (λ n. Err (Text n)) steps.1 ∙ sym stops);
      read = rw refused tt;
    }

pub loop-place-preserved : goal.loop-place-preserved
loop-place-preserved c =
    let steps = c.in-Some.ensures.steps in
    let some : number_of_field c.in-Some.field.now ≡ Some c.in_ok-number.number = search rules in
    let r = c.loop-place.invariant.reading in
    let more = reading_more _ _ _ _ r c.in-Some.field.now _ steps.0.1.0 (rw c.loop-place.invariant.size at steps.0.1.1) steps.0.1.2 _ some in
    let inside : c.in-Some.place < length c.loop-place.numbers = omega (arith, c.loop-place.invariant.room, steps.1, steps.0.1.2, left_length _ _ _ _ r) in
    record {
      can_next = (c.in-Some.ensures.goes.on tt).0;
      is_finite = (c.in-Some.ensures.goes.on tt).1;
      size = steps.0.0 ∙ c.loop-place.invariant.size;
      room = rw (length-set c.loop-place.numbers c.in-Some.place c.in_ok-number.number) c.loop-place.invariant.room;
      reading = rw (steps.2, sym steps.1, take_more_set c.loop-place.numbers c.in-Some.place c.in_ok-number.number inside)
          (rw (sym steps.1) at more);
    }

pub returns : goal.returns
returns c =
    let all = reading_all _ _ _ _ c.loop-place.invariant.reading c.in-None.ensures.steps.0.1.0 in
    let count : c.div_ceil.result ≡ field_count c.args.line.now = omega arith in
    record {
      answer = ap Ok count ∙ sym all.1.1;
      read = ap (λ (m : ℕ). take m c.loop-place.numbers) (count ∙ sym all.0) ∙ all.1.0;
    }
