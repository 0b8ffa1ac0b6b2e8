-- The totals and the row are those of the best offers, and a call whose sizes do not fit does nothing.
use Rattle.std.proofs.Common.{◌≡◌, ℕ, ◌+◌, ◌-◌, ◌*◌, ◌<◌, None, length, get_or, take, sym, refl, ap, ◌∙◌, subst, arith}
use borrow.Rule.Slice.PartMut.{put_mid}
use Rattle.std.proofs.lemmas.List.{get_or-take, length-append, length-drop, length-take}
use Rattle.std.proofs.lemmas.Slice.{drop-put_mid, take-put_mid_below}
use Rattle.std.proofs.lemmas.Bool.{both_ways}
use Rattle.frame_paths.specs.Choices.{Gets}
use Rattle.frame_rows.specs.Traces.{state_total}
use Rattle.frame_metrics.specs.Offers.{best_offer, offer_total, offer_word}
use Rattle.frame_metrics.specs.Metrics.{entries}
use Rattle.frame_metrics.proofs.Bests.{best_gets}
use Rattle.frame_metrics.proofs.Parts.{get_or_written}
use Rattle.frame_metrics.proofs.Rooms.{may_parts, room_after, room_for}
use Rattle.frame_metrics.proofs.Selects.{low_after, others_stay, total_is}
use Rattle.frame_metrics.proofs.metrics.Metrics.select.Goals as goal

pub invariant_of-after : goal.invariant_of-after
invariant_of-after c =
    let was = c.args.self.now in
    let d = c.args.d in
    let best = c.best_offers-best.result in
    let ok = may_parts was.rows d c.args.symbols (length c.args.matrix.now) (length c.args.store.now) c.if-not-may_select.ensures in
    let room = room_for was.rows d (length c.args.store.now) ok.3 in
    let long : length (take d best) ≡ d = simp length-take (omega (arith, c.best_offers-best.ensures.long)) in
    let same : (j : ℕ) → j < d → get_or (take d best) j None ≡ get_or best j None = λ j h. get_or-take d best j None h in
    let low = low_after best (take d best) d long same was.totals c.settle.new.totals c.settle.ensures.settled c.settle.ensures.rest was.rows was.low c.best_offers-best.ensures.low in
    record { full = c.settle.auto.totals ∙ was.full; few = room.0; low = low }

pub returns : goal.returns
returns c =
    let was = c.args.self.now in
    let d = c.args.d in
    let store = c.args.store.now in
    let matrix = c.args.matrix.now in
    let best = c.best_offers-best.result in
    let start = was.rows * (1 + d) in
    let k = (start + (1 + d)) - start in
    let row = c.write_row.new.row in
    let ok = may_parts was.rows d c.args.symbols (length matrix) (length store) c.if-not-may_select.ensures in
    let room_is = room_for was.rows d (length store) ok.3 in
    let long : length (take d best) ≡ d = simp length-take (omega (arith, c.best_offers-best.ensures.long)) in
    let same : (j : ℕ) → j < d → get_or (take d best) j None ≡ get_or best j None = λ j h. get_or-take d best j None h in
    let row-long : length row ≡ 1 + d = c.write_row.auto.row ∙ simp (length-take, length-drop) (omega arith) in
    let store_long : length (put_mid start k store row) ≡ length store = simp (length-append, length-take, length-drop) (omega arith) in
    let first : start + 0 ≡ start = omega arith in
    record {
      selected = λ room small square short fine. record {
        counted = refl;
        gets = λ j h.
            let key = c.best_offers-best.ensures.best j h in
            let total = total_is best (take d best) d long same was.totals c.settle.new.totals c.settle.ensures.settled c.settle.ensures.rest j h ∙ ap offer_total key in
            let word = get_or_written 0 start k store row (1 + j) (omega arith) (omega arith) ∙ c.write_row.ensures.words j (omega arith) ∙ ap offer_word (same j h ∙ key) in
            let gets = best_gets was.totals matrix d j square fine h d (omega arith) in
            subst (λ x. Gets d (state_total was.totals) (entries matrix d) j (state_total c.settle.new.totals j) x) (sym word)
            (subst (λ o. Gets d (state_total was.totals) (entries matrix d) j o (offer_word (best_offer was.totals matrix d j d))) (sym total) gets);
        steps = ap (λ (n : ℕ). get_or (put_mid start k store row) n 0) (sym first) ∙ get_or_written 0 start k store row 0 (omega arith) (omega arith) ∙ c.write_row.ensures.steps;
        before = take-put_mid_below start k store row start (omega arith) (omega arith);
        after = drop-put_mid start k store row ((was.rows + 1) * (1 + d)) (omega arith) (omega arith) (omega arith);
        others = others_stay best (take d best) d long same was.totals c.settle.new.totals c.settle.ensures.settled c.settle.ensures.rest;
      };
      stays = λ e. absurd (both_ways _ e (sym c.if-not-may_select.ensures));
      long = store_long;
      room = λ n h. rw store_long (room_after was.rows d (length store) n h);
    }
