-- The letters read backwards lead from the top two matrices to the symbols that they have.
use Rattle.std.proofs.Common.{◌≡◌, ◌+◌, ◌-◌, length, get_or, sym, ap, ◌∙◌, subst, arith}
use Rattle.plan.proofs.Backwards.{Back, more_s, more_j, counted_back, without_last}
use Rattle.plan.proofs.Letters.{is_single, not_single}
use Rattle.plan.proofs.is_block.Goals as goal
use Rattle.plan.proofs.is_block.Goals.{in-None, in-Some+then-wanted-eq0, then-wanted-eq0-via-then-wanted-eq0, then-wanted-eq0-via-else-wanted-eq0+then-found-wanted-gt-BLOCK}

pub loop-code-preserved-in-Single : goal.loop-code-preserved-in-Single
loop-code-preserved-in-Single c =
    let plan = c.args.plan.now in
    let p = length c.loop-code.code-iterator.iter.rest.now in
    let last = without_last plan c.next.new.self.iter.rest.now c.in-Some.code.now p (omega (arith, c.loop-code.invariant.1, c.requires.place_in_bounds)) (sym c.loop-code.invariant.0 ∙ c.in-Some.ensures.steps) in
    let here : length c.next.new.self.iter.rest.now ≡ p - 1 = omega (arith, last.0) in (
      last.1,
      omega (arith, last.0, c.loop-code.invariant.1),
      omega arith,
      λ i s.
          subst (λ k. Back plan c.args.place i s k (c.loop-code.wanted - 1) (c.loop-code.found + 1)) (sym here)
          (more_s _ _ i s p c.loop-code.wanted c.loop-code.found (omega (arith, last.0)) (omega arith) (omega arith)
          (ap (λ k. get_or plan k 0) (sym here) ∙ sym last.2 ∙ is_single c.in-Some.code.now c.in-Single.ensures) (c.loop-code.invariant.3 i s)),
    )

pub loop-code-preserved : goal.loop-code-preserved
loop-code-preserved c =
    let plan = c.args.plan.now in
    let p = length c.loop-code.code-iterator.iter.rest.now in
    let last = without_last plan c.next.new.self.iter.rest.now c.in-Some.code.now p (omega (arith, c.loop-code.invariant.1, c.requires.place_in_bounds)) (sym c.loop-code.invariant.0 ∙ c.in-Some.ensures.steps) in
    let here : length c.next.new.self.iter.rest.now ≡ p - 1 = omega (arith, last.0) in (
      last.1,
      omega (arith, last.0, c.loop-code.invariant.1),
      omega arith,
      λ i s.
          subst (λ k. Back plan c.args.place i s k (c.loop-code.wanted + 1) c.loop-code.found) (sym here)
          (more_j _ _ i s p c.loop-code.wanted c.loop-code.found (omega (arith, last.0)) (omega arith) (omega arith)
          (λ e. not_single c.in-Some.code.now c.of.result c.of.ensures c.in_default.not-Single (last.2 ∙ ap (λ k. get_or plan k 0) here ∙ e)) (c.loop-code.invariant.3 i s)),
    )

pub returns : goal.returns
returns c =
    counted_back c.args.plan.now c.args.place c.requires.place_in_bounds c.requires.by_index (length c.loop-code.code-iterator.iter.rest.now) c.loop-code.wanted c.loop-code.found
    (λ a b l. elim c.match-next.branch [
      | in-None w ↦ omega (arith, w.in-None.ensures.steps.0)
      | in-Some+then-wanted-eq0 w ↦ elim w.then-wanted-eq0.branch [
        | then-wanted-eq0-via-then-wanted-eq0 v ↦ omega (arith, v.if-wanted-eq0.true)
        | then-wanted-eq0-via-else-wanted-eq0+then-found-wanted-gt-BLOCK v ↦ omega (arith, v.if-found-wanted-gt-BLOCK.true)
      ]
    ])
    (c.loop-code.invariant.3 c.requires.place_in_bounds c.requires.by_index)
