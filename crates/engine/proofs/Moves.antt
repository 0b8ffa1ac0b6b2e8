-- A state that blocks were applied to holds the single steps of their symbols.
use Rattle.std.proofs.Common.{◌≡◌, ℕ, ◌<◌, List, [], ◌∷◌, length, take, drop, refl, sym, ap, ◌∙◌, arith}
use Rattle.std.proofs.lemmas.List.{take_all}
use Rattle.algebra.specs.Laws.{Laws}
use Rattle.algebra.specs.Sums.{at}
use Rattle.algebra.specs.declared.Algebra.{Ghosts as Algebra}
use Rattle.algebra.proofs.Sums.{sum_cong, mul_both}
use Rattle.plan.specs.Plans.{Tree, places, after}
use Rattle.plan.specs.Asks.{height, singles}
use Rattle.plan.proofs.Flats.{blocks_spelled}
use Rattle.plan.proofs.Spells.{upto, flat}
use Rattle.recursion.specs.Steps.{steps}
use Rattle.recursion.proofs.Steps.{steps_append}
use Rattle.engine.specs.Blocks.{chosen}
use Rattle.engine.specs.Targets.{Fed, untouched, then_block}
use Rattle.engine.specs.Vectors.{Moved}
use Rattle.engine.specs.declared.vector.Vector.{Vector}
use Rattle.engine.proofs.Readies.{chosen_all}
use Rattle.engine.proofs.Steps.{block_steps, steps_chosen}

module _ {E : Type 0} (a : Algebra E) (laws : Laws a.ops) (d : ℕ) where
  abbrev value : List E → ℕ → a.Value
  value = at a.ops.zero a.mean

  -- block by block
  fed_moves : (m : ℕ → ℕ → ℕ → a.Value) (v v' : Vector) (was now : List E) (ts : List Tree) → Fed (Moved a) a d m v was ts v' now
      → (drop d now ≡ drop d was) × ((j : ℕ) → j < d → value now j ≡ steps a.ops d m (flat ts) (value was) j)
  fed_moves m v v' was now [] untouched = (refl, λ j h. refl)
  fed_moves m v v' was now (t ∷ ts) (then_block t' ts' x y before after block past cells moved) =
      let ih = fed_moves m v x was before ts past in (
        moved.rest ∙ ih.0,
        λ j h. moved.means j h
            ∙ sum_cong a.ops d _ _ (λ l lt. mul_both a.ops _ _ _ _ (ih.1 l lt) (cells l j lt h))
            ∙ block_steps a.ops d m laws t (steps a.ops d m (flat ts) (value was)) j h
            ∙ sym (steps_append a.ops d m (flat ts) (places t) (value was) j),
      )

  -- a whole plan does the single steps of all symbols
  pub plan_steps : (e : ℕ → ℕ → ℕ → a.Value) (ys plan : List ℕ) (v v' : Vector) (was now : List E) → height plan (length plan) ≡ 0 → singles plan ≡ length ys
      → Fed (Moved a) a d (chosen e ys) v was (after plan (length plan)).blocks v' now
      → (drop d now ≡ drop d was) × ((j : ℕ) → j < d → value now j ≡ steps a.ops d e ys (value was) j)
  plan_steps e ys plan v v' was now empty all fed =
      let moves = fed_moves (chosen e ys) v v' was now (after plan (length plan)).blocks fed in (
        moves.0,
        λ j h. moves.1 j h
            ∙ ap (λ ps. steps a.ops d (chosen e ys) ps (value was) j) (blocks_spelled plan empty)
            ∙ steps_chosen a.ops d e ys (upto (singles plan)) (value was) j
            ∙ ap (λ zs. steps a.ops d e zs (value was) j) (chosen_all ys (singles plan) (omega (arith, all)) ∙ ap (λ n. take n ys) all ∙ take_all (length ys) ys (omega arith)),
      )
