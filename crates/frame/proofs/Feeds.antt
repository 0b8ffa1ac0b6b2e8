-- A frame that the blocks of a plan were applied to holds their symbols.
use Rattle.std.proofs.Common.{◌≡◌, ℕ, ◌+◌, ◌*◌, true, List, [], ◌∷◌, ◌++◌, map, length, get_or, take, sym, refl, ap, ◌∙◌, subst, append_assoc, append-nil, zero-add, arith}
use Rattle.std.proofs.lemmas.List.{map-append, take_all}
use Rattle.std.specs.List.{AllByRecursion}
use Rattle.algebra.specs.Sums.{at}
use Rattle.algebra_survivor.specs.Survivors.{none, path_of}
use Rattle.algebra_survivor.specs.contracts.SurvivorAlgebra.TheImpl.{ghosts as survivors}
use Rattle.code.specs.declared.description.Code.{Code}
use Rattle.code.specs.Codes.{states}
use Rattle.code.specs.Symbols.{accepted}
use Rattle.plan.specs.Plans.{Tree, places, after}
use Rattle.plan.specs.Asks.{height, singles}
use Rattle.plan.proofs.Blocks.{Small}
use Rattle.plan.proofs.Spells.{flat}
use Rattle.plan.proofs.Flats.{blocks_spelled}
use Rattle.engine.specs.Blocks.{chosen}
use Rattle.engine.specs.Targets.{Fed, untouched, then_block}
use Rattle.engine.proofs.Readies.{chosen_all}
use Rattle.frame_paths.specs.Survivors.{trellis}
use Rattle.frame_paths.proofs.Blocks.{all_apart}
use Rattle.frame_paths.proofs.Frames.{frame_step}
use Rattle.frame_paths.proofs.Holds.{Holds, row_words_only}
use Rattle.frame_metrics.specs.Metrics.{Applies, entries}
use Rattle.frame_metrics.specs.declared.metrics.Metrics.{Metrics}
use Rattle.frame_rows.specs.Traces.{rows_in, state_total}
use Rattle.frame.proofs.Stored.{rows_grow}

-- the symbols at these places
abbrev pub symbols_at : List ℕ → List ℕ → List ℕ
symbols_at zs ps = map (λ p. get_or zs p 0) ps

module _ (c : Code) (ys zs : List ℕ) (was : Metrics) (store : List ℕ) (old : Holds c ys (state_total was.totals) (rows_in c store was.rows)) where
  -- block by block
  fed_holds : (ts : List Tree) (is : Metrics) (store' : List ℕ) → Small ts → AllByRecursion (λ y. accepted y ≡ true) (symbols_at zs (flat ts))
      → Fed Applies survivors (states c) (chosen (trellis c) zs) was store ts is store'
      → Holds c (ys ++ symbols_at zs (flat ts)) (state_total is.totals) (rows_in c store' is.rows) × (is.rows ≡ was.rows + length ts)
  fed_holds [] is store' small good untouched = (subst (λ l. Holds c l (state_total was.totals) (rows_in c store was.rows)) (sym (append-nil ys)) old, omega arith)
  fed_holds (t ∷ ts) is store' small good (then_block t' ts' x y before now block past cells step) =
      let split = map-append (λ p. get_or zs p 0) (flat ts) (places t) in
      let parts = all_apart _ (symbols_at zs (flat ts)) (symbols_at zs (places t)) (subst (AllByRecursion (λ y. accepted y ≡ true)) split good) in
      let ih = fed_holds ts x before small.1 parts.0 past in
      let new = frame_step c (ys ++ symbols_at zs (flat ts)) zs t (state_total x.totals) (state_total is.totals) (rows_in c before x.rows) _ (entries block (states c)) small.0 parts.1
      (λ i j h l. ap (at none path_of block) (sym (zero-add (i * states c + j))) ∙ cells i j h l) step.gets ih.0 in
      let all : (ys ++ symbols_at zs (flat ts)) ++ symbols_at zs (places t) ≡ ys ++ symbols_at zs (flat ts ++ places t) =
      append_assoc ys (symbols_at zs (flat ts)) (symbols_at zs (places t)) ∙ ap (λ l. ys ++ l) (sym split) in (
        subst (λ l. Holds c l (state_total is.totals) (rows_in c store' is.rows)) all
            (row_words_only c _ (state_total is.totals) (state_total is.totals) _ (rows_in c store' is.rows) (rows_grow c _ _ x is before store' step) (λ j l. refl) new),
        step.counted ∙ omega (arith, ih.1),
      )

  -- a whole plan
  pub plan_holds : (plan : List ℕ) (is : Metrics) (store' : List ℕ) → height plan (length plan) ≡ 0 → singles plan ≡ length zs → Small (after plan (length plan)).blocks
      → AllByRecursion (λ y. accepted y ≡ true) zs
      → Fed Applies survivors (states c) (chosen (trellis c) zs) was store (after plan (length plan)).blocks is store'
      → Holds c (ys ++ zs) (state_total is.totals) (rows_in c store' is.rows) × (is.rows ≡ was.rows + length (after plan (length plan)).blocks)
  plan_holds plan is store' empty all small good fed =
      let whole : symbols_at zs (flat (after plan (length plan)).blocks) ≡ zs =
      ap (symbols_at zs) (blocks_spelled plan empty) ∙ chosen_all zs (singles plan) (omega (arith, all)) ∙ ap (λ n. take n zs) all ∙ take_all (length zs) zs (omega arith) in
      let held = fed_holds (after plan (length plan)).blocks is store' small (subst (AllByRecursion (λ y. accepted y ≡ true)) (sym whole) good) fed in
      (subst (λ l. Holds c (ys ++ l) (state_total is.totals) (rows_in c store' is.rows)) whole held.0, held.1)
