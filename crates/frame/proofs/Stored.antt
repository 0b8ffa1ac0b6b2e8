-- The rows in a store after letter a: those that were there, and one more.
use Rattle.std.proofs.Common.{◌≡◌, ℕ, zero, suc, ◌+◌, ◌*◌, ◌<◌, ◌≤◌, List, ◌∷◌, get_or, take, sym, refl, ap, ◌∙◌, subst, mul-le-mul_right, suc-mul, add-one, arith, get_or-take}
use Rattle.code.specs.declared.description.Code.{Code}
use Rattle.code.specs.Codes.{states}
use Rattle.algebra_survivor.specs.Survivors.{Path}
use Rattle.frame_paths.proofs.Holds.{SameRows}
use Rattle.frame_metrics.specs.Metrics.{Selected}
use Rattle.frame_metrics.specs.declared.metrics.Metrics.{Metrics}
use Rattle.frame_rows.specs.Traces.{row_words, rows_in}

-- stores that agree in front agree at each place there
at_front : (n p : ℕ) (xs ys : List ℕ) → p < n → take n xs ≡ take n ys → get_or xs p 0 ≡ get_or ys p 0
at_front n p xs ys h e = sym (get_or-take n xs p 0 h) ∙ ap (λ l. get_or l p 0) e ∙ get_or-take n ys p 0 h

-- a place of row k lies before row n
row_before : (w k n p : ℕ) → k < n → p < w → k * w + p < n * w
row_before w k n p h l = omega (arith, suc-mul k w, mul-le-mul_right {m = suc k} {n = n} w h)

module _ (c : Code) (store store' : List ℕ) (n : ℕ) (front : take (n * row_words c) store' ≡ take (n * row_words c) store) where
  same_below : (k : ℕ) → k ≤ n → SameRows c (rows_in c store k) (rows_in c store' k)
  same_below zero h = tt
  same_below (suc k) h =
      let first : k * row_words c + 0 < n * row_words c = row_before (row_words c) k n 0 h (omega arith) in (
        at_front (n * row_words c) (k * row_words c) store store' (omega (arith, first)) (sym front),
        (λ j l. at_front (n * row_words c) (k * row_words c + (1 + j)) store store' (row_before (row_words c) k n (1 + j) h (omega arith)) (sym front)),
        same_below k (omega arith),
      )

-- the rows after letter a, of which the new one has so many steps
pub rows_grow : (c : Code) (symbols : ℕ) (m : ℕ → ℕ → Path) (was is : Metrics) (store store' : List ℕ) → Selected (states c) symbols m was is store store'
    → SameRows c (record { steps = symbols; words = λ j. get_or store' (was.rows * row_words c + (1 + j)) 0 } ∷ rows_in c store was.rows) (rows_in c store' is.rows)
rows_grow c symbols m was is store store' s =
    subst (λ k. SameRows c (record { steps = symbols; words = λ j. get_or store' (was.rows * row_words c + (1 + j)) 0 } ∷ rows_in c store was.rows) (rows_in c store' k))
    (sym (s.counted ∙ add-one was.rows))
    (sym s.steps, (λ j l. refl), same_below c store store' was.rows s.before was.rows (omega arith))
