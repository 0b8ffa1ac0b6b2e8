-- What the totals and the rows of a frame say of the paths over its symbols, and that a fresh frame says it of no symbols.
use Rattle.std.proofs.Common.{◌≡◌, ℕ, zero, suc, ◌+◌, ◌<◌, ◌≤◌, true, ◌&&◌, leb, List, [], ◌∷◌, ◌++◌, length, Some, None, Option, sym, refl, ap, ◌∙◌, subst, ap₂, arith}
use Rattle.code.specs.declared.description.Code.{Code}
use Rattle.code.specs.Codes.{states}
use Rattle.frame_paths.specs.Paths.{costs, Reaches}
use Rattle.frame_paths.specs.Rows.{Row, origin, traced, started, decoded, all_steps, rows_in_range}
use Rattle.frame_paths.specs.Survivors.{word, Lower}
use Rattle.frame_paths.proofs.Trace.{origin_below}

-- of state j after the symbols ys: no total where no path ends there, else the least cost, and the trace gives the path of that cost
-- with the least word
abbrev pub Served : Code → List ℕ → List Row → ℕ → Option ℕ → Type 0
Served c ys rows j None = (us : List ℕ) → Reaches c ys j us → ⊥
Served c ys rows j (Some e) =
    Reaches c ys j (decoded c rows j)
    × (costs c 0 ys (decoded c rows j) ≡ e)
    × (started c rows j ≡ 0)
    × ((vs : List ℕ) → Reaches c ys j vs → Lower e (word c 0 (decoded c rows j)) (costs c 0 ys vs) (word c 0 vs))

-- totals and rows are those of a frame that has taken the symbols ys
pub record Holds (c : Code) (ys : List ℕ) (totals : ℕ → Option ℕ) (rows : List Row) : Type 0 where
  pub served : (j : ℕ) → j < states c → Served c ys rows j (totals j)
  pub counted : all_steps rows ≡ length ys
  pub ranged : rows_in_range rows ≡ true

-- a frame that has taken nothing: the total 0 at state 0, and none elsewhere
pub holds_nothing : (c : Code) (totals : ℕ → Option ℕ) → totals 0 ≡ Some 0 → ((j : ℕ) → 1 ≤ j → j < states c → totals j ≡ None) → Holds c [] totals []
holds_nothing c totals here rest = record { served = start; counted = refl; ranged = refl }
  where
    elsewhere : (j : ℕ) (us : List ℕ) → Reaches c [] j us → j ≡ 0
    elsewhere j [] l = sym l.there
    elsewhere j (u ∷ us) l = absurd (omega (arith, l.as_long))

    start : (j : ℕ) → j < states c → Served c [] [] j (totals j)
    start zero p = subst (Served c [] [] 0) (sym here) (record { bits = tt; as_long = refl; there = refl }, refl, refl, λ vs l. (omega arith, λ _. omega arith))
    start (suc j) p = subst (Served c [] [] (suc j)) (sym (rest (suc j) (omega arith) p)) (λ us l. omega (arith, elsewhere (suc j) us l))

-- rows of the same steps, whose words are the same at each state
abbrev pub SameRows : Code → List Row → List Row → Type 0
SameRows c [] [] = Unit {0}
SameRows c [] (s ∷ ss) = ⊥
SameRows c (r ∷ rs) [] = ⊥
SameRows c (r ∷ rs) (s ∷ ss) = (r.steps ≡ s.steps) × ((j : ℕ) → j < states c → r.words j ≡ s.words j) × SameRows c rs ss

module _ (c : Code) where
  pub rows_same : (rs : List Row) → SameRows c rs rs
  rows_same [] = tt
  rows_same (r ∷ rs) = (refl, (λ j p. refl), rows_same rs)

  pub same_decoded : (rs ss : List Row) → SameRows c rs ss → (j : ℕ) → j < states c → decoded c rs j ≡ decoded c ss j
  same_decoded [] [] e j p = refl
  same_decoded [] (s ∷ ss) e j p = absurd e
  same_decoded (r ∷ rs) [] e j p = absurd e
  same_decoded (r ∷ rs) (s ∷ ss) e j p =
      ap (λ l. l ++ traced c r.steps j (r.words j)) (same_decoded rs ss e.2 (origin c r.steps j (r.words j)) (origin_below c r.steps j (r.words j) p))
      ∙ ap₂ (λ n w. decoded c ss (origin c n j w) ++ traced c n j w) e.0 (e.1 j p)

  pub same_started : (rs ss : List Row) → SameRows c rs ss → (j : ℕ) → j < states c → started c rs j ≡ started c ss j
  same_started [] [] e j p = refl
  same_started [] (s ∷ ss) e j p = absurd e
  same_started (r ∷ rs) [] e j p = absurd e
  same_started (r ∷ rs) (s ∷ ss) e j p =
      same_started rs ss e.2 (origin c r.steps j (r.words j)) (origin_below c r.steps j (r.words j) p)
      ∙ ap₂ (λ n w. started c ss (origin c n j w)) e.0 (e.1 j p)

  pub same_steps : (rs ss : List Row) → SameRows c rs ss → all_steps rs ≡ all_steps ss
  same_steps [] [] e = refl
  same_steps [] (s ∷ ss) e = absurd e
  same_steps (r ∷ rs) [] e = absurd e
  same_steps (r ∷ rs) (s ∷ ss) e = ap₂ (λ (m n : ℕ). m + n) (same_steps rs ss e.2) e.0

  pub same_range : (rs ss : List Row) → SameRows c rs ss → rows_in_range rs ≡ rows_in_range ss
  same_range [] [] e = refl
  same_range [] (s ∷ ss) e = absurd e
  same_range (r ∷ rs) [] e = absurd e
  same_range (r ∷ rs) (s ∷ ss) e = ap₂ (λ n t. (leb 1 n && leb n 32) && t) e.0 (same_range rs ss e.2)

  -- what a frame says depends on its words and totals at its states alone
  pub row_words_only : (ys : List ℕ) (totals totals' : ℕ → Option ℕ) (rows rows' : List Row) → SameRows c rows rows' → ((j : ℕ) → j < states c → totals j ≡ totals' j)
      → Holds c ys totals rows → Holds c ys totals' rows'
  row_words_only ys totals totals' rows rows' e f was = record {
    served = λ j p. go j (same_decoded rows rows' e j p) (same_started rows rows' e j p) (totals' j) (subst (Served c ys rows j) (f j p) (was.served j p));
    counted = sym (same_steps rows rows' e) ∙ was.counted;
    ranged = sym (same_range rows rows' e) ∙ was.ranged;
  }
    where
      go : (j : ℕ) → decoded c rows j ≡ decoded c rows' j → started c rows j ≡ started c rows' j → (o : Option ℕ) → Served c ys rows j o → Served c ys rows' j o
      go j a b None s = s
      go j a b (Some n) s = (
        subst (Reaches c ys j) a s.0,
        ap (costs c 0 ys) (sym a) ∙ s.1,
        sym b ∙ s.2,
        λ vs l. subst (λ us. Lower n (word c 0 us) (costs c 0 ys vs) (word c 0 vs)) a (s.3 vs l),
      )
