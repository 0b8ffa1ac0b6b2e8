-- A walk over the totals and, beside them, the rows of a matrix.
use Rattle.std.proofs.Common.{◌≡◌, ℕ, ◌+◌, ◌-◌, add-zero, add-one, ◌*◌, ◌<◌, ◌≤◌, max, List, ◌∷◌, ◌++◌, length, get_or, drop, Some, None, Bor, Option, sym, refl, ap, ◌∙◌, inl, inr, arith, length-append, length-drop, get_or-drop, suc-mul}
use Rattle.std.proofs.lemmas.List.{drop-drop, drop_at, get_or_append_left}
use Rattle.std.proofs.lemmas.Bool.{cases_lt}
use Rattle.engine.proofs.Places.{row_in}
use Rattle.std.specs.declared.iter.Zip.{Zip}
use Rattle.std.specs.declared.slice.Iter.{Iter}
use Rattle.std.specs.declared.slice.ChunksExact.{ChunksExact}
use Rattle.std.specs.Iterator.Adapters.{zip_first, zip_second, zip_steps}
use Rattle.std.specs.Slice.Iter.{chunks_exact_rest, chunks_exact_size, chunks_exact_steps, iter_rest, iter_steps}
use Rattle.algebra_survivor.specs.declared.Survivor.{Survivor}
use Rattle.algebra_survivor.specs.Survivors.{none_row}
use Rattle.frame_rows.specs.Traces.{state_total}

-- the first of what is left
head : (n : ℕ) (xs : List (Option ℕ)) (x : Option ℕ) (rest : List (Option ℕ)) → drop n xs ≡ x ∷ rest → (x ≡ get_or xs n None) × (rest ≡ drop (n + 1) xs)
head n xs x rest e = (ap (λ l. get_or l 0 None) (sym e) ∙ get_or-drop n xs 0 None ∙ ap (λ k. get_or xs k None) (add-zero n), ap (drop 1) (sym e) ∙ drop-drop 1 n xs)

-- a row is left where a state is
full : (n d : ℕ) → n ≤ d → d * d - n * d < max d 1 → n ≡ d
full n d h low = elim (cases_lt n d) [ inl l ↦ absurd (omega (arith, row_in n d l)) | inr g ↦ omega arith ]

not_full : (n d : ℕ) → n ≤ d → max d 1 ≤ d * d - n * d → n < d
not_full n d h some = elim (cases_lt n d) [ inl l ↦ l | inr g ↦ let is : n ≡ d = omega arith in let none : d * d - n * d ≡ 0 = rw is (omega arith) in absurd (omega arith) ]

module _ (totals : List (Option ℕ)) (m : List Survivor) (d : ℕ) where
  -- the states from the place on are left
  pub record Left (it : Zip (Iter (Option ℕ)) (ChunksExact Survivor)) : Type 0 where
    pub place : ℕ
    pub inside : place ≤ d
    pub totals_left : iter_rest (zip_first it) ≡ drop place totals
    pub rows_left : chunks_exact_rest (zip_second it) ≡ drop (place * d) m
    pub size : chunks_exact_size (zip_second it) ≡ max d 1

  -- a total and a row came
  pub record Came (s : Zip (Iter (Option ℕ)) (ChunksExact Survivor)) (left : Left s) (total : Option ℕ) (row : List Survivor) (t : Zip (Iter (Option ℕ)) (ChunksExact Survivor)) : Type 0 where
    pub total_is : total ≡ state_total totals left.place
    pub long : length row ≡ d
    pub cells : (j : ℕ) → j < d → get_or row j none_row ≡ get_or m (left.place * d + j) none_row
    pub left' : Left t
    pub further : left'.place ≡ left.place + 1

  module _ (few : d ≤ length totals) (square : length m ≡ d * d) (s t : Zip (Iter (Option ℕ)) (ChunksExact Survivor)) (r : Option (Bor (Option ℕ) × Bor (List Survivor))) (left : Left s) (steps : zip_steps iter_steps chunks_exact_steps s r t) where
    words_left : length (chunks_exact_rest (zip_second s)) ≡ d * d - left.place * d
    words_left = ap length left.rows_left ∙ length-drop (left.place * d) m ∙ ap (λ n. n - left.place * d) square

    pub all_came : r ≡ None → left.place ≡ d
    all_came is = elim (rw is at steps) [
      | inl over ↦ let none : length (drop left.place totals) ≡ 0 = ap length (sym left.totals_left) ∙ over.1.0 in omega (arith, left.inside, length-drop left.place totals)
      | inr over ↦ let short : d * d - left.place * d < max d 1 = rw (words_left, left.size) at over.1.1.0 in full left.place d left.inside short
    ]

    pub came : (x : Bor (Option ℕ)) (y : Bor (List Survivor)) → r ≡ Some (x, y) → Came s left x.now y.now t
    came x y is =
        let n = left.place in
        let parts = rw is at steps in
        let first = head n totals x.now (iter_rest (zip_first t)) (sym left.totals_left ∙ parts.0) in
        let words : drop (n * d) m ≡ y.now ++ chunks_exact_rest (zip_second t) = sym left.rows_left ∙ parts.1.1.0 in
        let long : length y.now ≡ max d 1 = parts.1.1.1 ∙ left.size in
        let whole : d * d - n * d ≡ length y.now + length (chunks_exact_rest (zip_second t)) = sym words_left ∙ ap length parts.1.1.0 ∙ length-append y.now (chunks_exact_rest (zip_second t)) in
        let below : n < d = not_full n d left.inside (omega arith) in
        let wide : length y.now ≡ d = omega arith in
        let after : n * d + d ≡ (n + 1) * d = sym (rw add-one (suc-mul n d)) in
        record {
          total_is = first.0;
          long = wide;
          cells = λ j h. sym (get_or_append_left y.now (chunks_exact_rest (zip_second t)) none_row j (omega arith)) ∙ ap (λ l. get_or l j none_row) (sym words) ∙ get_or-drop (n * d) m j none_row;
          left' = record {
            place = n + 1;
            inside = omega arith;
            totals_left = first.1;
            rows_left = sym (drop_at y.now (chunks_exact_rest (zip_second t)) d wide) ∙ ap (drop d) (sym words) ∙ drop-drop d (n * d) m ∙ ap (λ k. drop k m) after;
            size = parts.1.0 ∙ left.size;
          };
          further = refl;
        }
