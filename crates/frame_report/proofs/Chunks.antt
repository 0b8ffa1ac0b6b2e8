-- A line that is read in chunks of four columns, which are its fields.
use Rattle.std.proofs.Common.{◌≡◌, ℕ, ◌+◌, ◌-◌, ◌*◌, ◌<◌, min, true, List, [], ◌∷◌, ◌++◌, map, length, take, drop, is_some, Some, None, Ok, Err, unwrap_or, sym, ap, ◌∙◌, inl, inr, arith, below_more, length-append, length-drop, append-nil}
use Rattle.std.specs.List.{range_with_len}
use Rattle.std.proofs.lemmas.Bool.{cases_lt}
use Rattle.std.proofs.lemmas.List.{take_all, take_at, drop_all, drop_at, drop-drop, nil_from_length}
use Rattle.std.proofs.lemmas.List.FromFn.{map-range_with_len_more}
use Rattle.refusal.specs.declared.Refusal.TheVariants.{Text}
use Rattle.refusal.specs.Questions.{asked}
use Rattle.refusal.proofs.Questions.{asked_yes, asked_no}
use Rattle.frame_report.specs.Fields.{field, field_count, fields, number_at, number_of_field, numbers}

-- the first n fields of a line are numbers and are read, and `rest` is left of it
pub record Reading (line rest : List ℕ) (n : ℕ) (read : List ℕ) : Type 0 where
  pub left : rest ≡ drop (4 * n) line
  pub begun : 4 * n < length line + 4
  pub good : (k : ℕ) → k < n → is_some (number_of_field (field line k)) ≡ true
  pub so_far : read ≡ map (number_at line) (range_with_len 0 n)

module _ (line rest : List ℕ) (n : ℕ) (read : List ℕ) (r : Reading line rest n read) where
  pub left_length : length rest ≡ length line - 4 * n
  left_length = ap length r.left ∙ length-drop (4 * n) line

  -- where nothing is left, all fields are read
  pub reading_all : length rest ≡ 0 → (n ≡ field_count line) × ((read ≡ numbers line) × (asked (fields line ∷ []) (field_count line) ≡ Ok (field_count line)))
  unfolding numbers
  reading_all none =
      let count : n ≡ field_count line = omega (arith, left_length, r.begun) in
      (count, (r.so_far ∙ ap (λ (m : ℕ). map (number_at line) (range_with_len 0 m)) count, asked_yes (fields line) [] (field_count line) (λ k h. r.good k (omega arith))))

  module _ (chunk rest' : List ℕ) (parts : rest ≡ chunk ++ rest') (long : length chunk ≡ min 4 (length rest)) (some : 0 < length rest) where
    sum : length rest ≡ length chunk + length rest'
    sum = ap length parts ∙ length-append chunk rest'

    cut : (chunk ≡ take 4 rest) × (rest' ≡ drop 4 rest)
    cut =
        elim (cases_lt (length rest) 4) [
          | inl short ↦
              let none : rest' ≡ [] = nil_from_length rest' (omega (arith, sum)) in
              let whole : rest ≡ chunk = parts ∙ ap (λ l. chunk ++ l) none ∙ append-nil chunk in
              (sym whole ∙ sym (take_all 4 rest (omega arith)), none ∙ sym (drop_all 4 rest (omega arith)))
          | inr large ↦
              let four : length chunk ≡ 4 = omega arith in
              (sym (take_at chunk rest' 4 four) ∙ ap (take 4) (sym parts), sym (drop_at chunk rest' 4 four) ∙ ap (drop 4) (sym parts))
        ]

    this_field : chunk ≡ field line n
    this_field = cut.0 ∙ ap (take 4) r.left

    pub reading_more : (x : ℕ) → number_of_field chunk ≡ Some x → Reading line rest' (n + 1) (read ++ x ∷ [])
    reading_more x is =
        let here : number_of_field (field line n) ≡ Some x = ap number_of_field (sym this_field) ∙ is in
        let next : 4 * n + 4 ≡ 4 * (n + 1) = omega arith in
        record {
          left = cut.1 ∙ ap (drop 4) r.left ∙ drop-drop 4 (4 * n) line ∙ ap (λ (m : ℕ). drop m line) next;
          begun = omega (arith, left_length);
          good = below_more _ _ r.good (ap is_some here);
          so_far =
              ap (λ l. l ++ x ∷ []) r.so_far
              ∙ ap (λ (y : ℕ). map (number_at line) (range_with_len 0 n) ++ y ∷ []) (sym (ap (λ o. unwrap_or o 0) here))
              ∙ sym (map-range_with_len_more (number_at line) 0 n n (omega arith));
        }

    pub reading_stops : number_of_field chunk ≡ None → asked (fields line ∷ []) (field_count line) ≡ Err (Text n)
    reading_stops is =
        asked_no (fields line) [] (field_count line) n (omega (arith, left_length)) (ap (λ f. is_some (number_of_field f)) (sym this_field) ∙ ap is_some is) r.good
