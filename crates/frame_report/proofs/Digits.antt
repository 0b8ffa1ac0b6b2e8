-- The number in a field.
use Rattle.std.proofs.Common.{◌≡◌, ℕ, Bool, true, false, cond, not, eqb, ltb, List, [], ◌∷◌, length, drop, Some, None, rules, refl, ◌∙◌, lt-ltb, arith, eq-eqb}
use Rattle.std.specs.List.{position, position_or_len}
use Rattle.frame_report.specs.Fields.{blanks_on, digits_on, number_of_field}

-- how many blanks stand in front
abbrev front_of : List ℕ → ℕ
front_of s = position_or_len (λ b. not (eqb b 32)) s

blanks_on_is : (s : List ℕ) → blanks_on s ≡ cond (ltb (front_of s) (length s)) (digits_on 0 (drop (front_of s) s)) None
blanks_on_is [] = refl
blanks_on_is (b ∷ bs) = by (eqb b 32) refl (blanks_on_is bs)
  where
    by : (t : Bool) → eqb b 32 ≡ t → blanks_on bs ≡ cond (ltb (front_of bs) (length bs)) (digits_on 0 (drop (front_of bs) bs)) None
        → blanks_on (b ∷ bs) ≡ cond (ltb (front_of (b ∷ bs)) (length (b ∷ bs))) (digits_on 0 (drop (front_of (b ∷ bs)) (b ∷ bs))) None
    by true e h = rw e (search (rules, h))
    by false e h = rw (e, lt-ltb 0 (length (b ∷ bs)) (omega arith))

module _ (s : List ℕ) (four : length s ≡ 4) where
  four_columns : number_of_field s ≡ blanks_on s
  four_columns = rw (eq-eqb (length s) 4 four)

  pub blanks_alone : position (λ b. not (eqb b 32)) s ≡ None → number_of_field s ≡ None
  blanks_alone e = four_columns ∙ blanks_on_is s ∙ by (ltb (front_of s) (length s)) e
    where
      by : (t : Bool) → cond t (Some (front_of s)) None ≡ None → cond t (digits_on 0 (drop (front_of s) s)) None ≡ None
      by true e = cc
      by false e = refl

  pub blanks_until : (n : ℕ) → position (λ b. not (eqb b 32)) s ≡ Some n → number_of_field s ≡ digits_on 0 (drop n s)
  blanks_until n e = four_columns ∙ blanks_on_is s ∙ by (ltb (front_of s) (length s)) e
    where
      by : (t : Bool) → cond t (Some (front_of s)) None ≡ Some n → cond t (digits_on 0 (drop (front_of s) s)) None ≡ digits_on 0 (drop n s)
      by true e = let same : front_of s ≡ n = cc in rw same
      by false e = cc
