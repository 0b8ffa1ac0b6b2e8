-- A first line that ends at the first line's end, and the lines of a text as its first line and the lines of the rest.
use Rattle.std.proofs.Common.{◌≡◌, ℕ, ◌+◌, ◌<◌, ◌≤◌, Bool, true, false, eqb, ltb, cond, Some, None, List, [], ◌∷◌, length, take, drop, rules, sym, refl, ap, ◌∙◌, arith}
use borrow.Author.Tests.{ltb-false}
use Rattle.std.specs.List.{position, position_or_len}
use Rattle.std.proofs.lemmas.List.{take_all, drop_all}
use Rattle.frame_report.specs.Lines.{line_of, rest_of, lines, fronted, deliveries}

-- how many bytes stand before the first end
abbrev end_of : List ℕ → ℕ
end_of text = position_or_len (λ b. eqb b 10) text

line_of_is : (text : List ℕ) → line_of text ≡ take (end_of text) text
line_of_is [] = refl
line_of_is (b ∷ bs) = by (eqb b 10) refl (line_of_is bs)
  where
    by : (t : Bool) → eqb b 10 ≡ t → line_of bs ≡ take (end_of bs) bs → line_of (b ∷ bs) ≡ take (end_of (b ∷ bs)) (b ∷ bs)
    by true e h = rw e
    by false e h = rw e (search (rules, h))

rest_of_is : (text : List ℕ) → rest_of text ≡ drop (end_of text + 1) text
rest_of_is [] = refl
rest_of_is (b ∷ bs) = by (eqb b 10) refl (rest_of_is bs)
  where
    by : (t : Bool) → eqb b 10 ≡ t → rest_of bs ≡ drop (end_of bs + 1) bs → rest_of (b ∷ bs) ≡ drop (end_of (b ∷ bs) + 1) (b ∷ bs)
    by true e h = rw e
    by false e h = rw e (search (rules, h))

module _ (text : List ℕ) where
  pub ends_at : (n : ℕ) → position (λ b. eqb b 10) text ≡ Some n → (take n text ≡ line_of text) × (drop (n + 1) text ≡ rest_of text)
  ends_at n e = by (ltb (end_of text) (length text)) e
    where
      by : (t : Bool) → cond t (Some (end_of text)) None ≡ Some n → (take n text ≡ line_of text) × (drop (n + 1) text ≡ rest_of text)
      by true e = let same : n ≡ end_of text = cc in rw same (sym (line_of_is text), sym (rest_of_is text))
      by false e = cc

  pub ends_nowhere : position (λ b. eqb b 10) text ≡ None → (text ≡ line_of text) × ([] ≡ rest_of text)
  ends_nowhere e = by (ltb (end_of text) (length text)) refl e
    where
      by : (t : Bool) → ltb (end_of text) (length text) ≡ t → cond t (Some (end_of text)) None ≡ None → (text ≡ line_of text) × ([] ≡ rest_of text)
      by true l e = cc
      by false l e =
          let all : length text ≤ end_of text = ltb-false _ _ l in
          (sym (take_all (end_of text) text all) ∙ sym (line_of_is text), sym (drop_all (end_of text + 1) text (omega arith)) ∙ sym (rest_of_is text))

-- a text that is not empty has a first line, and the lines of the rest after it
pub lines_more : (text : List ℕ) → 0 < length text → lines text ≡ line_of text ∷ lines (rest_of text)
lines_more [] h = absurd (omega arith)
lines_more (b ∷ []) h = by (eqb b 10) refl
  where
    by : (t : Bool) → eqb b 10 ≡ t → lines (b ∷ []) ≡ line_of (b ∷ []) ∷ lines (rest_of (b ∷ []))
    by true e = rw e
    by false e = rw e
lines_more (b ∷ (x ∷ xs)) h = by (eqb b 10) refl (lines_more (x ∷ xs) (omega arith))
  where
    by : (t : Bool) → eqb b 10 ≡ t → lines (x ∷ xs) ≡ line_of (x ∷ xs) ∷ lines (rest_of (x ∷ xs))
        → lines (b ∷ (x ∷ xs)) ≡ line_of (b ∷ (x ∷ xs)) ∷ lines (rest_of (b ∷ (x ∷ xs)))
    by true e more = rw e
    by false e more = rw e (ap (fronted b) more)

-- so a delivery is the first two lines, of which the second may be missing
pub deliveries_more : (text : List ℕ) → 0 < length text
    → deliveries (lines text) ≡ (line_of text, line_of (rest_of text)) ∷ deliveries (lines (rest_of (rest_of text)))
deliveries_more text h = ap deliveries (lines_more text h) ∙ second (rest_of text)
  where
    second : (xs : List ℕ) → deliveries (line_of text ∷ lines xs) ≡ (line_of text, line_of xs) ∷ deliveries (lines (rest_of xs))
    second [] = refl
    second (x ∷ xs) = ap (λ (ls : List (List ℕ)). deliveries (line_of text ∷ ls)) (lines_more (x ∷ xs) (omega arith))
