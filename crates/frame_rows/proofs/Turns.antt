-- Turns of the loops over rows: the latest row of those that are left is traced.
use Rattle.std.proofs.Common.{◌≡◌, ℕ, zero, suc, ◌+◌, ◌-◌, ◌<◌, ◌≤◌, Bool, true, false, ◌&&◌, eqb, leb, List, ◌∷◌, ◌++◌, length, take, drop, sym, refl, ap, ◌∙◌, append_assoc, arith}
use borrow.Rule.Slice.PartMut.{put_mid}
use Rattle.std.proofs.lemmas.List.{drop_at, drop-drop, length-take-le}
use Rattle.std.proofs.lemmas.Bool.{and_parts, and_right, le-leb, leb-true, ne_eqb}
use Rattle.std.proofs.lemmas.Bool.Decides.{nat_tests}
use Rattle.code.specs.declared.description.Code.{Code}
use Rattle.frame_paths.specs.Rows.{Row, all_steps, decoded, rows_in_range, origin, traced}
use Rattle.frame_rows.specs.Traces.{row_at, rows_in, sound}

module _ (c : Code) where
  -- the latest row and those before it
  rows_split : (store : List ℕ) (k : ℕ) → 0 < k → rows_in c store k ≡ row_at c store (k - 1) ∷ rows_in c store (k - 1)
  rows_split store zero h = absurd (omega arith)
  rows_split store (suc m) h = let is : suc m - 1 ≡ m = omega arith in rw is

  sound_more : (r : Row) (rs : List Row) (left j : ℕ) → 1 ≤ r.steps → r.steps ≤ 32 → r.steps ≤ left
      → sound c (r ∷ rs) left j ≡ sound c rs (left - r.steps) (origin c r.steps j (r.words j))
  sound_more r rs left j some short fits =
      let all : eqb (all_steps rs + r.steps) left ≡ eqb (all_steps rs) (left - r.steps) = grind (arith, nat_tests) in
      rw (le-leb 1 r.steps some, le-leb r.steps 32 short, all)

  sound_never : (r : Row) (rs : List Row) (left j : ℕ) → (1 ≤ r.steps → r.steps ≤ 32 → r.steps ≤ left → ⊥) → sound c (r ∷ rs) left j ≡ false
  sound_never r rs left j fails = by _ refl _ refl
    where
      by : (p : Bool) → leb 1 r.steps ≡ p → (q : Bool) → leb r.steps 32 ≡ q → sound c (r ∷ rs) left j ≡ false
      by false p q e = rw p
      by true p false q = rw (p, q)
      by true p true q =
          let differ : eqb (all_steps rs + r.steps) left ≡ false =
          ne_eqb _ _ (λ same. fails (leb-true _ _ p) (leb-true _ _ q) (omega arith)) in
          rw (p, q, differ) (and_right _ _ refl)

  -- one row of steps s and word w, which led from j to i
  module _ (store : List ℕ) (k j s w : ℕ) (some : 0 < k) (s-is : s ≡ (row_at c store (k - 1)).steps) (w-is : w ≡ (row_at c store (k - 1)).words j) where
    pub sound_again : (left : ℕ) → 1 ≤ s → s ≤ 32 → s ≤ left → (n i : ℕ) → n ≡ s → i ≡ origin c n j w
        → sound c (rows_in c store k) left j ≡ sound c (rows_in c store (k - 1)) (left - s) i
    sound_again left pos short fits n i n-is i-is =
        ap (λ rs. sound c rs left j) (rows_split store k some)
        ∙ sound_more (row_at c store (k - 1)) (rows_in c store (k - 1)) left j (omega arith) (omega arith) (omega arith)
        ∙ sym (rw (i-is, n-is, s-is, w-is))

    pub sound_fails : (left : ℕ) → (1 ≤ s → s ≤ 32 → s ≤ left → ⊥) → sound c (rows_in c store k) left j ≡ false
    sound_fails left fails =
        ap (λ rs. sound c rs left j) (rows_split store k some)
        ∙ sound_never (row_at c store (k - 1)) (rows_in c store (k - 1)) left j (λ p q r. fails (omega arith) (omega arith) (omega arith))

    -- where all rows are in range and have `end` steps
    pub record Latest (end : ℕ) : Type 0 where
      pub short : s ≤ 32
      pub fits : s ≤ end
      pub range : rows_in_range (rows_in c store (k - 1)) ≡ true
      pub steps : all_steps (rows_in c store (k - 1)) ≡ end - s

    pub latest : (end : ℕ) → rows_in_range (rows_in c store k) ≡ true → all_steps (rows_in c store k) ≡ end → Latest end
    latest end fine is =
        let n = (row_at c store (k - 1)).steps in
        let both = and_parts (leb 1 n && leb n 32) (rows_in_range (rows_in c store (k - 1))) (sym (ap rows_in_range (rows_split store k some)) ∙ fine) in
        let here = and_parts (leb 1 n) (leb n 32) both.0 in
        let parts : all_steps (rows_in c store (k - 1)) + n ≡ end = sym (ap all_steps (rows_split store k some)) ∙ is in
        record { short = omega (arith, leb-true n 32 here.1); fits = omega arith; range = both.1; steps = omega arith }

    pub decoded_again : (done : List ℕ) (n i : ℕ) (ys : List ℕ) → n ≡ s → i ≡ origin c n j w → ys ≡ traced c n j w
        → decoded c (rows_in c store k) j ++ done ≡ decoded c (rows_in c store (k - 1)) i ++ (ys ++ done)
    decoded_again done n i ys n-is i-is ys-is =
        let r = row_at c store (k - 1) in
        ap (λ rs. decoded c rs j ++ done) (rows_split store k some)
        ∙ append_assoc (decoded c (rows_in c store (k - 1)) (origin c r.steps j (r.words j))) (traced c r.steps j (r.words j)) done
        ∙ sym (rw (ys-is, i-is, n-is, s-is, w-is))

-- what lies from the start of a part on, after a write to the part
pub drop_part : (start end : ℕ) (xs ys : List ℕ) → start ≤ end → end ≤ length xs → drop start (put_mid start (end - start) xs ys) ≡ ys ++ drop end xs
drop_part start end xs ys low high =
    let front : length (take start xs) ≡ start = length-take-le start xs (omega arith) in
    let is : start + (end - start) ≡ end = omega arith in
    let rest : drop (end - start) (drop start xs) ≡ drop end xs = drop-drop (end - start) start xs ∙ ap (λ n. drop n xs) is in
    drop_at (take start xs) (ys ++ drop (end - start) (drop start xs)) start front ∙ ap (λ zs. ys ++ zs) rest
