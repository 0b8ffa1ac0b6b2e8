-- A walk over the rows of a store from the latest back.
use Rattle.std.proofs.Common.{◌≡◌, ℕ, zero, suc, ◌+◌, ◌-◌, ◌*◌, ◌%◌, ◌<◌, ◌≤◌, List, [], ◌++◌, length, get_or, take, Some, None, Bor, Option, sym, refl, ap, ◌∙◌, add-zero, suc-mul, zero-mul, arith, length-append, get_or-take}
use Rattle.std.proofs.Math.Nat.{mul-mod_left}
use Rattle.std.proofs.lemmas.List.{get_or-append_right, length-take-le, nil_from_length, take-append-le, take-take, take_all}
use Rattle.std.specs.declared.slice.RChunksExact.{RChunksExact}
use Rattle.std.specs.Slice.Exact.{rchunks_exact_rest, rchunks_exact_size, rchunks_exact_steps}
use Rattle.code.specs.declared.description.Code.{Code}
use Rattle.frame_rows.specs.Traces.{row_at, row_words}

-- the last of n parts of w elements
record Cut (w n : ℕ) (xs front row : List ℕ) : Type 0 where
  some : 0 < n
  place : (i : ℕ) → i < w → get_or row i 0 ≡ get_or xs ((n - 1) * w + i) 0
  inside : (n - 1) * w ≤ length xs
  before : front ≡ take ((n - 1) * w) xs

cut : (w n : ℕ) (xs front row : List ℕ) → 0 < w → n * w ≤ length xs → take (n * w) xs ≡ front ++ row → length row ≡ w → Cut w n xs front row
cut w n xs front row some inside split long = by n inside split (sym (length-take-le (n * w) xs inside) ∙ ap length split ∙ length-append front row)
  where
    by : (n : ℕ) → n * w ≤ length xs → take (n * w) xs ≡ front ++ row → n * w ≡ length front + length row → Cut w n xs front row
    by zero inside split words = absurd (omega (arith, zero-mul w))
    by (suc m) inside split words =
        let before : length front ≡ m * w = omega (arith, suc-mul m w) in
        let is : suc m - 1 ≡ m = omega arith in
        let low : m * w ≤ suc m * w = omega (arith, suc-mul m w) in
        record {
          some = omega arith;
          place = λ i h.
              let here : (m * w + i) - m * w ≡ i = omega arith in
              rw is (sym (ap (λ l. get_or l (m * w + i) 0) split ∙ get_or-append_right front row (m * w) (m * w + i) 0 before (omega arith) ∙ ap (λ k. get_or row k 0) here)
              ∙ get_or-take (suc m * w) xs (m * w + i) 0 (omega (arith, suc-mul m w)));
          inside = rw is (omega arith);
          before = rw is (sym (sym (take-take (m * w) (suc m * w) xs low) ∙ ap (take (m * w)) split ∙ take-append-le (m * w) front row (omega arith) ∙ take_all (m * w) front (omega arith)));
        }

-- n rows of w words fill what they stand in
pub whole : (w n : ℕ) (store before rest : List ℕ) → n * w ≤ length store → take (n * w) store ≡ before ++ rest → length before ≡ length (take (n * w) store) % w → rest ≡ take (n * w) store
whole w n store before rest inside split long =
    let none : before ≡ [] = nil_from_length before (long ∙ rw (length-take-le (n * w) store inside) (mul-mod_left n w)) in
    sym (split ∙ ap (λ l. l ++ rest) none)

module _ (c : Code) (store : List ℕ) where
  -- the first rows of the store are left
  pub record Left (it : RChunksExact ℕ) : Type 0 where
    pub count : ℕ
    pub inside : count * row_words c ≤ length store
    pub rest : rchunks_exact_rest it ≡ take (count * row_words c) store
    pub size : rchunks_exact_size it ≡ row_words c

  abbrev pub Steps : RChunksExact ℕ → Option (Bor (List ℕ)) → RChunksExact ℕ → Type 0
  Steps s r t = rchunks_exact_steps s r t

  -- the row x came off
  pub record Came (s : RChunksExact ℕ) (left : Left s) (x : List ℕ) (t : RChunksExact ℕ) : Type 0 where
    pub some : 0 < left.count
    pub steps : get_or x 0 0 ≡ (row_at c store (left.count - 1)).steps
    pub word : (j : ℕ) → 1 + j < row_words c → get_or x (1 + j) 0 ≡ (row_at c store (left.count - 1)).words j
    pub long : length x ≡ row_words c
    pub left' : Left t
    pub fewer : left'.count ≡ left.count - 1

  words_left : (n : ℕ) → n * row_words c ≤ length store → length (take (n * row_words c) store) ≡ n * row_words c
  words_left n h = length-take-le (n * row_words c) store h

  pub none_left : (s t : RChunksExact ℕ) (r : Option (Bor (List ℕ))) (left : Left s) → r ≡ None → Steps s r t → left.count ≡ 0
  none_left s t r left is steps = by left.count (left.inside) (ap length left.rest) (left.size) ((rw is at steps).2.0)
    where
      by : (n : ℕ) → n * row_words c ≤ length store → length (rchunks_exact_rest s) ≡ length (take (n * row_words c) store)
          → rchunks_exact_size s ≡ row_words c → length (rchunks_exact_rest s) < rchunks_exact_size s → n ≡ 0
      by zero h long size low = refl
      by (suc n) h long size low = absurd (omega (arith, words_left (suc n) h, suc-mul n (row_words c)))

  pub came : (s t : RChunksExact ℕ) (r : Option (Bor (List ℕ))) (x : Bor (List ℕ)) (left : Left s) → r ≡ Some x → Steps s r t → Came s left x.now t
  came s t r x left is steps =
      let w = row_words c in
      let n = left.count in
      let parts = rw is at steps in
      let rest' = rchunks_exact_rest t in
      let split : take (n * w) store ≡ rest' ++ x.now = sym left.rest ∙ parts.2.0 in
      let long : length x.now ≡ w = parts.2.1 ∙ left.size in
      let last = cut w n store rest' x.now (omega arith) left.inside split long in
      record {
        some = last.some;
        steps = last.place 0 (omega arith) ∙ ap (λ i. get_or store i 0) (add-zero ((n - 1) * w));
        word = λ j h. last.place (1 + j) h;
        long = long;
        left' = record {
          count = n - 1;
          inside = last.inside;
          rest = last.before;
          size = parts.0 ∙ left.size;
        };
        fewer = refl;
      }
