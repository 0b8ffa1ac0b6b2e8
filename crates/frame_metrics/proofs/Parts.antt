-- What stands in a part of a list that was written.
use Rattle.std.proofs.Common.{◌≡◌, ℕ, ◌+◌, ◌-◌, ◌<◌, ◌≤◌, List, ◌++◌, length, get_or, take, drop, sym, ap, ◌∙◌, arith}
use borrow.Rule.Slice.PartMut.{put_mid}
use Rattle.std.proofs.lemmas.List.{get_or_append_left, get_or-append_right, get_or-drop, length-take-le}

module _ {X : Type 0} (z : X) where
  -- in a part of k elements from place a that now holds ys
  pub get_or_written : (a k : ℕ) (xs ys : List X) (i : ℕ) → a ≤ length xs → i < length ys → get_or (put_mid a k xs ys) (a + i) z ≡ get_or ys i z
  get_or_written a k xs ys i low h =
      let is : (a + i) - a ≡ i = omega arith in
      get_or-append_right (take a xs) (ys ++ drop k (drop a xs)) a (a + i) z (length-take-le a xs low) (omega arith)
      ∙ ap (λ n. get_or (ys ++ drop k (drop a xs)) n z) is
      ∙ get_or_append_left ys (drop k (drop a xs)) z i h

  -- past a place from which on two lists agree
  pub get_or_rest : (n j : ℕ) (xs ys : List X) → n ≤ j → drop n xs ≡ drop n ys → get_or xs j z ≡ get_or ys j z
  get_or_rest n j xs ys h e =
      let is : n + (j - n) ≡ j = omega arith in
      let same : get_or xs (n + (j - n)) z ≡ get_or ys (n + (j - n)) z = sym (get_or-drop n xs (j - n) z) ∙ ap (λ l. get_or l (j - n) z) e ∙ get_or-drop n ys (j - n) z in
      rw is at same
