-- What stands at a place of a row after a read, a write, a cut or a copy.
use Rattle.std.proofs.Common.{◌≡◌, ℕ, zero, suc, ◌+◌, ◌-◌, ◌<◌, ◌≤◌, ◌≢◌, List, [], ◌∷◌, ◌++◌, length, get_or, take, drop, set, sym, refl, ap, ◌∙◌, suc-add, zero-add, arith}
use borrow.Rule.Slice.PartMut.{put_mid}
use Rattle.std.proofs.lemmas.List.{length-take-le}
use Rattle.algebra.specs.Sums.{at}

module _ {E V : Type 0} (z : V) (f : E → V) where
  -- an element that was read
  pub at_read : (xs : List E) (i : ℕ) (x : E) → i < length xs → x ≡ get_or xs i x → at z f xs i ≡ f x
  unfolding at
  at_read [] i x l e = absurd (omega arith)
  at_read (y ∷ xs) zero x l e = ap f (sym e)
  at_read (y ∷ xs) (suc i) x l e = at_read xs i x (omega arith) e

  -- the same by a default that means z, within the list or past its end
  pub at_get : (xs : List E) (i : ℕ) (d : E) → f d ≡ z → f (get_or xs i d) ≡ at z f xs i
  unfolding at
  at_get [] i d e = e
  at_get (y ∷ xs) zero d e = refl
  at_get (y ∷ xs) (suc i) d e = at_get xs i d e

  pub at_set_same : (xs : List E) (i : ℕ) (x : E) → i < length xs → at z f (set xs i x) i ≡ f x
  unfolding at
  at_set_same [] i x l = absurd (omega arith)
  at_set_same (y ∷ xs) zero x l = refl
  at_set_same (y ∷ xs) (suc i) x l = at_set_same xs i x (omega arith)

  pub at_set_other : (xs : List E) (i j : ℕ) (x : E) → j ≢ i → at z f (set xs i x) j ≡ at z f xs j
  unfolding at
  at_set_other [] i j x n = refl
  at_set_other (y ∷ xs) zero zero x n = absurd (n refl)
  at_set_other (y ∷ xs) zero (suc j) x n = refl
  at_set_other (y ∷ xs) (suc i) zero x n = refl
  at_set_other (y ∷ xs) (suc i) (suc j) x n = at_set_other xs i j x (omega arith)

  pub at_take : (n : ℕ) (xs : List E) (i : ℕ) → i < n → at z f (take n xs) i ≡ at z f xs i
  unfolding at
  at_take zero xs i l = absurd (omega arith)
  at_take (suc n) [] i l = refl
  at_take (suc n) (y ∷ xs) zero l = refl
  at_take (suc n) (y ∷ xs) (suc i) l = at_take n xs i (omega arith)

  pub at_drop : (n : ℕ) (xs : List E) (i : ℕ) → at z f (drop n xs) i ≡ at z f xs (n + i)
  unfolding at
  at_drop zero xs i = rw zero-add
  at_drop (suc n) [] i = refl
  at_drop (suc n) (y ∷ xs) i = rw suc-add (at_drop n xs i)

  pub at_append_left : (xs ys : List E) (i : ℕ) → i < length xs → at z f (xs ++ ys) i ≡ at z f xs i
  unfolding at
  at_append_left [] ys i l = absurd (omega arith)
  at_append_left (x ∷ xs) ys zero l = refl
  at_append_left (x ∷ xs) ys (suc i) l = at_append_left xs ys i (omega arith)

  pub at_append_right : (xs ys : List E) (n i : ℕ) → length xs ≡ n → at z f (xs ++ ys) (n + i) ≡ at z f ys i
  unfolding at
  at_append_right [] ys n i e = rw (← e, zero-add)
  at_append_right (x ∷ xs) ys zero i e = absurd (omega arith)
  at_append_right (x ∷ xs) ys (suc n) i e = rw suc-add (at_append_right xs ys n i (omega arith))

  -- what stands in a part that was written
  pub at_put : (s n : ℕ) (xs ys : List E) (j : ℕ) → s ≤ length xs → j < length ys → at z f (put_mid s n xs ys) (s + j) ≡ at z f ys j
  at_put s n xs ys j l h = at_append_right (take s xs) _ s j (length-take-le s xs l) ∙ at_append_left ys _ j h

  -- what stands in a part that is read
  pub at_part : (a n : ℕ) (xs : List E) (i : ℕ) → i < n → at z f (take n (drop a xs)) i ≡ at z f xs (a + i)
  at_part a n xs i h = at_take n (drop a xs) i h ∙ at_drop a xs i

  -- what stands past a place from which two lists agree
  pub at_same_rest : (n : ℕ) (xs ys : List E) (i : ℕ) → n ≤ i → drop n xs ≡ drop n ys → at z f xs i ≡ at z f ys i
  at_same_rest n xs ys i h e =
      let is : n + (i - n) ≡ i = omega arith in
      let l : at z f xs (n + (i - n)) ≡ at z f ys (n + (i - n)) = sym (at_drop n xs (i - n)) ∙ ap (λ zs. at z f zs (i - n)) e ∙ at_drop n ys (i - n) in
      rw is at l

  -- what stands before a place up to which two lists agree
  pub at_same_front : (n : ℕ) (xs ys : List E) (i : ℕ) → i < n → take n xs ≡ take n ys → at z f xs i ≡ at z f ys i
  at_same_front n xs ys i h e = sym (at_take n xs i h) ∙ ap (λ zs. at z f zs i) e ∙ at_take n ys i h
