-- Rows of a matrix lie inside it, and lists that agree on a part agree on less of it.
use Rattle.std.proofs.Common.{◌≡◌, ℕ, suc, ◌+◌, ◌-◌, ◌*◌, ◌<◌, ◌≤◌, List, take, drop, sym, ap, ◌∙◌, mul-le-mul_right, suc-mul, arith}
use Rattle.std.proofs.lemmas.List.{take-take, drop-drop}

-- row i ends inside the matrix
pub row_in : (i d : ℕ) → i < d → i * d + d ≤ d * d
row_in i d h = omega (arith, mul-le-mul_right {m = suc i} {n = d} d h, suc-mul i d)

-- a place of an earlier row lies before row i
pub earlier : (i p j d : ℕ) → p < i → j < d → p * d + j < i * d
earlier i p j d h l = omega (arith, mul-le-mul_right {m = suc p} {n = i} d h, suc-mul p d)

pub take_less : {E : Type 0} (m n : ℕ) (xs ys : List E) → m ≤ n → take n xs ≡ take n ys → take m xs ≡ take m ys
take_less m n xs ys h e = sym (take-take m n xs h) ∙ ap (take m) e ∙ take-take m n ys h

pub drop_more : {E : Type 0} (m n : ℕ) (xs ys : List E) → n ≤ m → drop n xs ≡ drop n ys → drop m xs ≡ drop m ys
drop_more m n xs ys h e =
    let is : n + (m - n) ≡ m = omega arith in
    let l : drop (n + (m - n)) xs ≡ drop (n + (m - n)) ys = sym (drop-drop (m - n) n xs) ∙ ap (drop (m - n)) e ∙ drop-drop (m - n) n ys in
    rw is at l
