-- What is read at a place, and what two states that agree from one place on agree on.
use Rattle.std.proofs.Common.{◌≡◌, ℕ, ◌+◌, ◌-◌, ◌≤◌, Bool, true, false, List, get_or, drop, sym, refl, ap, ◌∙◌, arith}
use mir.Val.{bool_byte}
use Rattle.std.proofs.lemmas.List.{drop-drop}
use Rattle.algebra.proofs.Places.{at_get}
use Rattle.algebra_scalars.specs.Bits.{number}
use Rattle.algebra_scalars.specs.declared.bit.Bit.{Bit}
use Rattle.run_sequence.specs.Sequence.{bit_at}

pub read_place : (state : List Bit) (j : ℕ) → (get_or state j (record { 0 = false })).0 ≡ bit_at state j
read_place state j = at_get false (λ b. b.0) state j _ refl

pub byte_number : (b : Bool) → bool_byte b ≡ number b
byte_number true = refl
byte_number false = refl

pub same_rest : (n m : ℕ) (xs ys : List Bit) → n ≤ m → drop n xs ≡ drop n ys → drop m xs ≡ drop m ys
same_rest n m xs ys h e =
    let is : n + (m - n) ≡ m = omega arith in
    let l : drop (n + (m - n)) xs ≡ drop (n + (m - n)) ys = sym (drop-drop (m - n) n xs) ∙ ap (drop (m - n)) e ∙ drop-drop (m - n) n ys in
    rw is at l
