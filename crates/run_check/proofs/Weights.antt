-- The run from 33 ones, read as a number, is what shifting gives.
use Rattle.std.proofs.Common.{◌≡◌, ℕ, zero, suc, ◌+◌, ◌*◌, ◌/◌, ◌%◌, ◌^◌, ◌<◌, Bool, true, false, cond, not, ◌&&◌, eqb, List, sym, refl, ap, ◌∙◌, ap₂, mod-eq_of_lt, arith, lit<}
use native.Mathlib.Nat.{mod-one}
use lib.Bits.{bit_xor, xor_lt}
use Rattle.std.proofs.lemmas.Bool.{ne_eqb}
use Rattle.std.proofs.lemmas.Nat.{mod-pow-add}
use Rattle.std.proofs.lemmas.Bool.Decides.{Decides-below_and}
use Rattle.algebra_scalars.specs.Bits.{xor, bit_ops}
use Rattle.recursion.proofs.Steps.{steps_cong}
use Rattle.recursion_bits.specs.Register.{bit, register_entry}
use Rattle.run_check.specs.Check.{run, weigh, register_value, check_value}
use Rattle.run_check.specs.Shift.{shifts}
use Rattle.run_check.proofs.Questions.{Bits}
use Rattle.run_check.proofs.Shifts.{shifts_lt}
use Rattle.run_check.proofs.Places.{places, bit_of_xor, steps_places}

-- places that agree weigh the same
pub weigh_cong : (n : ℕ) (f h : ℕ → Bool) → ((k : ℕ) → k < n → f k ≡ h k) → weigh n f ≡ weigh n h
unfolding weigh
weigh_cong zero f h e = refl
weigh_cong (suc n) f h e =
    ap₂ (λ (x : ℕ) t. x + cond t (2 ^ n) 0) (weigh_cong n f h (λ k l. e k (omega arith))) (e n (omega arith))

digit_weight : (d p : ℕ) → d < 2 → d * p ≡ cond (eqb d 1) p 0
digit_weight zero p h = omega arith
digit_weight (suc zero) p h = omega arith
digit_weight (suc (suc d)) p h = absurd (omega arith)

-- a number weighs its bits
weigh_bits : (n r : ℕ) → weigh n (bit r) ≡ r % 2 ^ n
unfolding weigh
weigh_bits zero r = sym (mod-one r)
weigh_bits (suc n) r =
    let one : 1 + n ≡ suc n = omega arith in
    let e : r % 2 ^ suc n ≡ (r / 2 ^ n % 2) * 2 ^ n + r % 2 ^ n = ap (λ (k : ℕ). r % 2 ^ k) (sym one) ∙ mod-pow-add r 1 n in
    omega (arith, e, weigh_bits n r, digit_weight (r / 2 ^ n % 2) (2 ^ n) (omega arith))

-- a test at every number below n
abbrev every : ℕ → (ℕ → Bool) → Bool
every zero f = true
every (suc n) f = f n && every n f

every_at : (n : ℕ) (f : ℕ → Bool) → every n f ≡ true → (k : ℕ) → k < n → f k ≡ true
every_at n f = (Decides-below_and f (λ k. f k ≡ true) (λ n. every n f) (λ k. (λ e. e, λ e. e)) refl (λ n. refl) n).0

-- the start is 33 ones
ones_start : (k : ℕ) → k < 33 → places 0xFFFFFFFF k ≡ true
ones_start = every_at 33 (places 0xFFFFFFFF) refl

ones_bit : (k : ℕ) → k < 32 → bit 0xFFFFFFFF k ≡ true
ones_bit = every_at 32 (bit 0xFFFFFFFF) refl

-- the run's places are the bits of the shifted number
run_is : (bits : List ℕ) → Bits bits → (k : ℕ) → k < 32 → run bits k ≡ bit (shifts 0xFFFFFFFF bits) k
unfolding run
run_is bits p k h =
    steps_cong bit_ops 33 register_entry bits _ (places 0xFFFFFFFF) (λ i l. sym (ones_start i l)) k (omega arith)
    ∙ steps_places 0xFFFFFFFF bits (lit< tt) p k (omega arith)
    ∙ rw (ne_eqb k 32 (λ e. omega arith))

pub register_value_is : (bits : List ℕ) → Bits bits → register_value bits ≡ shifts 0xFFFFFFFF bits
unfolding register_value
register_value_is bits p =
    weigh_cong 32 _ _ (run_is bits p) ∙ weigh_bits 32 (shifts 0xFFFFFFFF bits) ∙ mod-eq_of_lt (shifts_lt 0xFFFFFFFF bits (lit< tt))

xor_not : (t : Bool) → not t ≡ xor t true
xor_not true = refl
xor_not false = refl

pub check_value_is : (bits : List ℕ) → Bits bits → check_value bits ≡ bit_xor (register_value bits) 0xFFFFFFFF
unfolding check_value
check_value_is bits p =
    let r = shifts 0xFFFFFFFF bits in
    weigh_cong 32 _ (bit (bit_xor r 0xFFFFFFFF))
    (λ k h. ap not (run_is bits p k h) ∙ xor_not (bit r k) ∙ ap (xor (bit r k)) (sym (ones_bit k h)) ∙ sym (bit_of_xor r 0xFFFFFFFF k))
    ∙ weigh_bits 32 (bit_xor r 0xFFFFFFFF) ∙ mod-eq_of_lt (xor_lt 32 r 0xFFFFFFFF (shifts_lt 0xFFFFFFFF bits (lit< tt)) (lit< tt))
    ∙ ap (λ (x : ℕ). bit_xor x 0xFFFFFFFF) (sym (register_value_is bits p))
