-- Places weigh what the first of them weigh and the last one more, so n places weigh less than 2^n.
use Rattle.std.proofs.Common.{◌≡◌, ℕ, zero, suc, ◌+◌, ◌*◌, ◌%◌, ◌^◌, ◌<◌, ◌≤◌, Bool, true, false, cond, not, List, get_or, sym, refl, ap, ◌∙◌, ap₂, arith, pow_mono}
use mir.Val.{bool_byte}
use Rattle.algebra.proofs.Places.{at_get}
use Rattle.algebra_scalars.specs.declared.bit.Bit.{Bit}
use Rattle.run_check.specs.Check.{weigh}
use Rattle.run_blocks.specs.Blocks.{place_of}

pub weigh_none : (f : ℕ → Bool) → weigh 0 f ≡ 0
unfolding weigh
weigh_none f = refl

weigh_suc : (n : ℕ) (f : ℕ → Bool) → weigh (suc n) f ≡ weigh n f + cond (f n) (2 ^ n) 0
unfolding weigh
weigh_suc n f = refl

pub weigh_more : (n : ℕ) (f : ℕ → Bool) → weigh (n + 1) f ≡ weigh n f + cond (f n) (2 ^ n) 0
weigh_more n f = ap (λ (m : ℕ). weigh m f) (let e : n + 1 ≡ suc n = omega arith in e) ∙ weigh_suc n f

at_most : (t : Bool) (p : ℕ) → cond t p 0 ≤ p
at_most true p = omega arith
at_most false p = omega arith

weigh_lt : (n : ℕ) (f : ℕ → Bool) → weigh n f < 2 ^ n
unfolding weigh
weigh_lt zero f = omega arith
weigh_lt (suc n) f = omega (arith, weigh_lt n f, at_most (f n) (2 ^ n))

-- at most 32 places weigh less than 2^32
pub weigh_fits : (n : ℕ) (f : ℕ → Bool) → n ≤ 32 → weigh n f < 2 ^ 32
weigh_fits n f h = let big : 2 ^ n ≤ 2 ^ 32 = pow_mono {i = n} {j = 32} h in omega (arith, weigh_lt n f, big)

read_place : (bits : List Bit) (k : ℕ) → (get_or bits k (record { 0 = false })).0 ≡ place_of bits k
read_place bits k = at_get false (λ b. b.0) bits k _ refl

-- a bit that is shifted up to its place
shifted_is : (t : Bool) (n : ℕ) → n < 32 → (bool_byte t * 2 ^ n) % 2 ^ 32 ≡ cond t (2 ^ n) 0
shifted_is true n h = let big : 2 ^ n ≤ 2 ^ 31 = pow_mono {i = n} {j = 31} (omega arith) in omega (arith, big)
shifted_is false n h = omega arith

-- the inverted places with one more, as it was read and shifted
pub inverted_more : (bits : List Bit) (n v b : ℕ) → n < 32 → v ≡ weigh n (λ k. not (place_of bits k)) → b ≡ bool_byte (not (get_or bits n (record { 0 = false })).0)
    → v + (b * 2 ^ n) % 2 ^ 32 ≡ weigh (n + 1) (λ k. not (place_of bits k))
inverted_more bits n v b h before last =
    ap₂ (λ (x y : ℕ). x + (y * 2 ^ n) % 2 ^ 32) before (last ∙ ap (λ t. bool_byte (not t)) (read_place bits n))
    ∙ ap (λ (x : ℕ). weigh n (λ k. not (place_of bits k)) + x) (shifted_is (not (place_of bits n)) n h)
    ∙ sym (weigh_more n (λ k. not (place_of bits k)))
