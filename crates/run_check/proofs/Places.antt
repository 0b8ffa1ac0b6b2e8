-- A shift of the number is a single step of the recursion, so the run's places are the number's bits.
use Rattle.std.proofs.Common.{◌≡◌, ℕ, zero, suc, ◌+◌, ◌/◌, ◌%◌, ◌^◌, ◌<◌, ◌≤◌, Bool, true, false, cond, ◌&&◌, eqb, List, [], ◌∷◌, sym, refl, ap, ◌∙◌, ap₂, inl, inr, arith, pow_mono}
use native.Mathlib.Nat.{div-eq_of_lt}
use lib.Bits.{bit_xor, xor_mod, xor_shr}
use Rattle.std.proofs.lemmas.Bool.{cases_eq, cases_lt, ne_eqb}
use Rattle.std.proofs.lemmas.Nat.{shr-shr}
use Rattle.algebra.proofs.Sums.{sum_more}
use Rattle.algebra.proofs.Only.{sum_zeros, sum_only, sum_two}
use Rattle.algebra_scalars.specs.Bits.{xor, bit_ops}
use Rattle.algebra_scalars.specs.BitsLemmas.{bit_laws}
use Rattle.recursion.specs.Steps.{stepped, steps}
use Rattle.recursion.proofs.Steps.{steps_cong}
use Rattle.recursion_bits.specs.Register.{polynomial, bit, register_entry}
use Rattle.recursion_bits.proofs.Entries.{entry_from_0, entry_down, entry_from_32, entry_32_32, entry_to_32, entry_else}
use Rattle.run_check.specs.Shift.{shifted, shifts}
use Rattle.run_check.proofs.Questions.{Bits}
use Rattle.run_check.proofs.Shifts.{shifted_lt}

-- the places of a register: its bits, and 1 at place 32
abbrev pub places : ℕ → ℕ → Bool
places r k = cond (eqb k 32) true (bit r k)

-- the bits of an exclusive or
xor_digit : (x y : ℕ) → x < 2 → y < 2 → eqb (bit_xor x y) 1 ≡ xor (eqb x 1) (eqb y 1)
xor_digit zero zero p q = refl
xor_digit zero (suc zero) p q = refl
xor_digit (suc zero) zero p q = refl
xor_digit (suc zero) (suc zero) p q = refl
xor_digit zero (suc (suc y)) p q = absurd (omega arith)
xor_digit (suc zero) (suc (suc y)) p q = absurd (omega arith)
xor_digit (suc (suc x)) y p q = absurd (omega arith)

pub bit_of_xor : (a b k : ℕ) → bit (bit_xor a b) k ≡ xor (bit a k) (bit b k)
bit_of_xor a b k =
    ap (λ (x : ℕ). eqb (x % 2) 1) (xor_shr a b k)
    ∙ ap (λ (x : ℕ). eqb x 1) (xor_mod (a / 2 ^ k) (b / 2 ^ k) 1)
    ∙ xor_digit (a / 2 ^ k % 2) (b / 2 ^ k % 2) (omega arith) (omega arith)

pub bit_half : (r k : ℕ) → bit (r / 2) k ≡ bit r (suc k)
bit_half r k = ap (λ (x : ℕ). eqb (x % 2) 1) (shr-shr r 1 k ∙ ap (λ (n : ℕ). r / 2 ^ n) (let e : 1 + k ≡ suc k = omega arith in e))

-- the polynomial added or not
bit_added : (t : Bool) (a k : ℕ) → bit (cond t (bit_xor a polynomial) a) k ≡ xor (bit a k) (t && bit polynomial k)
bit_added true a k = bit_of_xor a polynomial k
bit_added false a k = sym (bit_laws.add_comm (bit a k) false)

-- what a shift leaves at place k
pub bit_shifted : (r b k : ℕ) → b ≤ 1 → bit (shifted r b) k ≡ xor (bit r (suc k)) (xor (bit r 0) (eqb b 1) && bit polynomial k)
unfolding shifted
bit_shifted r b k h =
    let small : b % 2 ≡ b = omega arith in
    let odd : eqb (bit_xor r b % 2) 1 ≡ xor (bit r 0) (eqb b 1) =
    ap (λ (x : ℕ). eqb x 1) (xor_mod r b 1) ∙ xor_digit (r % 2) (b % 2) (omega arith) (omega arith)
    ∙ ap₂ (λ (x y : ℕ). xor (eqb (x % 2) 1) (eqb y 1)) (let e : r ≡ r / 2 ^ 0 = omega arith in e) small in
    bit_added (eqb (bit_xor r b % 2) 1) (r / 2) k
    ∙ ap₂ (λ s t. xor s (t && bit polynomial k)) (bit_half r k) odd

module _ (b : ℕ) (accepted : b ≤ 1) where
  times_zero : (v m : Bool) → m ≡ false → (v && m) ≡ false
  times_zero v m e = ap (λ x. v && x) e ∙ bit_laws.mul-zero v

  -- the three terms of a column: from place 0, from the place above, from place 32
  three_terms : (x n p c : Bool) → xor (xor (x && p) (n && true)) (p && c) ≡ xor n (xor x c && p)
  three_terms x n p c = grind arith

  -- one column of a single step
  pub column : (r j : ℕ) → r < 2 ^ 32 → j < 33 → stepped bit_ops 33 (places r) (register_entry b) j ≡ places (shifted r b) j
  column r j h l =
      elim (cases_lt j 31) [
        | inl low ↦
            sum_more bit_ops 32 (term j)
            ∙ ap₂ xor
            (sum_two bit_ops bit_laws 32 0 (suc j) (term j) (omega arith) (omega arith) (λ i q p n. times_zero _ _ (entry_else b accepted i j q p n))
            ∙ ap₂ xor (ap (λ x. bit r 0 && x) (entry_from_0 b accepted j (omega arith))) (ap₂ (λ x y. x && y) (low_place r (suc j) (λ e. omega arith)) (entry_down b accepted j low)))
            (entry_from_32 b accepted j (omega arith))
            ∙ three_terms (bit r 0) (bit r (suc j)) (bit polynomial j) (eqb b 1)
            ∙ sym (bit_shifted r b j accepted) ∙ sym (low_place (shifted r b) j (λ e. omega arith))
        | inr high ↦
            elim (cases_eq j 31) [
              | inl top ↦
                  sum_more bit_ops 32 (term j)
                  ∙ ap₂ xor
                  (sum_only bit_ops bit_laws 32 0 (term j) (omega arith) (λ i q p. times_zero _ _ (entry_else b accepted i j q p (λ n. omega arith)))
                  ∙ ap (λ x. bit r 0 && x) (entry_from_0 b accepted j (omega arith)) ∙ sym (bit_laws.add_comm (bit r 0 && bit polynomial j) false))
                  (entry_from_32 b accepted j (omega arith))
                  ∙ three_terms (bit r 0) false (bit polynomial j) (eqb b 1)
                  ∙ ap (λ x. xor x (xor (bit r 0) (eqb b 1) && bit polynomial j)) (sym (past r j h (omega arith)))
                  ∙ sym (bit_shifted r b j accepted) ∙ sym (low_place (shifted r b) j (λ e. omega arith))
              | inr ne ↦
                  let is : j ≡ 32 = omega arith in
                  rw is
                  (sum_more bit_ops 32 (term 32)
                  ∙ ap₂ xor (sum_zeros bit_ops bit_laws 32 (term 32) (λ i q. times_zero _ _ (entry_to_32 b accepted i q))) (entry_32_32 b accepted))
            ]
      ]
    where
      term : ℕ → ℕ → Bool
      term j i = places r i && register_entry b i j

      low_place : (q k : ℕ) → (k ≡ 32 → ⊥) → places q k ≡ bit q k
      low_place q k n = rw (ne_eqb k 32 n)

      past : (q k : ℕ) → q < 2 ^ 32 → 31 ≤ k → bit q (suc k) ≡ false
      past q k q32 up =
          let big : 2 ^ 32 ≤ 2 ^ suc k = pow_mono {i = 32} {j = suc k} (omega arith) in
          let z : q / 2 ^ suc k ≡ 0 = div-eq_of_lt (omega arith) in
          ap (λ (x : ℕ). eqb (x % 2) 1) z

-- the single steps of the recursion give the register's bits, and 1 at place 32
pub steps_places : (r : ℕ) (bits : List ℕ) → r < 2 ^ 32 → Bits bits → (k : ℕ) → k < 33
    → steps bit_ops 33 register_entry bits (places r) k ≡ places (shifts r bits) k
steps_places r [] h p k l = refl
steps_places r (b ∷ bits) h p k l =
    steps_cong bit_ops 33 register_entry bits _ (places (shifted r b)) (λ j q. column b p.0 r j h q) k l
    ∙ steps_places (shifted r b) bits (shifted_lt r b h) p.1 k l
