-- The entries of the check register for an accepted symbol, case by case.
use Rattle.std.proofs.Common.{◌≡◌, ℕ, suc, ◌<◌, ◌≤◌, true, false, ◌&&◌, eqb, arith}
use Rattle.std.proofs.lemmas.Bool.Decides.{nat_tests}
use Rattle.recursion_bits.specs.Register.{polynomial, bit, register_entry}

module _ (b : ℕ) (accepted : b ≤ 1) where
  pub entry_from_0 : (j : ℕ) → j < 32 → register_entry b 0 j ≡ bit polynomial j
  unfolding register_entry
  entry_from_0 j h = grind (arith, nat_tests)

  pub entry_down : (j : ℕ) → j < 31 → register_entry b (suc j) j ≡ true
  unfolding register_entry
  entry_down j h = grind (arith, nat_tests)

  pub entry_from_32 : (j : ℕ) → j < 32 → register_entry b 32 j ≡ (bit polynomial j && eqb b 1)
  unfolding register_entry
  entry_from_32 j h = grind (arith, nat_tests)

  pub entry_32_32 : register_entry b 32 32 ≡ true
  unfolding register_entry
  entry_32_32 = grind (arith, nat_tests)

  pub entry_to_32 : (i : ℕ) → i < 32 → register_entry b i 32 ≡ false
  unfolding register_entry
  entry_to_32 i h = grind (arith, nat_tests)

  pub entry_else : (i j : ℕ) → i < 32 → (i ≡ 0 → ⊥) → (i ≡ suc j → ⊥) → register_entry b i j ≡ false
  unfolding register_entry
  entry_else i j h k n = grind (arith, nat_tests)
