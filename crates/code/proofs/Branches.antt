-- Which of the states a branch joins, and its register, by shifts and masks.
use Rattle.std.proofs.Common.{◌≡◌, ℕ, ◌+◌, ◌-◌, ◌*◌, ◌/◌, ◌%◌, ◌^◌, ◌<◌, ◌≤◌, Some, None, sym, ◌∙◌, arith}
use lib.Bits.{bit_and}
use Rattle.std.proofs.lemmas.Nat.{and_mask}
use Rattle.std.proofs.lemmas.Bool.{lt-ltb, le-ltb, eq-eqb, ne_eqb}
use Rattle.code.specs.declared.description.Code.{Code}
use Rattle.code.specs.Codes.{states, half, branch}
use Rattle.code.proofs.Sizes.{states_even, half_positive}

module _ (c : Code) (n : ℕ) (all : n ≡ states c) where
  halved : n / 2 ≡ half c
  halved = omega (arith, states_even c)

  pub masked : (j : ℕ) → bit_and j (n / 2 - 1) ≡ j % half c
  masked j = rw halved (and_mask j (c.constraint - 2))

  pub half_some : 1 ≤ n / 2
  half_some = omega (arith, halved, half_positive c)

  pub branch_is : (i j k : ℕ) → k ≡ c.constraint - 1 → i < n → j < n → bit_and j (n / 2 - 1) ≡ i / 2 → Some (j / 2 ^ (k - 1) * n + i) ≡ branch c i j
  branch_is i j k m p q e =
      let shift : k - 1 ≡ c.constraint - 2 = omega arith in
      let from = lt-ltb i (states c) (omega arith) in
      let to = lt-ltb j (states c) (omega arith) in
      let meets = eq-eqb (j % half c) (i / 2) (sym (masked j) ∙ e) in
      rw (shift, all, from, to, meets)

  pub no_branch_from : (i j : ℕ) → n ≤ i → None ≡ branch c i j
  no_branch_from i j p = rw (le-ltb i (states c) (omega arith))

  pub no_branch_to : (i j : ℕ) → i < n → n ≤ j → None ≡ branch c i j
  no_branch_to i j p q = rw (lt-ltb i (states c) (omega arith), le-ltb j (states c) (omega arith))

  pub no_branch : (i j : ℕ) → i < n → j < n → (bit_and j (n / 2 - 1) ≡ i / 2 → ⊥) → None ≡ branch c i j
  no_branch i j p q e =
      let from = lt-ltb i (states c) (omega arith) in
      let to = lt-ltb j (states c) (omega arith) in
      let differ = ne_eqb (j % half c) (i / 2) (λ same. e (masked j ∙ same)) in
      rw (from, to, differ)
