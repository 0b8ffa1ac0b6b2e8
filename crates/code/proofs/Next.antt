-- A branch goes from one state to another exactly when an input bit leads there, and has that input bit.
use Rattle.std.proofs.Common.{◌≡◌, ℕ, ◌+◌, ◌*◌, ◌/◌, ◌%◌, ◌<◌, ◌≤◌, Bool, true, false, cond, ◌⊎◌, IfSome, Some, None, sym, refl, ap, ◌∙◌, ap₂, inl, inr, mul_assoc, mul_comm, arith}
use Rattle.std.proofs.lemmas.Nat.{div-add-mod', div-mul-add, mod-mul-add, mul-add-lt, div_below}
use Rattle.std.proofs.lemmas.Bool.{lt-ltb, eq-eqb, ltb-true, eqb-true, le-ltb, and_parts, and_from, and_left, and_right}
use Rattle.code.specs.declared.description.Code.{Code}
use Rattle.code.specs.Codes.{states, half, register_of, next, goes, input, branch}
use Rattle.code.proofs.Sizes.{states_even, half_positive}

module _ (c : Code) where
  -- the input bit comes in at the top, and the last bit drops out
  pub next_parts : (i u : ℕ) → next c i u ≡ u * half c + i / 2
  next_parts i u =
      let even : u * states c ≡ 2 * (u * half c) = ap (λ n. u * n) (states_even c) ∙ sym (mul_assoc u 2 (half c)) ∙ ap (λ n. n * half c) (mul_comm u 2) ∙ mul_assoc 2 u (half c) in
      omega (arith, even)

  pub half_below : (i : ℕ) → i < states c → i / 2 < half c
  half_below i h = omega (arith, states_even c)

  pub next_below : (i u : ℕ) → i < states c → u < 2 → next c i u < states c
  next_below i u h b = omega (arith, next_parts i u, mul-add-lt u (half c) (i / 2) 2 b (half_below i h), states_even c)

  pub next_goes : (i u : ℕ) → i < states c → u < 2 → (goes c i (next c i u) ≡ true) × (input c (next c i u) ≡ u)
  next_goes i u h b =
      let low = half_below i h in
      let parts = next_parts i u in (
        and_from _ _ (lt-ltb i (states c) h) (and_from _ _ (lt-ltb (next c i u) (states c) (next_below i u h b)) (eq-eqb _ _ (ap (λ n. n % half c) parts ∙ mod-mul-add u (half c) (i / 2) low))),
        ap (λ n. n / half c) parts ∙ div-mul-add u (half c) (i / 2) low,
      )

  pub goes_next : (i j : ℕ) → goes c i j ≡ true → (i < states c) × (j < states c) × (input c j < 2) × (next c i (input c j) ≡ j)
  goes_next i j e =
      let all = and_parts _ _ e in
      let rest = and_parts _ _ all.1 in
      let to = ltb-true j (states c) rest.0 in
      let meets = eqb-true (j % half c) (i / 2) rest.1 in (
        ltb-true i (states c) all.0,
        to,
        div_below j (half c) 2 (half_positive c) (omega (arith, states_even c, to)),
        next_parts i (j / half c) ∙ ap (λ n. j / half c * half c + n) (sym meets) ∙ div-add-mod' j (half c),
      )

  pub goes_outside : (i j : ℕ) → (states c ≤ i) ⊎ (states c ≤ j) → goes c i j ≡ false
  goes_outside i j (inl h) = and_left _ _ (le-ltb i (states c) h)
  goes_outside i j (inr h) = and_right _ _ (and_left _ _ (le-ltb j (states c) h))

  pub branch_leads : (i j u : ℕ) → i < states c → u < 2 → next c i u ≡ j → branch c i j ≡ Some (register_of c i u)
  branch_leads i j u h b e =
      let there = next_goes i u h b in
      ap (branch c i) (sym e) ∙ ap₂ (λ t n. cond t (Some (register_of c i n)) None) there.0 there.1

  pub branch_ends : (i j : ℕ) → IfSome (branch c i j) (λ r. r / 2 ≡ j)
  branch_ends i j = by_test (goes c i j) (goes_next i j)
    where
      by_test : (t : Bool) → (t ≡ true → (i < states c) × (j < states c) × (input c j < 2) × (next c i (input c j) ≡ j)) → IfSome (cond t (Some (register_of c i (input c j))) None) (λ r. r / 2 ≡ j)
      by_test true h = (h refl).3
      by_test false h = tt

  pub branch_some : (i j r : ℕ) → Some r ≡ branch c i j → (goes c i j ≡ true) × (r ≡ register_of c i (input c j))
  branch_some i j r e = by_test (goes c i j) e
    where
      by_test : (t : Bool) → Some r ≡ cond t (Some (register_of c i (input c j))) None → (t ≡ true) × (r ≡ register_of c i (input c j))
      by_test true h = (refl, cc)
      by_test false h = absurd (let z : ◌≡◌ {A = ℕ} 0 1 = cc in omega arith)
