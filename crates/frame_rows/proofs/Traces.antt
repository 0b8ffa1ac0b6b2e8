-- A turn of the loop that traces a row back, step by step.
use Rattle.std.proofs.Common.{◌≡◌, ℕ, zero, suc, ◌-◌, ◌/◌, ◌%◌, ◌*◌, ◌+◌, pow-suc, ◌^◌, ◌<◌, ◌≤◌, List, [], ◌∷◌, ◌++◌, length, drop, set, sym, refl, ap, ◌∙◌, append_assoc, add-one, one-add, arith}
use Rattle.std.proofs.Math.Nat.{add-mul-mod_self_left, mod-eq_of_lt}
use Rattle.std.proofs.lemmas.Nat.{mod_below, mod-pow-add}
use Rattle.std.proofs.lemmas.List.{drop-set}
use Rattle.code.specs.declared.description.Code.{Code}
use Rattle.code.specs.Codes.{half, input, states}
use Rattle.code.proofs.Sizes.{half_positive, states_even}
use Rattle.frame_paths.specs.Rows.{origin, prior, traced}

module _ (c : Code) where
  pub halved : (n : ℕ) → n ≡ states c → n / 2 ≡ half c
  halved n e = omega (arith, states_even c)

  pub some_half : (n : ℕ) → n ≡ states c → 0 < n / 2
  some_half n e = omega (arith, halved n e, half_positive c)

  prior_below : (j b : ℕ) → b < 2 → prior c j b < states c
  prior_below j b h = omega (arith, mod_below j (half c) (half_positive c), states_even c)

  -- the dropped bits come back in below, all at once
  pub origin_is : (n j w : ℕ) → j < states c → origin c n j w ≡ (j * 2 ^ n + w % 2 ^ n) % states c
  origin_is zero j w h = let low : j * 1 + w % 1 ≡ j = omega arith in sym (rw low (mod-eq_of_lt h))
  origin_is (suc t) j w h =
      let b = w / 2 ^ t % 2 in
      let P = 2 ^ t in
      let bits : w % 2 ^ (1 + t) ≡ (w / 2 ^ t % 2) * 2 ^ t + w % 2 ^ t = mod-pow-add w 1 t in
      let low : b < 2 = omega arith in
      let parts : half c * (j / half c) + j % half c ≡ j = omega (arith, half_positive c) in
      let m = j % half c in
      let q = j / half c in
      let apart : j * (P * 2) ≡ (half c * q + m) * (P * 2) = ap (λ k. k * (P * 2)) (sym parts) in
      let more : (prior c j b * P + w % P) + (2 * half c) * (q * P) ≡ j * (P * 2) + (b * P + w % P) = omega (arith, apart) in
      origin_is t (prior c j b) w (prior_below j b low)
      ∙ sym (add-mul-mod_self_left (prior c j b * P + w % P) (states c) (q * P))
      ∙ ap (λ k. k % states c) (ap (λ k. (prior c j b * P + w % P) + k * (q * P)) (states_even c) ∙ more ∙ ap (λ k. j * (P * 2) + k) (sym bits)
      ∙ rw (one-add t, pow-suc 2 t) refl)

  pub one_back : (j w : ℕ) → origin c 1 j w ≡ prior c j (w % 2)
  one_back j w = let is : w / 1 ≡ w = omega arith in rw is refl

  -- a turn writes the input bit of a step before those that are written
  pub trace_turn : (n i w t j : ℕ) (bits : List ℕ) → 0 < t → t ≤ length bits → origin c n i w ≡ origin c t j w → traced c n i w ≡ traced c t j w ++ drop t bits
      → (origin c n i w ≡ origin c (t - 1) (prior c j (w / 2 ^ (t - 1) % 2)) w)
      × (traced c n i w ≡ traced c (t - 1) (prior c j (w / 2 ^ (t - 1) % 2)) w ++ drop (t - 1) (set bits (t - 1) (input c j)))
  trace_turn n i w zero j bits some room o e = absurd (omega arith)
  trace_turn n i w (suc s) j bits some room o e =
      let is : suc s - 1 ≡ s = omega arith in
      let low : s < length bits = omega arith in
      let k = prior c j (w / 2 ^ s % 2) in
      rw is (
        o,
        e ∙ append_assoc (traced c s k w) (input c j ∷ []) (drop (suc s) bits)
            ∙ ap (λ l. traced c s k w ++ l) (ap (λ n. input c j ∷ drop n bits) (sym (add-one s)) ∙ sym (drop-set bits s (input c j) low)),
      )
