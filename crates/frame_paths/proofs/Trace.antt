-- A path is found again from its end state and its dropped word.
use Rattle.std.proofs.Common.{◌≡◌, ℕ, zero, suc, ◌+◌, ◌*◌, ◌/◌, ◌%◌, ◌^◌, ◌<◌, List, [], ◌∷◌, ◌++◌, length, sym, refl, ap, ◌∙◌, subst, ap₂, one-add, arith, length-append}
use Rattle.std.proofs.lemmas.Nat.{shr-shr, div_below, mod_below, mod-mul-add}
use Rattle.std.proofs.ByRecursion.{All-append}
use Rattle.code.specs.declared.description.Code.{Code}
use Rattle.code.specs.Codes.{states, half, next, input}
use Rattle.code.proofs.Sizes.{states_even, half_positive}
use Rattle.code.proofs.Next.{next_parts, half_below, next_below, next_goes}
use Rattle.paths.specs.Paths.{Bits, end}
use Rattle.frame_paths.specs.Paths.{Leads}
use Rattle.frame_paths.specs.Rows.{Row, prior, origin, traced, decoded, all_steps}
use Rattle.frame_paths.specs.Survivors.{word}

shift : (w m : ℕ) → w / 2 ^ suc m ≡ w / 2 / 2 ^ m
shift w m = ap (λ k. w / 2 ^ k) (sym (one-add m)) ∙ sym (shr-shr w 1 m)

module _ (c : Code) where
  -- the first step comes last in the trace
  origin_first : (n j w : ℕ) → origin c (suc n) j w ≡ prior c (origin c n j (w / 2)) (w % 2)
  origin_first zero j w = let is : w / 2 ^ 0 % 2 ≡ w % 2 = omega arith in ap (prior c j) is
  origin_first (suc m) j w =
      origin_first m (prior c j (w / 2 ^ suc m % 2)) w ∙ ap (λ x. prior c (origin c m (prior c j (x % 2)) (w / 2)) (w % 2)) (shift w m)

  traced_first : (n j w : ℕ) → traced c (suc n) j w ≡ input c (origin c n j (w / 2)) ∷ traced c n j (w / 2)
  traced_first zero j w = refl
  traced_first (suc m) j w =
      ap (λ l. l ++ (input c j ∷ [])) (traced_first m (prior c j (w / 2 ^ suc m % 2)) w)
      ∙ ap (λ x. (input c (origin c m (prior c j (x % 2)) (w / 2)) ∷ traced c m (prior c j (x % 2)) (w / 2)) ++ (input c j ∷ [])) (shift w m)

  -- a step's start state from its end state and the bit that it dropped
  prior_next : (s u : ℕ) → s < states c → u < 2 → prior c (next c s u) (s % 2) ≡ s
  prior_next s u p b =
      let is : next c s u % half c ≡ s / 2 = ap (λ n. n % half c) (next_parts c s u) ∙ mod-mul-add u (half c) (s / 2) (half_below c s p) in
      ap (λ x. x * 2 + s % 2) is ∙ back s
    where
      back : (n : ℕ) → (n / 2) * 2 + n % 2 ≡ n
      back n = omega arith

  pub trace : (s : ℕ) (us : List ℕ) → s < states c → Bits us → (traced c (length us) (end c s us) (word c s us) ≡ us) × (origin c (length us) (end c s us) (word c s us) ≡ s)
  trace s [] p b = (refl, refl)
  trace s (u ∷ us) p b =
      let k = next c s u in
      let z = word c k us in
      let j = end c k us in
      let n = length us in
      let rest = trace k us (next_below c s u p b.0) b.1 in
      let above = halved (s % 2) z (omega arith) in (
        traced_first n j (s % 2 + 2 * z)
            ∙ ap (λ x. input c (origin c n j x) ∷ traced c n j x) above.0
            ∙ ap₂ (λ x l. input c x ∷ l) rest.1 rest.0
            ∙ ap (λ x. x ∷ us) (next_goes c s u p b.0).1,
        origin_first n j (s % 2 + 2 * z)
            ∙ ap₂ (λ x y. prior c (origin c n j x) y) above.0 above.1
            ∙ ap (λ x. prior c x (s % 2)) rest.1
            ∙ prior_next s u p b.0,
      )
    where
      halved : (b z : ℕ) → b < 2 → ((b + 2 * z) / 2 ≡ z) × ((b + 2 * z) % 2 ≡ b)
      halved b z l = (omega arith, omega arith)

  -- the same of a path that is known by its ends
  pub trace_leads : (i j w : ℕ) (ys us : List ℕ) → i < states c → Leads c i ys j us → word c i us ≡ w → (traced c (length ys) j w ≡ us) × (origin c (length ys) j w ≡ i)
  trace_leads i j w ys us p l e =
      subst (λ m. (traced c m j w ≡ us) × (origin c m j w ≡ i)) l.as_long
      (subst (λ k. (traced c (length us) k w ≡ us) × (origin c (length us) k w ≡ i)) l.there
      (subst (λ x. (traced c (length us) (end c i us) x ≡ us) × (origin c (length us) (end c i us) x ≡ i)) e (trace i us p l.bits)))

  -- whatever the word is, the trace stays among the states
  pub prior_below : (j w : ℕ) → prior c j (w % 2) < states c
  prior_below j w =
      let low : j % half c < half c = mod_below j (half c) (half_positive c) in
      let bit : w % 2 < 2 = omega arith in
      rw (states_even c) (two (j % half c) (w % 2) (half c) low bit)
    where
      two : (a b h : ℕ) → a < h → b < 2 → a * 2 + b < 2 * h
      two a b h p q = omega arith

  pub origin_below : (n j w : ℕ) → j < states c → origin c n j w < states c
  origin_below zero j w p = p
  origin_below (suc t) j w p = origin_below t (prior c j (w / 2 ^ t % 2)) w (prior_below j (w / 2 ^ t))

  pub traced_long : (n j w : ℕ) → length (traced c n j w) ≡ n
  traced_long zero j w = refl
  traced_long (suc t) j w =
      length-append (traced c t (prior c j (w / 2 ^ t % 2)) w) (input c j ∷ []) ∙ ap (λ n. n + 1) (traced_long t (prior c j (w / 2 ^ t % 2)) w) ∙ more t
    where
      more : (n : ℕ) → n + 1 ≡ suc n
      more n = omega arith

  pub input_bit : (j : ℕ) → j < states c → input c j < 2
  input_bit j p = div_below j (half c) 2 (half_positive c) (subst (λ n. j < n) (states_even c) p)

  pub traced_bits : (n j w : ℕ) → j < states c → Bits (traced c n j w)
  traced_bits zero j w p = tt
  traced_bits (suc t) j w p =
      All-append _ (traced c t (prior c j (w / 2 ^ t % 2)) w) (input c j ∷ []) (traced_bits t (prior c j (w / 2 ^ t % 2)) w (prior_below j (w / 2 ^ t))) (input_bit j p, tt)

  pub decoded_long : (rs : List Row) (j : ℕ) → length (decoded c rs j) ≡ all_steps rs
  decoded_long [] j = refl
  decoded_long (r ∷ rs) j =
      let i = origin c r.steps j (r.words j) in
      length-append (decoded c rs i) (traced c r.steps j (r.words j)) ∙ ap₂ (λ (m n : ℕ). m + n) (decoded_long rs i) (traced_long r.steps j (r.words j))

  pub decoded_bits : (rs : List Row) (j : ℕ) → j < states c → Bits (decoded c rs j)
  decoded_bits [] j p = tt
  decoded_bits (r ∷ rs) j p =
      let i = origin c r.steps j (r.words j) in
      All-append _ (decoded c rs i) (traced c r.steps j (r.words j)) (decoded_bits rs i (origin_below r.steps j (r.words j) p)) (traced_bits r.steps j (r.words j) p)
