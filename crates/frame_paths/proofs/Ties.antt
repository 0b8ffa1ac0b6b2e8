-- Of two paths between the same states, the one with the lower word has the 0 at the latest input bit where they differ.
use Rattle.std.proofs.Common.{◌≡◌, ℕ, zero, suc, ◌+◌, ◌*◌, ◌/◌, ◌%◌, ◌^◌, ◌<◌, List, [], ◌∷◌, length, get_or, sym, refl, ap, ◌∙◌, subst, ap₂, inl, inr, mul_assoc, mul_comm, mul-le-mul_left, mul-add, mul_left_comm, arith}
use native.Mathlib.Nat.{pow-succ', mul-lt-mul_of_pos_left}
use Rattle.std.proofs.lemmas.List.{ext_get_or}
use Rattle.std.proofs.lemmas.Bool.{cases_lt, cases_order}
use Rattle.code.specs.declared.description.Code.{Code}
use Rattle.code.specs.Codes.{half, next}
use Rattle.code.proofs.Sizes.{half_positive}
use Rattle.code.proofs.Next.{next_parts}
use Rattle.paths.specs.Paths.{Bits, end}
use Rattle.frame_paths.specs.Paths.{Leads, LatestZero}
use Rattle.frame_paths.specs.Survivors.{word}

-- input bits as a number, the first lowest
number : List ℕ → ℕ
number [] = 0
number (u ∷ us) = u + 2 * number us

-- a path shifts its input bits in over its start state, and its word and its end state out
word_number : (c : Code) (s : ℕ) (us : List ℕ) → word c s us + 2 ^ length us * end c s us ≡ s + 2 * (half c * number us)
unfolding number
word_number c s [] = omega arith
word_number c s (u ∷ us) = shifted (half c) s u _ _ _ _ _ _ (next_parts c s u) (pow-succ' 2 (length us)) (word_number c (next c s u) us)
  where
    shifted : (h s u k x p q e n : ℕ) → k ≡ u * h + s / 2 → q ≡ 2 * p → x + p * e ≡ k + 2 * (h * n) → s % 2 + 2 * x + q * e ≡ s + 2 * (h * (u + 2 * n))
    shifted h s u k x p q e n a b f = rw (b, mul_assoc 2 p e) (omega (arith, f, a, mul_comm u h, mul-add h u (2 * n), mul_left_comm h 2 n))

number_same : (us vs : List ℕ) → length us ≡ length vs → Bits us → Bits vs → number us ≡ number vs → us ≡ vs
unfolding number
number_same [] [] e p q s = refl
number_same [] (v ∷ vs) e p q s = absurd (omega arith)
number_same (u ∷ us) [] e p q s = absurd (omega arith)
number_same (u ∷ us) (v ∷ vs) e p q s = ap₂ (λ x l. x ∷ l) (omega arith) (number_same us vs (omega arith) p.1 q.1 (omega arith))

later : (u v : ℕ) (us vs : List ℕ) → LatestZero us vs → LatestZero (u ∷ us) (v ∷ vs)
later u v us vs l = record { place = suc l.place; within = omega (arith, l.within); has_zero = l.has_zero; has_one = l.has_one; same_after = after }
  where
    after : (k : ℕ) → suc l.place < k → k < length (u ∷ us) → get_or (u ∷ us) k 0 ≡ get_or (v ∷ vs) k 0
    after zero a b = absurd (omega arith)
    after (suc k) a b = l.same_after k (omega arith) (omega arith)

first : (u v : ℕ) (us vs : List ℕ) → u ≡ 0 → v ≡ 1 → us ≡ vs → LatestZero (u ∷ us) (v ∷ vs)
first u v us vs e f s = record { place = 0; within = omega arith; has_zero = e; has_one = f; same_after = after }
  where
    after : (k : ℕ) → 0 < k → k < length (u ∷ us) → get_or (u ∷ us) k 0 ≡ get_or (v ∷ vs) k 0
    after zero a b = absurd (omega arith)
    after (suc k) a b = ap (λ l. get_or l k 0) s

less_latest : (us vs : List ℕ) → length us ≡ length vs → Bits us → Bits vs → number us < number vs → LatestZero us vs
unfolding number
less_latest [] [] e p q s = absurd (omega arith)
less_latest [] (v ∷ vs) e p q s = absurd (omega arith)
less_latest (u ∷ us) [] e p q s = absurd (omega arith)
less_latest (u ∷ us) (v ∷ vs) e p q s =
    elim (cases_lt (number us) (number vs)) [
      | inl lt ↦ later u v us vs (less_latest us vs (omega arith) p.1 q.1 lt)
      | inr ge ↦ first u v us vs (omega arith) (omega arith) (number_same us vs (omega arith) p.1 q.1 (omega arith))
    ]

latest_less : (us vs : List ℕ) → length us ≡ length vs → Bits us → Bits vs → LatestZero us vs → number us < number vs
unfolding number
latest_less [] [] e p q l = absurd (omega (arith, l.within))
latest_less [] (v ∷ vs) e p q l = absurd (omega arith)
latest_less (u ∷ us) [] e p q l = absurd (omega arith)
latest_less (u ∷ us) (v ∷ vs) e p q l = go l.place refl (λ m. latest_less us vs (omega arith) p.1 q.1 m)
  where
    go : (k : ℕ) → l.place ≡ k → (LatestZero us vs → number us < number vs) → number (u ∷ us) < number (v ∷ vs)
    go zero z rest =
        let low : u ≡ 0 = subst (λ k. get_or (u ∷ us) k 0 ≡ 0) z l.has_zero in
        let high : v ≡ 1 = subst (λ k. get_or (v ∷ vs) k 0 ≡ 1) z l.has_one in
        let same : us ≡ vs = ext_get_or 0 us vs (omega arith) (λ k b. l.same_after (suc k) (omega arith) (omega arith)) in
        omega (arith, ap number same)
    go (suc k) z rest =
        let less = rest (record {
          place = k;
          within = omega (arith, l.within);
          has_zero = subst (λ k. get_or (u ∷ us) k 0 ≡ 0) z l.has_zero;
          has_one = subst (λ k. get_or (v ∷ vs) k 0 ≡ 1) z l.has_one;
          same_after = λ m a b. l.same_after (suc m) (omega arith) (omega arith);
        }) in
        omega arith

module _ (c : Code) (i j : ℕ) (ys us vs : List ℕ) (p : Leads c i ys j us) (q : Leads c i ys j vs) where
  long : length us ≡ length vs
  long = p.as_long ∙ sym q.as_long

  -- the words differ as the numbers do
  words : (word c i us + 2 * (half c * number vs)) ≡ (word c i vs + 2 * (half c * number us))
  words =
      let x : word c i us + 2 ^ length vs * j ≡ i + 2 * (half c * number us) =
      subst (λ m. word c i us + 2 ^ m * j ≡ i + 2 * (half c * number us)) long (subst (λ k. word c i us + 2 ^ length us * k ≡ i + 2 * (half c * number us)) p.there (word_number c i us)) in
      let y : word c i vs + 2 ^ length vs * j ≡ i + 2 * (half c * number vs) =
      subst (λ k. word c i vs + 2 ^ length vs * k ≡ i + 2 * (half c * number vs)) q.there (word_number c i vs) in
      crossed _ _ _ _ _ _ x y
    where
      crossed : (a b t i m n : ℕ) → a + t ≡ i + 2 * m → b + t ≡ i + 2 * n → a + 2 * n ≡ b + 2 * m
      crossed a b t i m n e f = omega arith

  number_lower : word c i us < word c i vs → number us < number vs
  number_lower l = elim (cases_lt (number us) (number vs)) [ inl lt ↦ lt | inr ge ↦ absurd (omega (arith, words, mul-le-mul_left (half c) ge)) ]

  number_equal : word c i us ≡ word c i vs → number us ≡ number vs
  number_equal e = elim (cases_order (number us) (number vs)) [
    | inl s ↦ s
    | inr o ↦ elim o [ inl lt ↦ absurd (omega (arith, words, mul-lt-mul_of_pos_left lt (half_positive c))) | inr gt ↦ absurd (omega (arith, words, mul-lt-mul_of_pos_left gt (half_positive c))) ]
  ]

  pub lower_latest : word c i us < word c i vs → LatestZero us vs
  lower_latest l = less_latest us vs long p.bits q.bits (number_lower l)

  pub latest_lower : LatestZero us vs → word c i us < word c i vs
  latest_lower l = omega (arith, words, mul-lt-mul_of_pos_left (latest_less us vs long p.bits q.bits l) (half_positive c))

  pub same_word : word c i us ≡ word c i vs → us ≡ vs
  same_word e = number_same us vs long p.bits q.bits (number_equal e)
