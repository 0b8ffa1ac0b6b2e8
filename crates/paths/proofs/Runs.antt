-- Single steps over a trellis sum, over all paths, the products of their branches: from the laws alone.
use Rattle.std.proofs.Common.{◌≡◌, ℕ, zero, suc, ◌<◌, Bool, true, false, cond, eqb, List, [], ◌∷◌, map, length, sym, refl, ap, ◌∙◌, ap₂, inl, inr, arith}
use Rattle.std.proofs.lemmas.Bool.{cases_Bool, ne_eqb, eq-eqb}
use Rattle.algebra.specs.Laws.{Ops, Laws}
use Rattle.algebra.specs.Sums.{sum}
use Rattle.algebra.proofs.Sums.{sum_cong, row_assoc}
use Rattle.algebra.proofs.Only.{add_zero_right, sum_only, sum_two}
use Rattle.recursion.specs.Steps.{stepped, steps}
use Rattle.code.specs.declared.description.Code.{Code}
use Rattle.code.specs.Codes.{states, register_of, next, goes, input}
use Rattle.code.proofs.Sizes.{half_positive, states_positive}
use Rattle.code.proofs.Next.{next_parts, next_below, next_goes, goes_next}
use Rattle.paths.specs.Paths.{end, bit_lists}
use Rattle.paths.proofs.Totals.{total, total_append, total_map, total_mul, total_cong}

-- the product of a path's branches, where a branch of register r is worth value y r against the symbol y
abbrev pub worth : {V : Type 0} → Ops V → Code → (ℕ → ℕ → V) → ℕ → List ℕ → List ℕ → V
worth o c value s us [] = o.one
worth o c value s [] (y ∷ ys) = o.one
worth o c value s (u ∷ us) (y ∷ ys) = o.mul (value y (register_of c s u)) (worth o c value (next c s u) us ys)

-- the sum over all paths from s to j, branch by branch
ways : {V : Type 0} → Ops V → Code → (ℕ → ℕ → V) → List ℕ → ℕ → ℕ → V
ways o c value [] s j = cond (eqb s j) o.one o.zero
ways o c value (y ∷ ys) s j =
    o.add (o.mul (value y (register_of c s 0)) (ways o c value ys (next c s 0) j)) (o.mul (value y (register_of c s 1)) (ways o c value ys (next c s 1) j))

-- a factor goes into the picked term
take_in : {V : Type 0} (o : Ops V) → Laws o → (t : Bool) (a b : V) → cond t (o.mul a b) o.zero ≡ o.mul a (cond t b o.zero)
take_in o laws true a b = refl
take_in o laws false a b = sym (laws.mul-zero a)

-- entries e of a trellis of c: the value of the branch, where there is one
module _ {V : Type 0} (o : Ops V) (laws : Laws o) (c : Code) (value : ℕ → ℕ → V) (e : ℕ → ℕ → ℕ → V) (is : (y i j : ℕ) → e y i j ≡ cond (goes c i j) (value y (register_of c i (input c j))) o.zero) where
  entry_next : (y i u : ℕ) → i < states c → u < 2 → e y i (next c i u) ≡ value y (register_of c i u)
  entry_next y i u h b =
      let there = next_goes c i u h b in
      is y i (next c i u) ∙ ap₂ (λ t n. cond t (value y (register_of c i n)) o.zero) there.0 there.1

  entry_none : (y i j : ℕ) → (j ≡ next c i 0 → ⊥) → (j ≡ next c i 1 → ⊥) → e y i j ≡ o.zero
  entry_none y i j n m =
      elim (cases_Bool (goes c i j)) [
        | inl t ↦ absurd (neither (input c j) (goes_next c i j t).2 (goes_next c i j t).3)
        | inr f ↦ is y i j ∙ ap (λ t. cond t (value y (register_of c i (input c j))) o.zero) f
      ]
    where
      neither : (u : ℕ) → u < 2 → next c i u ≡ j → ⊥
      neither zero b h = n (sym h)
      neither (suc zero) b h = m (sym h)
      neither (suc (suc u)) b h = omega arith

  -- two branches leave a state
  leaving : (y i : ℕ) (g : ℕ → V) → i < states c
      → sum o (states c) (λ k. o.mul (e y i k) (g k)) ≡ o.add (o.mul (value y (register_of c i 0)) (g (next c i 0))) (o.mul (value y (register_of c i 1)) (g (next c i 1)))
  leaving y i g h =
      let apart : next c i 0 < next c i 1 = omega (arith, next_parts c i 0, next_parts c i 1, half_positive c) in
      sum_two o laws (states c) (next c i 0) (next c i 1) _ apart (next_below c i 1 h (omega arith))
      (λ k q n m. ap (λ x. o.mul x (g k)) (entry_none y i k n m) ∙ laws.zero-mul (g k))
      ∙ ap₂ o.add (ap (λ x. o.mul x (g (next c i 0))) (entry_next y i 0 h (omega arith))) (ap (λ x. o.mul x (g (next c i 1))) (entry_next y i 1 h (omega arith)))

  -- single steps from any vector
  from_any : (ys : List ℕ) (v : ℕ → V) (j : ℕ) → j < states c → steps o (states c) e ys v j ≡ sum o (states c) (λ i. o.mul (v i) (ways o c value ys i j))
  unfolding ways
  from_any [] v j h =
      sym (sum_only o laws (states c) j _ h (λ i q n. ap (λ b. o.mul (v i) (cond b o.one o.zero)) (ne_eqb i j n) ∙ laws.mul-zero (v i))
      ∙ ap (λ b. o.mul (v j) (cond b o.one o.zero)) (eq-eqb j j refl) ∙ laws.mul-one (v j))
  from_any (y ∷ ys) v j h =
      from_any ys (stepped o (states c) v (e y)) j h
      ∙ sym (row_assoc o laws (states c) v (e y) (λ k l. ways o c value ys k l) j)
      ∙ sum_cong o (states c) _ _ (λ i q. ap (o.mul (v i)) (leaving y i (λ k. ways o c value ys k j) q))

  -- the sum branch by branch is the sum over all lists of bits
  over_lists : (ys : List ℕ) (s j : ℕ)
      → ways o c value ys s j ≡ total o (λ us. cond (eqb (end c s us) j) (worth o c value s us ys) o.zero) (bit_lists (length ys))
  unfolding ways total bit_lists
  over_lists [] s j = sym (add_zero_right o laws _)
  over_lists (y ∷ ys) s j =
      ap₂ o.add (part 0 (over_lists ys (next c s 0) j)) (part 1 (over_lists ys (next c s 1) j))
      ∙ sym (total_append o laws f (map (λ us. 0 ∷ us) (bit_lists (length ys))) (map (λ us. 1 ∷ us) (bit_lists (length ys)))
      ∙ ap₂ o.add (total_map o laws f (λ us. 0 ∷ us) (bit_lists (length ys))) (total_map o laws f (λ us. 1 ∷ us) (bit_lists (length ys))))
    where
      f : List ℕ → V
      f us = cond (eqb (end c s us) j) (worth o c value s us (y ∷ ys)) o.zero

      part : (u : ℕ)
          → ways o c value ys (next c s u) j
          ≡ total o (λ us. cond (eqb (end c (next c s u) us) j) (worth o c value (next c s u) us ys) o.zero) (bit_lists (length ys))
          → o.mul (value y (register_of c s u)) (ways o c value ys (next c s u) j) ≡ total o (λ us. f (u ∷ us)) (bit_lists (length ys))
      part u rest =
          ap (o.mul (value y (register_of c s u))) rest
          ∙ sym (total_cong o laws _ _ (λ us. take_in o laws (eqb (end c (next c s u) us) j) (value y (register_of c s u)) _) (bit_lists (length ys))
          ∙ total_mul o laws (value y (register_of c s u)) _ (bit_lists (length ys)))

  -- from one at state 0 and zero elsewhere, single steps give at j the sum, over all paths to j, of their products
  pub run_is_paths : (v : ℕ → V) → v 0 ≡ o.one → ((i : ℕ) → 0 < i → i < states c → v i ≡ o.zero) → (ys : List ℕ) (j : ℕ) → j < states c
      → steps o (states c) e ys v j ≡ total o (λ us. cond (eqb (end c 0 us) j) (worth o c value 0 us ys) o.zero) (bit_lists (length ys))
  run_is_paths v here rest ys j h =
      from_any ys v j h
      ∙ sum_only o laws (states c) 0 _ (states_positive c) (λ i q n. ap (λ x. o.mul x (ways o c value ys i j)) (rest i (omega arith) q) ∙ laws.zero-mul _)
      ∙ ap (λ x. o.mul x (ways o c value ys 0 j)) here ∙ laws.one-mul _ ∙ over_lists ys 0 j
