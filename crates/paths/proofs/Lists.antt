-- The lists of n bits have each list of n bits once and no other, and so have the admitted ones of them.
use Rattle.std.proofs.Common.{◌≡◌, ℕ, zero, suc, ◌+◌, ◌<◌, Bool, true, false, cond, ◌&&◌, eqb, List, [], ◌∷◌, ◌++◌, map, length, filter, sym, refl, ap, ◌∙◌, ap₂, inl, inr, zero-add, arith, lit<, length-append}
use Rattle.std.specs.List.{AllByRecursion}
use Rattle.std.specs.Str.{bytes_eq}
use Rattle.std.proofs.lemmas.List.Elements.{filter-append}
use Rattle.std.proofs.ByRecursion.{All-append, All-map, All-weaker, all_kept_by, kept_by_passes}
use Rattle.std.proofs.lemmas.Slice.Eq.{bytes_eq-Decides}
use Rattle.std.proofs.lemmas.Bool.{cases_Bool, both_ways, and_parts, and_from, eqb-true, eq-eqb}
use Rattle.code.specs.declared.description.Code.{Code}
use Rattle.paths.specs.Paths.{Bits, end, admits, bit_lists}
use Rattle.paths.specs.Theorems.{occurrences, Listed}

-- each is a list of n bits
bits_alone : (n : ℕ) → AllByRecursion (λ us. Bits us × (length us ≡ n)) (bit_lists n)
unfolding bit_lists
bits_alone zero = ((tt, refl), tt)
bits_alone (suc n) = All-append _ _ _ (led 0 (lit< tt) (bits_alone n)) (led 1 (lit< tt) (bits_alone n))
  where
    led : (u : ℕ) → u < 2 → AllByRecursion (λ us. Bits us × (length us ≡ n)) (bit_lists n) → AllByRecursion (λ us. Bits us × (length us ≡ suc n)) (map (λ us. u ∷ us) (bit_lists n))
    led u b below = All-map _ (λ us. u ∷ us) (bit_lists n) (All-weaker _ _ (λ us h. ((b, h.0), ap suc h.1)) (bit_lists n) below)

occurrences_more : (us x : List ℕ) (xs : List (List ℕ)) → occurrences us (x ∷ xs) ≡ cond (bytes_eq us x) 1 0 + occurrences us xs
occurrences_more us x xs = by_test (bytes_eq us x) (filter (bytes_eq us) xs)
  where
    by_test : (t : Bool) (kept : List (List ℕ)) → length (cond t (x ∷ kept) kept) ≡ cond t 1 0 + length kept
    by_test true kept = omega arith
    by_test false kept = omega arith

occurrences_append : (us : List ℕ) (xs zs : List (List ℕ)) → occurrences us (xs ++ zs) ≡ occurrences us xs + occurrences us zs
occurrences_append us xs zs = ap length (filter-append (bytes_eq us) xs zs) ∙ length-append (filter (bytes_eq us) xs) (filter (bytes_eq us) zs)

-- behind the same first bit, as often as without it
occurrences_same : (u : ℕ) (us : List ℕ) (xs : List (List ℕ)) → occurrences (u ∷ us) (map (λ zs. u ∷ zs) xs) ≡ occurrences us xs
occurrences_same u us [] = refl
occurrences_same u us (x ∷ xs) =
    occurrences_more (u ∷ us) (u ∷ x) (map (λ zs. u ∷ zs) xs)
    ∙ ap₂ (λ (t : Bool) (n : ℕ). cond (t && bytes_eq us x) 1 0 + n) (eq-eqb u u refl) (occurrences_same u us xs) ∙ sym (occurrences_more us x xs)

-- behind another, never
occurrences_other : (u w : ℕ) → eqb u w ≡ false → (us : List ℕ) (xs : List (List ℕ)) → occurrences (u ∷ us) (map (λ zs. w ∷ zs) xs) ≡ 0
occurrences_other u w n us [] = refl
occurrences_other u w n us (x ∷ xs) =
    occurrences_more (u ∷ us) (w ∷ x) (map (λ zs. w ∷ zs) xs) ∙ ap₂ (λ (t : Bool) (m : ℕ). cond (t && bytes_eq us x) 1 0 + m) n (occurrences_other u w n us xs)

bits_once : (us : List ℕ) → Bits us → occurrences us (bit_lists (length us)) ≡ 1
unfolding bit_lists
bits_once [] b = refl
bits_once (zero ∷ us) b = occurrences_append (0 ∷ us) (map (λ zs. 0 ∷ zs) (bit_lists (length us))) _ ∙ ap₂ (λ (m n : ℕ). m + n) (occurrences_same 0 us (bit_lists (length us)) ∙ bits_once us b.1) (occurrences_other 0 1 refl us (bit_lists (length us)))
bits_once (suc zero ∷ us) b = occurrences_append (1 ∷ us) (map (λ zs. 0 ∷ zs) (bit_lists (length us))) _ ∙ ap₂ (λ (m n : ℕ). m + n) (occurrences_other 1 0 refl us (bit_lists (length us))) (occurrences_same 1 us (bit_lists (length us)) ∙ bits_once us b.1)
bits_once (suc (suc u) ∷ us) b = absurd (omega (arith, b.0))

-- a filter keeps a list that passes as often as it stands there
occurrences_kept : (p : List ℕ → Bool) (us : List ℕ) → p us ≡ true → (xs : List (List ℕ)) → occurrences us (filter p xs) ≡ occurrences us xs
occurrences_kept p us h [] = refl
occurrences_kept p us h (x ∷ xs) = by_test (p x) refl (occurrences_kept p us h xs)
  where
    -- a list that does not pass is another
    differs : p x ≡ false → bytes_eq us x ≡ false
    differs f =
        elim (cases_Bool (bytes_eq us x)) [
          | inl t ↦ absurd (both_ways (p x) f (sym (ap p ((bytes_eq-Decides us x).0 t)) ∙ h))
          | inr t ↦ t
        ]

    by_test : (t : Bool) → p x ≡ t → occurrences us (filter p xs) ≡ occurrences us xs → occurrences us (cond t (x ∷ filter p xs) (filter p xs)) ≡ occurrences us (x ∷ xs)
    by_test true e rest = occurrences_more us x (filter p xs) ∙ ap (λ (n : ℕ). cond (bytes_eq us x) 1 0 + n) rest ∙ sym (occurrences_more us x xs)
    by_test false e rest = rest ∙ sym (occurrences_more us x xs ∙ ap (λ t. cond t 1 0 + occurrences us xs) (differs e) ∙ zero-add (occurrences us xs))

all_both : {X : Type 0} (P Q : X → Type 0) (xs : List X) → AllByRecursion P xs → AllByRecursion Q xs → AllByRecursion (λ x. P x × Q x) xs
all_both P Q [] a b = tt
all_both P Q (x ∷ xs) a b = ((a.0, b.0), all_both P Q xs a.1 b.1)

pub listed : (c : Code) → Listed c
listed c ys j = (
  All-weaker _ _
      (λ us h. let parts = and_parts _ _ h.1 in record { bits = h.0.0; as_long = h.0.1; allowed = parts.0; there = eqb-true _ _ parts.1 })
      _ (all_both _ _ _ (all_kept_by p _ _ (bits_alone (length ys))) (kept_by_passes p (bit_lists (length ys)))),
  λ us way.
      occurrences_kept p us (and_from _ _ way.allowed (eq-eqb _ _ way.there)) (bit_lists (length ys))
      ∙ ap (λ n. occurrences us (bit_lists n)) (sym way.as_long) ∙ bits_once us way.bits,
)
  where
    p : List ℕ → Bool
    p us = admits c 0 us ys && eqb (end c 0 us) j
