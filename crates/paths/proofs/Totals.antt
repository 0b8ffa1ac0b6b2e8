-- The sum of a function over a list, and what the laws make of it.
use Rattle.std.proofs.Common.{◌≡◌, List, [], ◌∷◌, ◌++◌, map, sym, refl, ap, ◌∙◌, ap₂}
use Rattle.algebra.specs.Laws.{Ops, Laws}

-- the sum of f over a list
unfoldable pub total : {V X : Type 0} → Ops V → (X → V) → List X → V
total o f [] = o.zero
total o f (x ∷ xs) = o.add (f x) (total o f xs)

module _ {V X : Type 0} (o : Ops V) (laws : Laws o) where
  pub total_append : (f : X → V) (xs ys : List X) → total o f (xs ++ ys) ≡ o.add (total o f xs) (total o f ys)
  unfolding total
  total_append f [] ys = sym (laws.zero-add _)
  total_append f (x ∷ xs) ys = ap (o.add (f x)) (total_append f xs ys) ∙ sym (laws.add_assoc _ _ _)

  pub total_map : (f : X → V) (h : X → X) (xs : List X) → total o f (map h xs) ≡ total o (λ x. f (h x)) xs
  unfolding total
  total_map f h [] = refl
  total_map f h (x ∷ xs) = ap (o.add (f (h x))) (total_map f h xs)

  pub total_mul : (a : V) (f : X → V) (xs : List X) → total o (λ x. o.mul a (f x)) xs ≡ o.mul a (total o f xs)
  unfolding total
  total_mul a f [] = sym (laws.mul-zero a)
  total_mul a f (x ∷ xs) = ap (o.add (o.mul a (f x))) (total_mul a f xs) ∙ sym (laws.mul-add a (f x) (total o f xs))

  pub total_cong : (f h : X → V) → ((x : X) → f x ≡ h x) → (xs : List X) → total o f xs ≡ total o h xs
  unfolding total
  total_cong f h e [] = refl
  total_cong f h e (x ∷ xs) = ap₂ o.add (e x) (total_cong f h e xs)
