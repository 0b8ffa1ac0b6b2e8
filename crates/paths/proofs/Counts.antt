-- Over counts the sum over all paths is the number of the admitted ones.
use Rattle.std.proofs.Common.{◌≡◌, ℕ, Bool, true, false, cond, ◌&&◌, eqb, List, [], ◌∷◌, length, filter, refl, ap, ◌∙◌, zero-add, one-add}
use Rattle.algebra_scalars.specs.Counts.{Residue, residue_of, plus, times, count_ops}
use Rattle.algebra_scalars.specs.CountsLemmas.{plus_residue, times_residue, count_laws}
use Rattle.code.specs.declared.description.Code.{Code}
use Rattle.code.specs.Codes.{register_of, next, goes, input}
use Rattle.code.specs.Symbols.{admitted}
use Rattle.paths.specs.Paths.{end, admits, bit_lists}
use Rattle.paths.specs.Theorems.{Counted}
use Rattle.paths.proofs.Totals.{total, total_cong}
use Rattle.paths.proofs.Runs.{worth, run_is_paths}

-- the residue of a truth
counts : Bool → Residue
counts b = residue_of (cond b 1 0)

counts_mul : (a b : Bool) → times (counts a) (counts b) ≡ counts (a && b)
unfolding counts
counts_mul true true = times_residue 1 1
counts_mul true false = times_residue 1 0
counts_mul false true = times_residue 0 1
counts_mul false false = times_residue 0 0

picked : (a b : Bool) → cond b (counts a) (residue_of 0) ≡ counts (a && b)
unfolding counts
picked true true = refl
picked true false = refl
picked false true = refl
picked false false = refl

-- where no branch goes, nothing is admitted
branching : (a b : Bool) → counts (a && b) ≡ cond a (counts b) (residue_of 0)
unfolding counts
branching true b = refl
branching false b = refl

one_more : (b : Bool) (x : List ℕ) (xs : List (List ℕ)) → plus (counts b) (residue_of (length xs)) ≡ residue_of (length (cond b (x ∷ xs) xs))
unfolding counts
one_more true x xs = plus_residue 1 (length xs) ∙ ap residue_of (one-add (length xs))
one_more false x xs = plus_residue 0 (length xs) ∙ ap residue_of (zero-add (length xs))

total_is : (p : List ℕ → Bool) (xs : List (List ℕ)) → total count_ops (λ us. counts (p us)) xs ≡ residue_of (length (filter p xs))
unfolding total
total_is p [] = refl
total_is p (x ∷ xs) = ap (plus (counts (p x))) (total_is p xs) ∙ one_more (p x) x (filter p xs)

module _ (c : Code) where
  branch : ℕ → ℕ → Residue
  branch y r = counts (admitted c y r)

  worth_is : (ys us : List ℕ) (s : ℕ) → worth count_ops c branch s us ys ≡ counts (admits c s us ys)
  unfolding branch counts
  worth_is [] us s = refl
  worth_is (y ∷ ys) [] s = refl
  worth_is (y ∷ ys) (u ∷ us) s = ap (times (counts (admitted c y (register_of c s u)))) (worth_is ys us (next c s u)) ∙ counts_mul (admitted c y (register_of c s u)) _

  pub counted : Counted c
  unfolding branch counts
  counted v first ys j h =
      run_is_paths count_ops count_laws c branch _ (λ y i k. branching (goes c i k) (admitted c y (register_of c i (input c k)))) v first.0 first.1 ys j h
      ∙ total_cong count_ops count_laws _ _ (λ us. ap (λ w. cond (eqb (end c 0 us) j) w (residue_of 0)) (worth_is ys us 0) ∙ picked (admits c 0 us ys) (eqb (end c 0 us) j)) (bit_lists (length ys))
      ∙ total_is (λ us. admits c 0 us ys && eqb (end c 0 us) j) (bit_lists (length ys))
