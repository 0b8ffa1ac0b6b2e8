-- The number that a counter answers is the number of admitted paths, modulo 4,294,967,296.
use Rattle.std.proofs.Common.{◌≡◌, ℕ, ◌%◌, ◌<◌, Bool, true, false, eqb, ltb, List, [], ◌∷◌, length, Ok, Err, Option, Result, sym, refl, ap, ◌∙◌, mod-lt, arith, lit<}
use native.Mathlib.Nat.{mod-mod}
use Rattle.std.proofs.lemmas.Bool.{ltb-true, ne_eqb, cond-false}
use Rattle.algebra_scalars.specs.Counts.{Residue, residue_of, modulus}
use Rattle.algebra_scalars.specs.CountsLemmas.{residue_same, residue_distinct}
use Rattle.algebra_scalars.specs.declared.count.Count.{Count}
use Rattle.algebra_scalars.specs.contracts.count.CountAlgebra.TheImpl.{ghosts as counts}
use Rattle.code.specs.declared.description.Code.{Code}
use Rattle.code.specs.Codes.{states}
use Rattle.paths.specs.Paths.{paths_to}
use Rattle.paths.proofs.Counts.{counted}
use Rattle.refusal.specs.declared.Refusal.{Refusal}
use Rattle.refusal.specs.declared.Refusal.TheVariants.{Place}
use Rattle.refusal.specs.Questions.{once, asked}
use Rattle.refusal.proofs.Questions.{asked_yes, asked_no}
use Rattle.engine.specs.Plain.{found}
use Rattle.engine.specs.Runs.{Heard, ReadServes}
use Rattle.run_counter.specs.declared.Counter.{Counter}
use Rattle.run_counter.specs.Counter.{start_of, counting, present, Shows, path_count, CountsPaths}

-- numbers that mean the same have one remainder
same_remainder : (a b : ℕ) → residue_of a ≡ residue_of b → a % modulus ≡ b % modulus
same_remainder a b e =
    residue_distinct (a % modulus) (b % modulus) (mod-lt a (lit< tt)) (mod-lt b (lit< tt))
    (residue_same (a % modulus) a (mod-mod a modulus) ∙ e ∙ sym (residue_same (b % modulus) b (mod-mod b modulus)))

module _ (c : Code) (ys : List ℕ) (s : ℕ) where
  -- the plain run holds the number of admitted paths
  holds_number : s < states c → (counting c ys).state s ≡ residue_of (length (paths_to c ys s))
  holds_number h = counted c start_of (refl, λ i l b. cond-false (eqb i 0) _ _ (ne_eqb i 0 (λ e. omega arith))) ys s h

  -- what is asked of a state that the code has, and of another
  module _ {A : Type 0} (x : A) where
    inside : ltb s (states c) ≡ true → asked (once (ltb s (states c)) Place ∷ []) x ≡ Ok x
    inside t = asked_yes (once (ltb s (states c)) Place) [] x (λ p l. t)

    outside : ltb s (states c) ≡ false → asked (once (ltb s (states c)) Place ∷ []) x ≡ Err Place
    outside t = asked_no (once (ltb s (states c)) Place) [] x 0 (omega arith) t (λ k l. absurd (omega arith))

  -- an answer that shows what the plain run answers is the number of paths
  shown : (b : Bool) → ltb s (states c) ≡ b → (o : Result (Option ℕ) Refusal) → Shows o (found (counting c ys) s) → o ≡ path_count c ys s
  shown true t (Ok x) (n, is, w) =
      let held = inside ((counting c ys).state s) t in
      let number = holds_number (ltb-true _ _ t) in
      let same : residue_of n ≡ residue_of (length (paths_to c ys s)) = cc in
      ap Ok (is ∙ ap present (same_remainder _ _ same)) ∙ sym (inside _ t)
  shown true t (Err e) w = let held = inside ((counting c ys).state s) t in absurd (let z : ◌≡◌ {A = ℕ} 0 1 = cc in omega arith)
  shown false t (Ok x) (n, is, w) = let no-state = outside ((counting c ys).state s) t in absurd (let z : ◌≡◌ {A = ℕ} 0 1 = cc in omega arith)
  shown false t (Err e) w =
      let no-state = outside ((counting c ys).state s) t in
      let same : e ≡ Place = cc in
      ap Err same ∙ sym (outside _ t)

-- a counter that shows what its run reads answers the number of paths
pub counts_paths : (s : ℕ) (k : Counter) (r : Result Count Refusal) (o : Result (Option ℕ) Refusal)
    → ((w : Result Residue Refusal) → Heard counts r w → Shows o w) → ReadServes counts s k.run r → CountsPaths s k o
counts_paths s k r o shows serves c ys h = shown c ys s (ltb s (states c)) refl o (shows _ (serves (counting c ys) [] h.holds).0)
