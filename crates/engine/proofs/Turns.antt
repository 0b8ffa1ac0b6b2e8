-- One letter of a plan, in the work area.
use Rattle.std.proofs.Common.{◌≡◌, ℕ, suc, ◌+◌, ◌-◌, ◌*◌, ◌<◌, ◌≤◌, true, List, [], ◌∷◌, length, take, sym, ap, ◌∙◌, subst, inl, inr, mul-le-mul_right, suc-mul, arith}
use Rattle.std.proofs.lemmas.Bool.{cases_lt}
use Rattle.algebra.specs.Sums.{at}
use Rattle.algebra.specs.declared.Algebra.{Ghosts as Algebra}
use Rattle.algebra.proofs.Sums.{sum_cong, mul_both}
use Rattle.algebra.proofs.Places.{at_same_front, at_take}
use Rattle.plan.specs.Plans.{Tree, joined}
use Rattle.engine.specs.Blocks.{Stands}
use Rattle.engine.specs.Matrices.{Joined, Normal, NormalFrom}
use Rattle.engine.proofs.Places.{row_in, take_less}

pub not_empty : (b : Tree) (bs : List Tree) → b ∷ bs ≡ [] → ⊥
not_empty b bs e = omega (arith, ap length e)

pub tall : (bs : List Tree) → 0 < length bs → bs ≡ [] → ⊥
tall bs h e = omega (arith, ap length e)

module _ {E : Type 0} (a : Algebra E) (d : ℕ) where
  pub more_rows : (n : ℕ) → (n + 1) * (d * d) ≡ n * (d * d) + d * d
  more_rows n = let e : n + 1 ≡ suc n = omega arith in ap (λ k. k * (d * d)) e ∙ suc-mul n (d * d)

  -- the top two matrices lie in the work area
  pub tops_in : (top n : ℕ) → 2 ≤ top → top * (d * d) ≤ n → (top - 2) * (d * d) + d * d + d * d ≤ n
  tops_in top n two h =
      let is : top ≡ top - 2 + 1 + 1 = omega arith in
      omega (arith, ap (λ k. k * (d * d)) is, more_rows (top - 2 + 1), more_rows (top - 2))

  -- what a join reads is in normal form
  pub tops_normal : (top : ℕ) (work : List E) → 2 ≤ top → Normal a.normal work (top * (d * d)) → NormalFrom a.normal work ((top - 2) * (d * d)) (d * d + d * d)
  tops_normal top work two all p h =
      let is : top ≡ top - 2 + 1 + 1 = omega arith in
      let high : top * (d * d) ≡ (top - 2) * (d * d) + d * d + d * d = ap (λ n. n * (d * d)) is ∙ more_rows (top - 2 + 1) ∙ ap (λ n. n + d * d) (more_rows (top - 2)) in
      all ((top - 2) * (d * d) + p) (omega arith)

  -- what letter a applies is in normal form
  pub only_normal : (top n : ℕ) (work : List E) → n ≡ d * d → top ≡ 1 → Normal a.normal work (top * (d * d)) → Normal a.normal (take n work) (d * d)
  only_normal top n work en one all p h =
      let high : top * (d * d) ≡ d * d = ap (λ k. k * (d * d)) one ∙ omega arith in
      at_take true a.normal n work p (omega arith) ∙ all p (omega arith)

module _ {E : Type 0} (a : Algebra E) (d : ℕ) (m : ℕ → ℕ → ℕ → a.Value) where
  abbrev value : List E → ℕ → a.Value
  value = at a.ops.zero a.mean

  -- a place of a matrix lies before the next one
  within : (n i j : ℕ) → i < d → j < d → n * (d * d) + (i * d + j) < suc n * (d * d)
  within n i j h l = omega (arith, row_in i d h, suc-mul n (d * d))

  -- the stack stands where the work area is unchanged up to its height
  pub stands_still : (stack : List Tree) (now next : List E) → take (length stack * (d * d)) next ≡ take (length stack * (d * d)) now → Stands a d m now stack → Stands a d m next stack
  stands_still [] now next e s = tt
  stands_still (b ∷ rest) now next e s = (
    (λ i j h l. at_same_front a.ops.zero a.mean _ next now _ (within (length rest) i j h l) e ∙ s.0 i j h l),
    stands_still rest now next (take_less (length rest * (d * d)) _ next now (mul-le-mul_right {m = length rest} {n = suc (length rest)} (d * d) (omega arith)) e) s.1,
  )

  -- what is in normal form up to a place, and from there on
  pub normal_more : (n k : ℕ) (now next : List E) → take n next ≡ take n now → Normal a.normal now n → NormalFrom a.normal next n k → Normal a.normal next (n + k)
  normal_more n k now next front below above p h = elim (cases_lt p n) [
    | inl lt ↦ at_same_front true a.normal n next now p lt front ∙ below p lt
    | inr ge ↦ let is : n + (p - n) ≡ p = omega arith in ap (at true a.normal next) (sym is) ∙ above (p - n) (omega arith)
  ]

  -- the stack after letter j
  pub joined_stands : (stack : List Tree) (n : ℕ) (work new : List E) → n ≡ length stack → 2 ≤ n → Stands a d m work stack → Joined a d ((n - 2) * (d * d)) work new
      → (n - 1 ≡ length (joined stack)) × Stands a d m new (joined stack)
  joined_stands [] n work new e two s done = absurd (omega arith)
  joined_stands (b ∷ []) n work new e two s done = absurd (omega arith)
  joined_stands (b ∷ (c ∷ rest)) n work new e two s done =
      let low : n - 2 ≡ length rest = omega arith in
      let place : (length rest) * (d * d) + d * d ≡ suc (length rest) * (d * d) = sym (suc-mul (length rest) (d * d)) in
      let here : Joined a d (length rest * (d * d)) work new = subst (λ k. Joined a d (k * (d * d)) work new) low done in (
        omega arith,
        (
          (λ i j h l. here.product i j h l ∙ sum_cong a.ops d _ _ (λ q lt. mul_both a.ops _ _ _ _ (s.1.0 i q h lt) (ap (λ p. value work (p + (q * d + j))) place ∙ s.0 q j lt l))),
          stands_still rest work new here.before s.1.1,
        ),
      )
