-- Single steps.
--   stepped o d v m     the state v times the matrix m, both of size d
--   steps o d e ys v    the state v after the single steps of the symbols ys, first to last, where e(y, i, j) are the entries
--   Rule V              what a recursion means: its size, which symbols it accepts, its entries
--   rule a m r          what the recursion r means
use Rattle.std.specs.Prelude.{Bool, List, [], ◌∷◌, ℕ}
use Rattle.algebra.specs.Laws.{Ops}
use Rattle.algebra.specs.Sums.{sum}
use Rattle.algebra.specs.declared.Algebra.{Ghosts as Algebra}
use Rattle.recursion.specs.declared.Recursion.{Ghosts as Recursion}

abbrev pub stepped : {V : Type 0} → Ops V → ℕ → (ℕ → V) → (ℕ → ℕ → V) → ℕ → V
stepped o d v m j = sum o d (λ i. o.mul (v i) (m i j))

abbrev pub steps : {V : Type 0} → Ops V → ℕ → (ℕ → ℕ → ℕ → V) → List ℕ → (ℕ → V) → ℕ → V
steps o d e [] v = v
steps o d e (y ∷ ys) v = steps o d e ys (stepped o d v (e y))

pub record Rule (V : Type 0) : Type 0 where
  pub size : ℕ
  pub accepts : ℕ → Bool
  pub entry : ℕ → ℕ → ℕ → V

abbrev pub rule : {R E : Type 0} (a : Algebra E) → Recursion R E → R → Rule a.Value
rule a m r = record { size = m.dim r; accepts = m.takes r; entry = λ y i j. a.mean (m.cell r y i j) }
