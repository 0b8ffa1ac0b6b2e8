-- The counting theorem.
--   First c v            v is 1 at state 0 and 0 at every other state
--   Counted c            from there, single steps of the count trellis over any symbols give at state j the number of admitted paths
--                        to j, modulo 4,294,967,296
--   occurrences us xs    how often the list us stands in xs
--   Listed c             paths_to c ys j has each admitted path over ys to j once, and no other list
--   PathsCounted         both, for every code
use Rattle.std.specs.Prelude.{◌≡◌, ℕ, ◌<◌, List, length, filter}
use Rattle.std.specs.List.{AllByRecursion}
use Rattle.std.specs.Str.{bytes_eq}
use Rattle.algebra_scalars.specs.Counts.{Residue, residue_of, count_ops}
use Rattle.recursion.specs.Steps.{steps}
use Rattle.code.specs.declared.description.Code.{Code}
use Rattle.code.specs.Codes.{states}
use Rattle.recursion_trellis.specs.Counts.{count_entry}
use Rattle.paths.specs.Paths.{Admitted, paths_to}

abbrev pub First : Code → (ℕ → Residue) → Type 0
First c v = (v 0 ≡ residue_of 1) × ((i : ℕ) → 0 < i → i < states c → v i ≡ residue_of 0)

abbrev pub Counted : Code → Type 0
Counted c =
    (v : ℕ → Residue) → First c v → (ys : List ℕ) (j : ℕ) → j < states c
    → steps count_ops (states c) (λ y i k. residue_of (count_entry c y i k)) ys v j ≡ residue_of (length (paths_to c ys j))

abbrev pub occurrences : List ℕ → List (List ℕ) → ℕ
occurrences us xs = length (filter (bytes_eq us) xs)

abbrev pub Listed : Code → Type 0
Listed c = (ys : List ℕ) (j : ℕ) → AllByRecursion (Admitted c ys j) (paths_to c ys j) × ((us : List ℕ) → Admitted c ys j us → occurrences us (paths_to c ys j) ≡ 1)

abbrev pub PathsCounted : Type 0
PathsCounted = (c : Code) → Counted c × Listed c
