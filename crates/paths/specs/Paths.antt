-- Paths through the trellis of a code. A path is a list of input bits, one for each symbol, from state 0.
--   Bits us              each number of us is 0 or 1
--   end c s us           where the input bits us lead from state s
--   admits c s us ys     whether each branch that the input bits us take from state s is admitted by its symbol of ys
--   Admitted c ys j us   us is a path over the symbols ys that ends in state j, and each of its branches is admitted
--   bit_lists n          the lists of n bits
--   paths_to c ys j      those of the lists of bits, one for each symbol of ys, that are admitted and end in j
use Rattle.std.specs.Prelude.{◌≡◌, ℕ, zero, suc, ◌<◌, Bool, true, ◌&&◌, List, [], ◌∷◌, ◌++◌, map, length, filter, ◌==◌}
use Rattle.std.specs.List.{AllByRecursion}
use Rattle.code.specs.declared.description.Code.{Code}
use Rattle.code.specs.Codes.{register_of, next}
use Rattle.code.specs.Symbols.{admitted}

abbrev pub Bits : List ℕ → Type 0
Bits us = AllByRecursion (λ u. u < 2) us

abbrev pub end : Code → ℕ → List ℕ → ℕ
end c s [] = s
end c s (u ∷ us) = end c (next c s u) us

abbrev pub admits : Code → ℕ → List ℕ → List ℕ → Bool
admits c s us [] = true
admits c s [] (y ∷ ys) = true
admits c s (u ∷ us) (y ∷ ys) = admitted c y (register_of c s u) && admits c (next c s u) us ys

pub record Admitted (c : Code) (ys : List ℕ) (j : ℕ) (us : List ℕ) : Type 0 where
  pub bits : Bits us
  pub as_long : length us ≡ length ys
  pub allowed : admits c 0 us ys ≡ true
  pub there : end c 0 us ≡ j

unfoldable pub bit_lists : ℕ → List (List ℕ)
bit_lists zero = [] ∷ []
bit_lists (suc n) = map (λ us. 0 ∷ us) (bit_lists n) ++ map (λ us. 1 ∷ us) (bit_lists n)

abbrev pub paths_to : Code → List ℕ → ℕ → List (List ℕ)
paths_to c ys j = filter (λ us. admits c 0 us ys && end c 0 us == j) (bit_lists (length ys))
