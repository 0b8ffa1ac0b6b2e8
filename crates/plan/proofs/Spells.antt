-- The places of symbols in their order, and those of a stack.
use Rattle.std.proofs.Common.{◌≡◌, ℕ, zero, suc, ◌+◌, List, [], ◌∷◌, ◌++◌, refl, add-one}
use Rattle.plan.specs.Plans.{Tree, places}

-- 0, 1, .., n - 1
unfoldable pub upto : ℕ → List ℕ
upto zero = []
upto (suc n) = upto n ++ (n ∷ [])

pub upto_more : (n : ℕ) → upto (n + 1) ≡ upto n ++ (n ∷ [])
unfolding upto
upto_more n = rw add-one

pub upto_none : upto 0 ≡ []
unfolding upto
upto_none = refl

-- the places of a stack, the bottom first
abbrev pub flat : List Tree → List ℕ
flat [] = []
flat (t ∷ rest) = flat rest ++ places t
