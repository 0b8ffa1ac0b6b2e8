-- A path is the cheapest where a test of all lists of as many bits says so.
use Rattle.std.proofs.Common.{◌≡◌, ℕ, zero, suc, Bool, true, cond, ◌&&◌, ◌||◌, eqb, ltb, leb, List, [], ◌∷◌, length, arith}
use Rattle.std.proofs.lemmas.Bool.{and_parts}
use Rattle.std.proofs.lemmas.Bool.Decides.{nat_tests}
use Rattle.code.specs.declared.description.Code.{Code}
use Rattle.paths.specs.Paths.{Bits, end}
use Rattle.frame_paths.specs.Paths.{costs, Reaches, Cheapest}
use Rattle.frame_paths.specs.Survivors.{Lower, word}
use Rattle.frame_paths.proofs.Decodes.{cheapest}

-- whether f says yes of every list of n bits
abbrev of_all_bits : ℕ → (List ℕ → Bool) → Bool
of_all_bits zero f = f []
of_all_bits (suc n) f = of_all_bits n (λ us. f (0 ∷ us)) && of_all_bits n (λ us. f (1 ∷ us))

of_each : (n : ℕ) (f : List ℕ → Bool) → of_all_bits n f ≡ true → (us : List ℕ) → Bits us → length us ≡ n → f us ≡ true
of_each zero f e [] b l = e
of_each zero f e (u ∷ us) b l = absurd (omega arith)
of_each (suc n) f e [] b l = absurd (omega arith)
of_each (suc n) f e (zero ∷ us) b l = of_each n (λ vs. f (0 ∷ vs)) (and_parts _ _ e).0 us b.1 (omega arith)
of_each (suc n) f e (suc zero ∷ us) b l = of_each n (λ vs. f (1 ∷ vs)) (and_parts _ _ e).1 us b.1 (omega arith)
of_each (suc n) f e (suc (suc u) ∷ us) b l = absurd (omega (arith, b.0))

-- whether vs does not come before cost a and word w, or ends elsewhere
abbrev not_before : Code → List ℕ → ℕ → ℕ → ℕ → List ℕ → Bool
not_before c ys j a w vs = cond (eqb (end c 0 vs) j) (ltb a (costs c 0 ys vs) || (eqb a (costs c 0 ys vs) && leb w (word c 0 vs))) true

lower : (a w b z e j : ℕ) → e ≡ j → cond (eqb e j) (ltb a b || (eqb a b && leb w z)) true ≡ true → Lower a w b z
lower a w b z e j same t = grind (arith, nat_tests)

pub cheapest_by_test : (c : Code) (ys : List ℕ) (j : ℕ) (us : List ℕ) → Reaches c ys j us
    → of_all_bits (length ys) (not_before c ys j (costs c 0 ys us) (word c 0 us)) ≡ true → Cheapest c ys j us
cheapest_by_test c ys j us reaches t =
    cheapest c ys j us reaches (λ vs k. lower _ _ _ _ (end c 0 vs) j k.there (of_each (length ys) _ t vs k.bits k.as_long))
