-- What is known of a plan that passed its questions.
use Rattle.std.proofs.Common.{◌≡◌, ℕ, ◌<◌, true, ◌&&◌, eqb, List, [], ◌∷◌, length, Ok, arith}
use Rattle.std.proofs.lemmas.Bool.Decides.{nat_tests}
use Rattle.refusal.specs.Questions.{asked}
use Rattle.refusal.proofs.Questions.{passed_first, passed_rest}
use Rattle.plan.specs.declared.Shape.{Shape}
use Rattle.plan.specs.Asks.{knows, stands, fits, ends, asks, known, finds, makes, singles, height}

module _ (plan : List ℕ) (n : ℕ) (a s : Shape) (passed : asked (asks plan n) a ≡ Ok s) where
  past_letters : asked (stands plan ∷ (fits plan ∷ (ends plan n ∷ []))) a ≡ Ok s
  past_letters = passed_rest (knows plan) (stands plan ∷ (fits plan ∷ (ends plan n ∷ []))) a s passed

  past_standing : asked (fits plan ∷ (ends plan n ∷ [])) a ≡ Ok s
  past_standing = passed_rest (stands plan) (fits plan ∷ (ends plan n ∷ [])) a s past_letters

  past_blocks : asked (ends plan n ∷ []) a ≡ Ok s
  past_blocks = passed_rest (fits plan) (ends plan n ∷ []) a s past_standing

  pub all_known : (p : ℕ) → p < length plan → known plan p ≡ true
  all_known = passed_first (knows plan) (stands plan ∷ (fits plan ∷ (ends plan n ∷ []))) a s passed

  pub all_made : (p : ℕ) → p < length plan → makes plan p ≡ true
  all_made = passed_first (fits plan) (ends plan n ∷ []) a s past_standing

  pub all_found : (p : ℕ) → p < length plan → finds plan p ≡ true
  all_found = passed_first (stands plan) (fits plan ∷ (ends plan n ∷ [])) a s past_letters

  ended : (eqb (singles plan) n && eqb (height plan (length plan)) 0) ≡ true
  ended = passed_first (ends plan n) [] a s past_blocks 0 (omega arith)

  pub all_singles : singles plan ≡ n
  all_singles = let e = ended in grind (arith, nat_tests)

  pub none_left : height plan (length plan) ≡ 0
  none_left = let e = ended in grind (arith, nat_tests)

  pub shape_is : s ≡ a
  shape_is = let e : ◌≡◌ (Ok a) (Ok s) = passed_rest (ends plan n) [] a s past_blocks in cc
