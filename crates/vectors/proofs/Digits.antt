-- Characters that are no dash, among those of a field.
use Rattle.std.proofs.Common.{◌≡◌, ◌∙◌, ap, subst, ℕ, true, cond, All, filter, List, [], ◌∷◌, ◌++◌}
use Rattle.std.proofs.lemmas.List.Elements.{All-head, All-tail, filter-append}
use Rattle.vectors.specs.Lines.{IsDigit, no_dash}

pub kept : (xs ys : List ℕ) (d : ℕ) → no_dash d ≡ true → filter no_dash (xs ++ d ∷ ys) ≡ filter no_dash xs ++ d ∷ filter no_dash ys
kept xs ys d e = filter-append no_dash xs (d ∷ ys) ∙ ap (λ b. filter no_dash xs ++ cond b (d ∷ filter no_dash ys) (filter no_dash ys)) e

pub after : (xs ys : List ℕ) → All IsDigit (xs ++ ys) → All IsDigit ys
after [] ys h = h
after (x ∷ xs) ys h = after xs ys (All-tail IsDigit x (xs ++ ys) h)

pub digit : (xs ys : List ℕ) (d : ℕ) → no_dash d ≡ true → All IsDigit (filter no_dash (xs ++ d ∷ ys)) → IsDigit d
digit xs ys d e h = All-head IsDigit d (filter no_dash ys) (after (filter no_dash xs) (d ∷ filter no_dash ys) (subst (All IsDigit) (kept xs ys d e) h))
