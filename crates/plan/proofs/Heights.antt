-- What one letter more does to the stack, its height and the counts.
use Rattle.std.proofs.Common.{◌≡◌, ℕ, ◌+◌, ◌-◌, ◌<◌, ◌≤◌, max, Bool, true, false, cond, List, [], ◌∷◌, ◌++◌, length, get_or, take, sym, refl, ap, ◌∙◌, add-one, arith}
use Rattle.std.proofs.lemmas.List.{take_more}
use Rattle.std.proofs.lemmas.Bool.Decides.{nat_tests}
use Rattle.plan.specs.Plans.{Tree, Progress, joined, applied, letter, letters, none_yet, after}
use Rattle.plan.specs.Plans.{Single}
use Rattle.plan.specs.Asks.{tally, peak, height}

pub letter_s : (w : Progress) (c : ℕ) → c ≡ 115 → letter w c ≡ record { stack = Single w.next ∷ w.stack; next = w.next + 1; done = w.done; last = w.last; blocks = w.blocks }
letter_s w c e = rw e

pub letter_j : (w : Progress) (c : ℕ) → c ≡ 106 → letter w c ≡ record { stack = joined w.stack; next = w.next; done = w.done; last = w.last; blocks = w.blocks }
letter_j w c e = rw e

pub letter_a : (w : Progress) (c : ℕ) → (c ≡ 115 → ⊥) → (c ≡ 106 → ⊥) → letter w c ≡ record { stack = []; next = w.next; done = applied w.done w.stack; last = w.stack; blocks = w.stack ++ w.blocks }
letter_a w c s j = grind (arith, nat_tests)

pub letters_push : (w : Progress) (cs : List ℕ) (c : ℕ) → letters w (cs ++ (c ∷ [])) ≡ letter (letters w cs) c
letters_push w [] c = refl
letters_push w (b ∷ cs) c = letters_push (letter w b) cs c

pub joined_less : (bs : List Tree) → 2 ≤ length bs → length bs - 1 ≡ length (joined bs)
joined_less [] h = absurd (omega arith)
joined_less (b ∷ []) h = absurd (omega arith)
joined_less (b ∷ (c ∷ rest)) h = omega arith

module _ (plan : List ℕ) (p : ℕ) (inside : p < length plan) where
  pub after_next : after plan (p + 1) ≡ letter (after plan p) (get_or plan p 0)
  after_next = ap (letters none_yet) (take_more plan p 0 inside) ∙ letters_push none_yet (take p plan) (get_or plan p 0)

  pub height_s : get_or plan p 0 ≡ 115 → height plan (p + 1) ≡ height plan p + 1
  height_s e = ap (λ w. length w.stack) (after_next ∙ letter_s (after plan p) _ e) ∙ omega arith

  pub height_j : get_or plan p 0 ≡ 106 → 2 ≤ height plan p → height plan (p + 1) ≡ height plan p - 1
  height_j e two = ap (λ w. length w.stack) (after_next ∙ letter_j (after plan p) _ e) ∙ sym (joined_less (after plan p).stack two)

  pub height_a : (get_or plan p 0 ≡ 115 → ⊥) → (get_or plan p 0 ≡ 106 → ⊥) → height plan (p + 1) ≡ 0
  height_a s j = ap (λ w. length w.stack) (after_next ∙ letter_a (after plan p) _ s j)

pub tally_more : (f : ℕ → Bool) (n : ℕ) → tally f (n + 1) ≡ tally f n + cond (f n) 1 0
unfolding tally
tally_more f n = rw add-one

pub tally_yes : (f : ℕ → Bool) (n : ℕ) → f n ≡ true → tally f (n + 1) ≡ tally f n + 1
tally_yes f n e = rw (tally_more, e)

pub tally_no : (f : ℕ → Bool) (n : ℕ) → f n ≡ false → tally f (n + 1) ≡ tally f n
tally_no f n e = tally_more f n ∙ rw e (omega arith)

pub tally_none : (f : ℕ → Bool) → tally f 0 ≡ 0
unfolding tally
tally_none f = refl

pub peak_more : (f : ℕ → ℕ) (n : ℕ) → peak f (n + 1) ≡ max (peak f n) (f n)
unfolding peak
peak_more f n = rw add-one

pub peak_one : (f : ℕ → ℕ) → f 0 ≡ 0 → peak f 1 ≡ 0
unfolding peak
peak_one f e = rw e
