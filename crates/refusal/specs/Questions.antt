-- Questions before an answer: they are put in order, and the first no is the refusal.
--   Question        asked of each of `count` places; `test` says yes or no, `refuse` gives the refusal for a no at a place
--   once b r        one question, refused r where b is false
--   least f n       the least place below n at which f says no, and n where there is none
--   asked qs a      a, unless a question of qs is answered no
use Rattle.std.specs.Prelude.{ℕ, zero, suc, Bool, cond, List, [], ◌∷◌, Ok, Err, Result, nat_lt}
use Rattle.refusal.specs.declared.Refusal.{Refusal}

pub record Question : Type 0 where
  pub count : ℕ
  pub test : ℕ → Bool
  pub refuse : ℕ → Refusal

abbrev pub once : Bool → Refusal → Question
once b r = record { count = 1; test = λ _. b; refuse = λ _. r }

unfoldable pub least : (ℕ → Bool) → ℕ → ℕ
least f zero = zero
least f (suc n) = cond (nat_lt (least f n) n) (least f n) (cond (f n) (suc n) n)

abbrev pub asked : {A : Type 0} → List Question → A → Result A Refusal
asked [] a = Ok a
asked (q ∷ qs) a = cond (nat_lt (least q.test q.count) q.count) (Err (q.refuse (least q.test q.count))) (asked qs a)
