-- The plain run: what a run answers and holds, by single steps and the questions alone.
--   limit                  the most symbols that one run may take
--   Plain V                what it holds: the size that it was made for, the symbols taken so far, the state
--   takes p r ys plan n k  the questions of a take of the symbols ys under a plan, with a work area of n elements and a row of k
--   took ..                its answer: how many symbols were taken and how many joins made, or the first no
--   found p i              the answer to reading place i
--   Call V                 take and read with their arguments; of work area and row only the lengths
--   next o p c             what the plain run holds after a call: an accepted take does its symbols' single steps
--   after o p cs           what it holds after the calls cs, first to last
use Rattle.std.specs.Prelude.{ℕ, ◌+◌, ◌*◌, ◌&&◌, List, [], ◌∷◌, ◌++◌, length, Ok, Err, Result, ◌==◌, nat_le, nat_lt, slice_index}
use Rattle.algebra.specs.Laws.{Ops}
use Rattle.plan.specs.Asks.{asks, joins, most}
use Rattle.recursion.specs.Steps.{Rule, steps}
use Rattle.refusal.specs.declared.Refusal.{Refusal}
use Rattle.refusal.specs.declared.Refusal.TheVariants.{Symbol, Limit, Memory, Place}
use Rattle.refusal.specs.Questions.{Question, once, asked}

abbrev pub limit : ℕ
limit = 1000000

pub record Plain (V : Type 0) : Type 0 where
  pub size : ℕ
  pub count : ℕ
  pub state : ℕ → V

-- is each symbol accepted?
abbrev pub accepted : {V : Type 0} → Rule V → List ℕ → Question
accepted r ys = record { count = length ys; test = λ p. r.accepts (slice_index ys p); refuse = λ p. Symbol p }

-- does the run stay within its limit?
abbrev pub within : ℕ → List ℕ → Question
within taken ys = once (nat_le (taken + length ys) limit) Limit

-- was the run made for this size, and are there so many matrices in the work area and so many elements in the row?
abbrev pub roomy : ℕ → ℕ → List ℕ → ℕ → ℕ → Question
roomy made d plan n k = once (d == made && (nat_le (most plan * (d * d)) n && nat_le d k)) Memory

abbrev pub takes : {V : Type 0} → Plain V → Rule V → List ℕ → List ℕ → ℕ → ℕ → List Question
takes p r ys plan n k = asks plan (length ys) ++ (accepted r ys ∷ (within p.count ys ∷ (roomy p.size r.size plan n k ∷ [])))

abbrev pub took : {V : Type 0} → Plain V → Rule V → List ℕ → List ℕ → ℕ → ℕ → Result (ℕ × ℕ) Refusal
took p r ys plan n k = asked (takes p r ys plan n k) (length ys, joins plan)

abbrev pub found : {V : Type 0} → Plain V → ℕ → Result V Refusal
found p i = asked (once (nat_lt i p.size) Place ∷ []) (p.state i)

pub data Call (V : Type 0) : Type 0 where
  Take : Rule V → List ℕ → List ℕ → ℕ → ℕ → Call V
  Read : ℕ → Call V

-- the state of an accepted take, and the one before it where it was refused
abbrev pub settled : {A V : Type 0} → Result A Refusal → Plain V → Plain V → Plain V
settled (Ok x) p q = p
settled (Err e) p q = q

abbrev pub next : {V : Type 0} → Ops V → Plain V → Call V → Plain V
next o p (Take r ys plan n k) =
    settled (took p r ys plan n k) (record { size = p.size; count = p.count + length ys; state = steps o p.size r.entry ys p.state }) p
next o p (Read i) = p

abbrev pub after : {V : Type 0} → Ops V → Plain V → List (Call V) → Plain V
after o p [] = p
after o p (c ∷ cs) = after o (next o p c) cs
