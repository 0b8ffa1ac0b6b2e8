-- What a take by a fresh run of k7 answers and does, from what the run promises.
use Rattle.std.proofs.Common.{◌≡◌, ℕ, ◌≤◌, true, false, leb, List, [], length, Ok, Err, Result, sym, ap, ◌∙◌, subst, arith}
use Rattle.std.proofs.lemmas.Bool.Decides.{nat_tests}
use Rattle.algebra_survivor.specs.declared.Survivor.{Survivor}
use Rattle.code.specs.declared.description.Code.{Code}
use Rattle.code.specs.Codes.{k7, states}
use Rattle.engine.specs.Plain.{takes, took}
use Rattle.engine.specs.Runs.{Follows, Made, Taken, fresh}
use Rattle.engine.specs.declared.run.Run.{Run}
use Rattle.plan.specs.Asks.{joins}
use Rattle.recursion.specs.Steps.{rule}
use Rattle.recursion_trellis.specs.contracts.survivor.SurvivorTrellisRecursion.TheImpl.{ghosts as trellis_of}
use Rattle.refusal.specs.Questions.{once}
use Rattle.refusal.proofs.Questions.{asked_yes, asked_no}
use Rattle.refusal.specs.declared.Refusal.{Refusal}
use Rattle.refusal.specs.declared.Refusal.TheVariants.{Memory}
use Rattle.bench_kernels.specs.Kernels.{Took, survivors, taking, trellis}

-- a run that was made over a state of 64 elements is fresh
pub begun : (k : Code) → k ≡ k7 → (state : List Survivor) (over run : Run Survivor) (x : Unit) → over.state.now ≡ state → Made survivors (states k) over (Ok x) run
    → (64 ≤ length state) × (run.state.now ≡ state) × Follows survivors (fresh survivors 64 state) [] run
begun k named state over run x begins made =
    let P : Code → Type 0 = λ c. Made survivors (states c) over (Ok x) run in
    let Q : List Survivor → Type 0 = λ s. (64 ≤ length s) × (run.state.now ≡ s) × Follows survivors (fresh survivors 64 s) [] run in
    let m = subst P named made in
    subst Q begins (m.0, m.1, m.2)

module _ (k : Code) (named : k ≡ k7) (state : List Survivor) (ys plan : List ℕ) where
  -- a state of fewer elements is refused
  pub refused_small : (over run : Run Survivor) (e : Refusal) (n m : ℕ) → over.state.now ≡ state → Made survivors (states k) over (Err e) run
      → (Err e ≡ taking state ys plan n m) × (run.state.now ≡ state)
  unfolding taking
  refused_small over run e n m begins made =
      let P : Code → Type 0 = λ c. Made survivors (states c) over (Err e) run in
      let f = subst P named made in
      let no : leb 64 (length state) ≡ false = let few = f.0 in let h = rw begins at few in grind (arith, nat_tests) in (
        ap Err f.1
            ∙ sym (asked_no (once (leb 64 (length state)) Memory) (takes (fresh survivors 64 state) trellis ys plan n m) (length ys, joins plan) 0 (omega arith) no (λ p h. absurd (omega arith))),
        ap (λ (r : Run Survivor). r.state.now) f.2 ∙ begins,
      )

  -- a state of 64 elements is asked what the fresh run is
  pub answered : (n m : ℕ) (o : Result (ℕ × ℕ) Refusal) → 64 ≤ length state
      → o ≡ took (fresh survivors 64 state) (rule survivors trellis_of (record { code = k })) ys plan n m → o ≡ taking state ys plan n m
  unfolding taking
  answered n m o long e =
      let yes : leb 64 (length state) ≡ true = grind (arith, nat_tests) in
      e ∙ ap (λ (c : Code). took (fresh survivors 64 state) (rule survivors trellis_of (record { code = c })) ys plan n m) named
      ∙ sym (asked_yes (once (leb 64 (length state)) Memory) (takes (fresh survivors 64 state) trellis ys plan n m) (length ys, joins plan) (λ p h. yes))

  -- what the run did to its state, it did to the buffer
  pub did : (o : Result (ℕ × ℕ) Refusal) (was is : Run Survivor) (work row state' work' row' : List Survivor)
      → was.size ≡ 64 → was.state.now ≡ state → state' ≡ is.state.now
      → Taken survivors (rule survivors trellis_of (record { code = k })) ys plan was work row o is work' row' → Took ys plan state work row o state' work' row'
  did o was is work row state' work' row' sized begins ends t =
      let P : Code → Type 0 = λ c. Taken survivors (rule survivors trellis_of (record { code = c })) ys plan was work row o is work' row' in
      by_answer o (subst P named t)
    where
      by_answer : (o : Result (ℕ × ℕ) Refusal) → Taken survivors trellis ys plan was work row o is work' row' → Took ys plan state work row o state' work' row'
      by_answer (Ok x) s = record {
        means = λ j h. let m = s.means j (omega (arith, sized)) in rw ends (rw (sized, begins) at m);
        rest = let r = s.rest in rw ends (rw (sized, begins) at r);
        block = let b = s.block in rw sized at b;
      }
      by_answer (Err e) s = (ends ∙ ap (λ (r : Run Survivor). r.state.now) s.0 ∙ begins, s.1, s.2)
