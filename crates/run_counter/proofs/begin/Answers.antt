-- The start state's element is written last, and the others hold what filled them.
use Rattle.std.proofs.Common.{◌≡◌, ℕ, ◌<◌, List, ◌++◌, drop, replicate, set, refl, sym, ap, ◌∙◌, inl, inr, arith, length-append}
use Rattle.std.proofs.lemmas.Bool.{cases_eq, eq-eqb, ne_eqb, cond-true, cond-false}
use Rattle.std.proofs.lemmas.List.{length-replicate, length-take-le, get_or-replicate}
use Rattle.algebra.specs.Sums.{at}
use Rattle.algebra.proofs.Places.{at_get, at_set_same, at_set_other, at_append_left}
use Rattle.algebra_scalars.specs.Counts.{residue_of}
use Rattle.algebra_scalars.specs.declared.count.Count.{Count}
use Rattle.algebra_scalars.specs.contracts.count.CountAlgebra.TheImpl.{ghosts as counts}
use Rattle.run_counter.specs.Counter.{start_of}
use Rattle.run_counter.proofs.begin.Goals as goal

module _ (n s : ℕ) (rest : List Count) (below : s < n) where
  abbrev filled : List Count
  filled = replicate n (record { 0 = 0 })

  started : at (residue_of 0) counts.mean (set (filled ++ rest) 0 (record { 0 = 1 })) s ≡ start_of s
  started =
      let long = length-replicate {A = Count} n (record { 0 = 0 }) in
      elim (cases_eq s 0) [
        | inl e ↦
            ap (at (residue_of 0) counts.mean _) e
            ∙ at_set_same (residue_of 0) counts.mean (filled ++ rest) 0 (record { 0 = 1 }) (omega (arith, length-append filled rest))
            ∙ sym (cond-true _ _ _ (eq-eqb s 0 e))
        | inr ne ↦
            at_set_other (residue_of 0) counts.mean (filled ++ rest) 0 s (record { 0 = 1 }) ne
            ∙ at_append_left (residue_of 0) counts.mean filled rest s (omega arith)
            ∙ sym (at_get (residue_of 0) counts.mean filled s (record { 0 = 0 }) refl)
            ∙ ap counts.mean (get_or-replicate n s _ _ below)
            ∙ sym (cond-false _ _ _ (ne_eqb s 0 ne))
      ]

pub returns-clause-starts : goal.returns-clause-starts
returns-clause-starts c h s l =
    let whole = length-take-le c.args.states c.args.buffer.now h in
    let all = c.fill.ensures.after (λ y e. e) in
    rw (all, whole) (started c.args.states s (drop c.args.states c.args.buffer.now) l)
