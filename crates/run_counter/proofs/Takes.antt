-- Whatever symbols a counter has taken, a take answers as the plain run does, and adds its symbols where it accepts.
use Rattle.std.proofs.Common.{◌≡◌, ℕ, ◌+◌, List, [], ◌++◌, length, Ok, Err, Result, sym, ap, ◌∙◌, subst, length-append}
use Rattle.algebra_scalars.specs.Counts.{Residue, count_ops}
use Rattle.algebra_scalars.specs.declared.count.Count.{Count}
use Rattle.algebra_scalars.specs.contracts.count.CountAlgebra.TheImpl.{ghosts as counts}
use Rattle.code.specs.declared.description.Code.{Code}
use Rattle.code.specs.Codes.{states}
use Rattle.recursion.specs.Steps.{steps}
use Rattle.recursion.proofs.Steps.{steps_append}
use Rattle.refusal.specs.declared.Refusal.{Refusal}
use Rattle.engine.specs.Plain.{Plain, settled}
use Rattle.engine.specs.Runs.{Holds, TakeServes}
use Rattle.engine.specs.declared.run.Run.{Run}
use Rattle.run_counter.specs.declared.Counter.{Counter}
use Rattle.run_counter.specs.Counter.{start_of, trellis_rule, counting, with_taken, TakeCounts}

-- what the plain run holds after the symbols zs, from what it holds after ys
abbrev counting_on : Code → List ℕ → List ℕ → Plain Residue
counting_on c ys zs = record {
  size = states c;
  count = (counting c ys).count + length zs;
  state = steps count_ops (states c) (trellis_rule c).entry zs (counting c ys).state;
}

-- is what it holds after both
both_taken : (c : Code) (ys zs : List ℕ) (run : Run Count) → Holds counts (counting_on c ys zs) run → Holds counts (counting c (ys ++ zs)) run
both_taken c ys zs run h = record {
  sized = h.sized;
  counted = h.counted ∙ sym (length-append ys zs);
  fits = h.fits;
  means = λ j l. h.means j l ∙ sym (steps_append count_ops (states c) (trellis_rule c).entry ys zs start_of j);
}

held_by_answer : (c : Code) (ys zs : List ℕ) (run : Run Count) (o : Result (ℕ × ℕ) Refusal)
    → Holds counts (settled o (counting_on c ys zs) (counting c ys)) run → Holds counts (counting c (with_taken o ys zs)) run
held_by_answer c ys zs run (Ok x) h = both_taken c ys zs run h
held_by_answer c ys zs run (Err e) h = h

pub take_counts : (zs plan : List ℕ) (n m : ℕ) (was is : Counter) (o : Result (ℕ × ℕ) Refusal)
    → is.trellis ≡ was.trellis → TakeServes counts (trellis_rule was.trellis.code) zs plan n m was.run o is.run → TakeCounts zs plan n m was o is
take_counts zs plan n m was is o same serves c ys h =
    let run-serves : TakeServes counts (trellis_rule c) zs plan n m was.run o is.run = subst (λ d. TakeServes counts (trellis_rule d) zs plan n m was.run o is.run) h.of serves in
    let both = run-serves (counting c ys) [] h.holds in (
      both.0,
      record {
        of = ap (λ t. t.code) same ∙ h.of;
        holds = held_by_answer c ys zs is.run o (subst (λ a. Holds counts (settled a (counting_on c ys zs) (counting c ys)) is.run) (sym both.0) both.1);
      },
    )
