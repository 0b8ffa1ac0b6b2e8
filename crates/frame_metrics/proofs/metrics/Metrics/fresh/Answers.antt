-- Only state 0 has a total.
use Rattle.std.proofs.Common.{◌≡◌, ℕ, ◌<◌, ◌≤◌, ◌≢◌, get_or, set, replicate, Some, None, Option, unwrap_or, sym, refl, ◌∙◌, subst, inl, inr, arith, lit≤, get_or-set_other}
use lib.ListN.{get_or-replicate}
use Rattle.std.proofs.lemmas.List.{get_or_past}
use Rattle.std.proofs.lemmas.Bool.{cases_eq, cases_lt}
use Rattle.frame_metrics.proofs.metrics.Metrics.fresh.Goals as goal

fresh : (j : ℕ) → 0 < j → get_or {A = Option ℕ} (set (replicate 64 None) 0 (Some 0)) j None ≡ None
fresh j h =
    let ne : j ≢ 0 = omega arith in
    get_or-set_other (replicate 64 None) 0 j (Some 0) None ne
    ∙ elim (cases_lt j 64) [ inl low ↦ get_or-replicate 64 j None None low | inr high ↦ get_or_past (replicate 64 None) j None high ]

low : (j : ℕ) → unwrap_or (get_or {A = Option ℕ} (set (replicate 64 None) 0 (Some 0)) j None) 0 ≤ 0
low j =
    elim (cases_eq j 0) [
      | inl zero ↦ subst (λ (k : ℕ). unwrap_or (get_or {A = Option ℕ} (set (replicate 64 None) 0 (Some 0)) k None) 0 ≤ 0) (sym zero) (omega arith)
      | inr other ↦ subst (λ (o : Option ℕ). unwrap_or o 0 ≤ 0) (sym (fresh j (omega arith))) (omega arith)
    ]

pub invariant_of-result : goal.invariant_of-result
invariant_of-result c = record { full = refl; few = lit≤ tt; low = low }

pub returns : goal.returns
returns c = record { start = refl; others = fresh; rows = refl }
