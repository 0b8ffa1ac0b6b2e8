-- The branch that shifts and masks find is the one that goes there, and follows from the next state.
use Rattle.std.proofs.Common.{◌≡◌, ℕ, ◌/◌, ◌<◌, IfSome, Some, None, Option, sym, ◌∙◌, subst}
use Rattle.code.specs.declared.description.Code.{Code}
use Rattle.code.specs.Codes.{states, register_of, next, branch}
use Rattle.code.proofs.Next.{branch_leads, branch_ends}
use Rattle.code.proofs.Branches.{half_some, branch_is, no_branch_from, no_branch_to, no_branch}
use Rattle.code.proofs.description.Code.branch.Goals as goal
use Rattle.code.proofs.description.Code.branch.Goals.{else-from-states-via-then-from-states+then-to-states+else-to-states-2, else-from-states-via-then-from-states+else-to-states, else-from-states-via-else-from-states}

pub overflow_sub-states : goal.overflow_sub-states
overflow_sub-states c = half_some c.args.self c.states-states.result c.states-states.ensures

-- what the answer says of the next state follows from its value
follows : (code : Code) (i j : ℕ) (r : Option ℕ) → r ≡ branch code i j
    → ((u : ℕ) → i < states code → u < 2 → next code i u ≡ j → r ≡ Some (register_of code i u)) × IfSome r (λ held. held / 2 ≡ j)
follows code i j r e = (λ u h b n. e ∙ branch_leads code i j u h b n, subst (λ o. IfSome o (λ held. held / 2 ≡ j)) (sym e) (branch_ends code i j))

pub returns-then-to-states-2 : goal.returns-then-to-states-2
returns-then-to-states-2 c =
    let code = c.args.self in
    let all = c.states-states.ensures in
    let i = c.args.from in
    let j = c.args.to in
    let some = branch_is code _ all i j _ c.memory.ensures c.if-from-states.true c.if-to-states.true c.if-to-states-2.true in
    let rest = follows code i j _ some in
    record { value = some; leads = rest.0; ends = rest.1 }

pub returns-else-from-states : goal.returns-else-from-states
returns-else-from-states c =
    let code = c.args.self in
    let all = c.states-states.ensures in
    let i = c.args.from in
    let j = c.args.to in
    let none : None ≡ branch code i j =
    elim c.else-from-states.branch [
      | else-from-states-via-then-from-states+then-to-states+else-to-states-2 w ↦ no_branch code _ all i j w.if-from-states.true w.if-to-states.true w.if-to-states-2.false
      | else-from-states-via-then-from-states+else-to-states w ↦ no_branch_to code _ all i j w.if-from-states.true w.if-to-states.false
      | else-from-states-via-else-from-states w ↦ no_branch_from code _ all i j w.if-from-states.false
    ] in
    let rest = follows code i j _ none in
    record { value = none; leads = rest.0; ends = rest.1 }
