-- The row of a branch is the entry, and is in range.
use Rattle.std.proofs.Common.{◌≡◌, ◌%◌, true, sym, ap, ◌∙◌}
use Rattle.std.proofs.lemmas.Bool.{and_from}
use Rattle.algebra_survivor.specs.Survivors.{path, path_of, ranged}
use Rattle.code.specs.Codes.{register_of, goes, input}
use Rattle.code.specs.Symbols.{accepted, branch_cost}
use Rattle.code.proofs.Next.{branch_some}
use Rattle.recursion_trellis.specs.SurvivorsLemmas.{branch_in_range, entry_branch}
use Rattle.recursion_trellis.proofs.survivor.SurvivorTrellisRecursion.entry.Goals as goal

pub returns-in_Some-register : goal.returns-in_Some-register
returns-in_Some-register c =
    let code = c.args.self.now.code in
    let y = c.args.symbol in
    let i = c.args.i in
    let j = c.args.j in
    let taken : accepted y ≡ true = sym {b = accepted y} c.if-accepts.ensures in
    let found = branch_some code i j c.in_Some-register.register c.in_Some-register.ensures.value in
    let there = and_from (goes code i j) (accepted y) found.0 taken in
    let paid = c.cost.ensures ∙ ap (branch_cost code y) found.1 in
    record {
      value = ap (λ n. path 1 n (i % 2)) paid ∙ sym (ap path_of (entry_branch code y i j there));
      ranged = ap (λ n. ranged 1 n (i % 2)) paid ∙ branch_in_range code y (register_of code i (input code j)) i taken ∙ sym there;
    }
