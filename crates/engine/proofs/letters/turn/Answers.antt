-- Each letter does to target and work area what it does to the stack.
use Rattle.std.proofs.Common.{◌≡◌, ℕ, ◌+◌, ◌-◌, ◌*◌, ◌<◌, ◌≤◌, true, length, get_or, take, sym, ap, ◌∙◌, subst, add-zero, arith, length-take-le, rules}
use Rattle.plan.specs.Letters.{code}
use Rattle.recursion.specs.Steps.{rule}
use Rattle.engine.specs.Blocks.{chosen}
use Rattle.engine.specs.Letters.{applies}
use Rattle.engine.specs.Matrices.{Blocked, Joined, NormalFrom, cell}
use Rattle.engine.proofs.LetterTurns.{does_s, does_j, does_a}
use Rattle.engine.proofs.Turns.{tops_in, tops_normal, only_normal}
use Rattle.engine.proofs.letters.turn.Goals as goal

pub join-requires : goal.join-requires
join-requires g c =
    let ready = c.requires.ready.j (ap code c.in-Join.is) in
    let d = c.args.size.rows in
    let top = c.args.stack.top in
    let is = sym c.elements-in-Join.ensures in
    record {
      work_in_bounds = subst (λ n. (top - 2) * n + d * d + d * d ≤ length c.args.work.now) is (tops_in g.E.Algebra d top _ ready.0 ready.1);
      row_in_bounds = search rules;
      normal_from = subst (λ n. NormalFrom g.E.Algebra.normal c.args.work.now ((top - 2) * n) (d * d + d * d)) is (tops_normal g.E.Algebra d top c.args.work.now ready.0 c.requires.normal);
    }

pub returns-in-Single : goal.returns-in-Single
returns-in-Single g c =
    let none : applies (code c.args.letter) ≡ 0 = ap (λ l. applies (code l)) c.in-Single.is in
    let a = g.E.Algebra in
    let d = c.args.size.rows in
    let top = c.args.stack.top in
    let new = c.load.new.work in
    let is = c.elements.ensures in
    record {
      room = λ n h. subst (λ k. g.T.Target.roomy c.args.target.now c.args.size.rows (length c.args.buffer.now) k ≡ true) (ap (λ z. n + z) none ∙ add-zero n) h;
      does = λ was start w n h now.
          does_s g.E.Algebra c.args.size.rows (chosen (rule g.E.Algebra g.R.Recursion c.args.r.now).entry c.args.symbols.now) g.T.Target.Applied was start w _ _ _ _ _ _ now (code c.args.letter)
          new (ap code c.in-Single.is)
          (subst (λ n. take (top * n) new ≡ take (top * n) c.args.work.now) is c.load.ensures.before)
          (subst (λ n. NormalFrom a.normal new (top * n) (d * d)) is c.load.ensures.normal)
          (subst (λ n. (i j : ℕ) → i < d → j < d → cell a.ops.zero a.mean new d (top * n) i j ≡ a.mean (g.R.Recursion.cell c.args.r.now (get_or c.args.symbols.now c.args.stack.next 0) i j)) is c.load.ensures.cells);
    }

pub returns-in-Join : goal.returns-in-Join
returns-in-Join g c =
    let none : applies (code c.args.letter) ≡ 0 = ap (λ l. applies (code l)) c.in-Join.is in
    record {
      room = λ n h. subst (λ k. g.T.Target.roomy c.args.target.now c.args.size.rows (length c.args.buffer.now) k ≡ true) (ap (λ z. n + z) none ∙ add-zero n) h;
      does = λ was start w n h now.
          does_j g.E.Algebra c.args.size.rows (chosen (rule g.E.Algebra g.R.Recursion c.args.r.now).entry c.args.symbols.now) g.T.Target.Applied was start w _ _ _ _ _ _ now (code c.args.letter)
          c.join.new.work (ap code c.in-Join.is) (c.requires.ready.j (ap code c.in-Join.is)).0
          (subst (λ n. Joined g.E.Algebra c.args.size.rows ((c.args.stack.top - 2) * n) c.args.work.now c.join.new.work) c.elements-in-Join.ensures c.join.ensures);
    }

pub returns-in-Apply : goal.returns-in-Apply
returns-in-Apply g c =
    let d = c.args.size.rows in
    let n = c.elements-in-Apply.result in
    let all : n ≡ d * d = c.elements-in-Apply.ensures in
    let is : code c.args.letter ≡ 97 = ap code c.in-Apply.is in
    let ns : code c.args.letter ≡ 115 → ⊥ = λ e. omega (arith, is, e) in
    let nj : code c.args.letter ≡ 106 → ⊥ = λ e. omega (arith, is, e) in
    let ready = c.requires.ready.a ns nj in
    let work = c.args.work.now in
    let one : applies (code c.args.letter) ≡ 1 = ap (λ l. applies (code l)) c.in-Apply.is in
    let room : (k : ℕ) → g.T.Target.roomy c.args.target.now d (length c.args.buffer.now) (k + applies (code c.args.letter)) ≡ true
    → g.T.Target.roomy c.args.target.now d (length c.args.buffer.now) (k + 1) ≡ true =
    λ k h. subst (λ z. g.T.Target.roomy c.args.target.now d (length c.args.buffer.now) (k + z) ≡ true) one h in
    let block : Blocked g.E.Algebra d (c.args.stack.next - c.args.stack.applied) (take n work) (length c.args.row.now) = record {
      small = c.args.size.small;
      few = c.requires.applied_bound c.in-Apply.is;
      square = length-take-le n work (omega (arith, all, ready.1)) ∙ all;
      helped = c.requires.row_in_bounds;
      normal = only_normal g.E.Algebra d c.args.stack.top n work all ready.0 c.requires.normal;
    } in
    record {
      room = λ k h. (c.apply.ensures.applied block k (room k h)).1;
      does = λ was start w k h now.
          does_a g.E.Algebra d (chosen (rule g.E.Algebra g.R.Recursion c.args.r.now).entry c.args.symbols.now) g.T.Target.Applied was start w _ _ _ _ _ _ now (code c.args.letter)
          n c.apply.new.self c.apply.new.buffer all ns nj ready.0 (c.apply.ensures.applied block k (room k h)).0;
    }
