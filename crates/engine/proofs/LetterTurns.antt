-- One letter of a plan, in the work area and in the target.
use Rattle.std.proofs.Common.{◌≡◌, ℕ, ◌+◌, ◌-◌, ◌*◌, ◌<◌, ◌≤◌, List, [], ◌∷◌, ◌++◌, length, take, sym, refl, ap, ◌∙◌, subst, mul-le-mul_right, arith}
use Rattle.algebra.specs.Sums.{at}
use Rattle.algebra.specs.declared.Algebra.{Ghosts as Algebra}
use Rattle.algebra.proofs.Places.{at_take}
use Rattle.plan.specs.Plans.{Tree, Progress, size, joined, applied as applied_places, letter}
use Rattle.plan.specs.Plans.{Single}
use Rattle.plan.proofs.Heights.{letter_s, letter_j, letter_a}
use Rattle.engine.specs.Blocks.{Stands}
use Rattle.engine.specs.Letters.{Doing}
use Rattle.engine.specs.Matrices.{cell, Joined, Normal, NormalFrom}
use Rattle.engine.specs.Targets.{sizes, Fed, then_block}
use Rattle.engine.proofs.Places.{row_in}
use Rattle.engine.proofs.Turns.{not_empty, tall, more_rows, stands_still, normal_more, joined_stands}

-- a join has the symbols of its two
sizes_joined : (bs : List Tree) → sizes (joined bs) ≡ sizes bs
sizes_joined [] = refl
sizes_joined (b ∷ []) = refl
sizes_joined (b ∷ (c ∷ rest)) = omega arith

module _ {E : Type 0} (a : Algebra E) (d : ℕ) (m : ℕ → ℕ → ℕ → a.Value) {T K : Type 0} (app : T → List K → ℕ → ℕ → List E → T → List K → Type 0) (was : T) (kept : List K) where
  -- the blocks after letter a
  fed_more : (stack ts : List Tree) (n next applied : ℕ) (is new : T) (held now : List K) (work : List E) → n ≡ d * d → length stack ≡ 1 → next ≡ applied + sizes stack
      → Stands a d m work stack → Fed app a d m was kept ts is held → app is held d (next - applied) (take n work) new now → Fed app a d m was kept (stack ++ ts) new now
  fed_more [] ts n next applied is new held now work en one count s f step = absurd (omega arith)
  fed_more (b ∷ (c ∷ rest)) ts n next applied is new held now work en one count s f step = absurd (omega arith)
  fed_more (b ∷ []) ts n next applied is new held now work en one count s f step =
      let many : next - applied ≡ size b = omega arith in
      then_block b ts is new held now (take n work) f
      (λ i j h l. at_take a.ops.zero a.mean n work (0 + (i * d + j)) (omega (arith, row_in i d h)) ∙ ap (at a.ops.zero a.mean work) (omega arith) ∙ s.0 i j h l)
      (subst (λ k. app is held d k (take n work) new now) many step)

  module _ (w : Progress) (top next applied : ℕ) (is : T) (held : List K) (work : List E) (now : Doing app a d m was kept w top next applied is held work) where
    pushed : (new : List E) → take (top * (d * d)) new ≡ take (top * (d * d)) work → NormalFrom a.normal new (top * (d * d)) (d * d)
        → ((i j : ℕ) → i < d → j < d → cell a.ops.zero a.mean new d (top * (d * d)) i j ≡ m next i j)
        → Doing app a d m was kept (record { stack = Single w.next ∷ w.stack; next = w.next + 1; done = w.done; last = w.last; blocks = w.blocks }) (top + 1) (next + 1) applied is held new
    pushed new before fine cells = record {
      topped = omega (arith, now.topped);
      nexted = ap (λ n. n + 1) now.nexted;
      counted = omega (arith, now.counted);
      stands = (
        rw now.topped at (subst (λ n. (i j : ℕ) → i < d → j < d → cell a.ops.zero a.mean new d (top * (d * d)) i j ≡ m n i j) now.nexted cells),
        stands_still a d m w.stack work new (rw now.topped at before) now.stands,
      );
      normal = subst (Normal a.normal new) (sym (more_rows a d top)) (normal_more a d m (top * (d * d)) (d * d) work new before now.normal fine);
      left = λ e. absurd (not_empty _ _ e);
      fed = now.fed;
    }

    spent : (n : ℕ) (new : T) (after : List K) → n ≡ d * d → top ≡ 1 → app is held d (next - applied) (take n work) new after
        → Doing app a d m was kept (record { stack = []; next = w.next; done = applied_places w.done w.stack; last = w.stack; blocks = w.stack ++ w.blocks }) 0 next next new after work
    spent n new after en one step = record {
      topped = refl;
      nexted = now.nexted;
      counted = omega arith;
      stands = tt;
      normal = λ p h. absurd (omega arith);
      left = λ _. now.stands;
      fed = fed_more w.stack w.blocks n next applied is new held after work en (sym now.topped ∙ one) now.counted now.stands now.fed step;
    }

    combined : (new : List E) → 2 ≤ top → Joined a d ((top - 2) * (d * d)) work new
        → Doing app a d m was kept (record { stack = joined w.stack; next = w.next; done = w.done; last = w.last; blocks = w.blocks }) (top - 1) next applied is held new
    combined new two done =
        let s = joined_stands a d m w.stack top work new now.topped two now.stands done in
        let below : (top - 2) * (d * d) ≤ top * (d * d) = mul-le-mul_right {m = top - 2} {n = top} (d * d) (omega arith) in
        let is : top - 1 ≡ top - 2 + 1 = omega arith in
        let high : (top - 1) * (d * d) ≡ (top - 2) * (d * d) + d * d = ap (λ n. n * (d * d)) is ∙ more_rows a d (top - 2) in
        record {
          topped = s.0;
          nexted = now.nexted;
          counted = now.counted ∙ ap (λ n. applied + n) (sym (sizes_joined w.stack));
          stands = s.1;
          normal = subst (Normal a.normal new) (sym high) (normal_more a d m ((top - 2) * (d * d)) (d * d) work new done.before (λ p h. now.normal p (omega arith)) done.normal);
          left = λ e. absurd (tall (joined w.stack) (omega (arith, s.0)) e);
          fed = now.fed;
        }

    module _ (c : ℕ) where
      pub does_s : (new : List E) → c ≡ 115 → take (top * (d * d)) new ≡ take (top * (d * d)) work → NormalFrom a.normal new (top * (d * d)) (d * d)
          → ((i j : ℕ) → i < d → j < d → cell a.ops.zero a.mean new d (top * (d * d)) i j ≡ m next i j)
          → Doing app a d m was kept (letter w c) (top + 1) (next + 1) applied is held new
      does_s new e before fine cells = subst (λ v. Doing app a d m was kept v (top + 1) (next + 1) applied is held new) (sym (letter_s w c e)) (pushed new before fine cells)

      pub does_j : (new : List E) → c ≡ 106 → 2 ≤ top → Joined a d ((top - 2) * (d * d)) work new → Doing app a d m was kept (letter w c) (top - 1) next applied is held new
      does_j new e two done = subst (λ v. Doing app a d m was kept v (top - 1) next applied is held new) (sym (letter_j w c e)) (combined new two done)

      pub does_a : (n : ℕ) (new : T) (after : List K) → n ≡ d * d → (c ≡ 115 → ⊥) → (c ≡ 106 → ⊥) → top ≡ 1 → app is held d (next - applied) (take n work) new after
          → Doing app a d m was kept (letter w c) 0 next next new after work
      does_a n new after en s j one step = subst (λ v. Doing app a d m was kept v 0 next next new after work) (sym (letter_a w c s j)) (spent n new after en one step)
