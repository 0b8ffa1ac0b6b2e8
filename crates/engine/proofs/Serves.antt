-- Whatever calls led to a run, its answers and what it holds stay those of the plain run.
use Rattle.std.proofs.Common.{◌≡◌, ℕ, ◌+◌, ◌*◌, ◌<◌, ◌≤◌, Bool, true, false, ◌&&◌, eqb, ltb, leb, List, [], ◌∷◌, ◌++◌, length, drop, Ok, Err, Result, sym, refl, ap, ◌∙◌, subst, arith}
use Rattle.std.proofs.Math.Bool.{and_assoc}
use Rattle.std.proofs.lemmas.Bool.Decides.{nat_tests}
use Rattle.algebra.specs.Laws.{Ops}
use Rattle.algebra.specs.Sums.{at}
use Rattle.algebra.specs.declared.Algebra.{Ghosts as Algebra}
use Rattle.plan.specs.Asks.{asks, joins, most}
use Rattle.plan.specs.Plans.{after as letters_after}
use Rattle.recursion.specs.Steps.{Rule, steps}
use Rattle.recursion.proofs.Steps.{steps_cong}
use Rattle.refusal.specs.declared.Refusal.{Refusal}
use Rattle.refusal.specs.declared.Refusal.TheVariants.{Memory, Place}
use Rattle.refusal.specs.Questions.{once, asked}
use Rattle.refusal.proofs.Questions.{asked_yes, asked_no}
use Rattle.engine.specs.Blocks.{Stands, chosen}
use Rattle.engine.specs.Deliveries.{delivery}
use Rattle.engine.specs.Plain.{Plain, Call, limit, accepted, within, takes, took, found, settled, next, after}
use Rattle.engine.specs.Plain.{Take, Read}
use Rattle.engine.specs.Runs.{Whole, fresh, held, Holds, Stepped, Taken, TakeServes, ReadServes, Heard, asking, looked}
use Rattle.engine.specs.Runs.{Took, Looked, begun, then_take, then_read}
use Rattle.engine.specs.declared.run.Run.{Run}

after_push : {V : Type 0} (o : Ops V) (p : Plain V) (cs : List (Call V)) (c : Call V) → after o p (cs ++ (c ∷ [])) ≡ next o (after o p cs) c
after_push o p [] c = refl
after_push o p (d ∷ cs) c = after_push o (next o p d) cs c

module _ {E : Type 0} (a : Algebra E) where
  -- a run that holds what the plain run holds is asked the same
  room_same : (d made size held n : ℕ) (b : Bool) → made ≡ size → made ≤ held → (eqb d made && (leb d held && b)) ≡ (eqb d size && b)
  room_same d made size held n b e fits = grind (arith, nat_tests)

  asking_takes : (p : Plain a.Value) (run : Run E) (r : Rule a.Value) (ys plan : List ℕ) (n k : ℕ) → Holds a p run → asking a run r ys plan n k ≡ takes p r ys plan n k
  asking_takes p run r ys plan n k h =
      let room = room_same r.size run.size p.size (length run.state.now) n (leb (most plan * (r.size * r.size)) n && leb r.size k) h.sized h.fits in
      ap (λ t. asks plan (length ys) ++ (accepted r ys ∷ (within t ys ∷ (once (eqb r.size run.size && (leb r.size (length run.state.now) && (leb (most plan * (r.size * r.size)) n && leb r.size k))) Memory ∷ [])))) h.counted
      ∙ ap (λ b. asks plan (length ys) ++ (accepted r ys ∷ (within p.count ys ∷ (once b Memory ∷ [])))) room

  goes_on : (p : Plain a.Value) (r : Rule a.Value) (ys plan : List ℕ) (was is : Run E) (work : List E) → Stepped a r ys plan was is work → Holds a p was
      → Holds a (record { size = p.size; count = p.count + length ys; state = steps a.ops p.size r.entry ys p.state }) is
  goes_on p r ys plan was is work s h = record {
    sized = s.same ∙ h.sized;
    counted = s.counted ∙ ap (λ n. n + length ys) h.counted;
    fits = omega (arith, s.same, s.long, h.fits);
    means = λ j l.
        let low : j < was.size = omega (arith, s.same) in
        s.means j low ∙ steps_cong a.ops was.size r.entry ys _ _ (λ i b. h.means i b) j low ∙ ap (λ n. steps a.ops n r.entry ys p.state j) h.sized;
  }

  -- what the letters of the plan did is what an accepted take owes
  pub stepped_take : (r : Rule a.Value) (ys plan : List ℕ) (d : ℕ) (was is : Run E) (work : List E) → d ≡ was.size → is.size ≡ was.size
      → length is.state.now ≡ length was.state.now → is.taken ≡ was.taken + length ys → drop d is.state.now ≡ drop d was.state.now
      → ((j : ℕ) → j < d → at a.ops.zero a.mean is.state.now j ≡ steps a.ops d r.entry ys (at a.ops.zero a.mean was.state.now) j)
      → Stands a d (chosen r.entry ys) work (letters_after plan (length plan)).last → Stepped a r ys plan was is work
  stepped_take r ys plan d was is work e same long counted rest means block = record {
    same = same;
    long = long;
    counted = counted;
    rest = subst (λ n. drop n is.state.now ≡ drop n was.state.now) e rest;
    means = λ j h. means j (omega arith) ∙ ap (λ n. steps a.ops n r.entry ys (at a.ops.zero a.mean was.state.now) j) e;
    block = subst (λ n. Stands a n (chosen r.entry ys) work (letters_after plan (length plan)).last) e block;
  }

  holds_as : (p q : Plain a.Value) (run : Run E) → q ≡ p → Holds a p run → Holds a q run
  holds_as p q run e h = subst (λ x. Holds a x run) (sym e) h

  pub take_serves : (r : Rule a.Value) (ys plan : List ℕ) (n k : ℕ) (was is : Run E) (work row work' row' : List E) (o : Result (ℕ × ℕ) Refusal)
      → o ≡ asked (asking a was r ys plan n k) (length ys, joins plan) → Taken a r ys plan was work row o is work' row' → TakeServes a r ys plan n k was o is
  take_serves r ys plan n k was is work row work' row' (Ok x) e t start calls h =
      let p = after a.ops start calls in
      let says : Ok x ≡ took p r ys plan n k = e ∙ ap (λ qs. asked qs (length ys, joins plan)) (asking_takes p was r ys plan n k h) in
      let q : Plain a.Value = record { size = p.size; count = p.count + length ys; state = steps a.ops p.size r.entry ys p.state } in
      (says, holds_as q _ is (after_push a.ops start calls (Take r ys plan n k) ∙ ap (λ z. settled z q p) (sym says)) (goes_on p r ys plan was is work' t h))
  take_serves r ys plan n k was is work row work' row' (Err x) e t start calls h =
      let p = after a.ops start calls in
      let says : Err x ≡ took p r ys plan n k = e ∙ ap (λ qs. asked qs (length ys, joins plan)) (asking_takes p was r ys plan n k h) in
      let q : Plain a.Value = record { size = p.size; count = p.count + length ys; state = steps a.ops p.size r.entry ys p.state } in
      (says, holds_as p _ is (after_push a.ops start calls (Take r ys plan n k) ∙ ap (λ z. settled z q p) (sym says)) (subst (Holds a p) (sym t.0) h))

  -- what a read of the run answers
  pub looked_past : (run : Run E) (i : ℕ) → (ltb i run.size && ltb i (length run.state.now)) ≡ false → looked a run i ≡ Err Place
  looked_past run i t = asked_no (once (ltb i run.size && ltb i (length run.state.now)) Place) [] _ 0 (omega arith) t (λ k h. absurd (omega arith))

  pub looked_at : (run : Run E) (i : ℕ) → i < run.size → i < length run.state.now → looked a run i ≡ Ok (at a.ops.zero a.mean run.state.now i)
  looked_at run i h l =
      let t : (ltb i run.size && ltb i (length run.state.now)) ≡ true = grind (arith, nat_tests) in
      asked_yes (once (ltb i run.size && ltb i (length run.state.now)) Place) [] _ (λ p q. t)

  place_same : (i made size held : ℕ) → made ≡ size → made ≤ held → (ltb i made && ltb i held) ≡ ltb i size
  place_same i made size held e fits = grind (arith, nat_tests)

  looked_found : (p : Plain a.Value) (run : Run E) (i : ℕ) (b : Bool) → ltb i p.size ≡ b → Holds a p run → looked a run i ≡ found p i
  looked_found p run i true t h =
      let low : i < run.size = let e = h.sized in grind (arith, nat_tests) in
      looked_at run i low (omega (arith, h.fits)) ∙ ap Ok (h.means i low) ∙ sym (asked_yes (once (ltb i p.size) Place) [] (p.state i) (λ q l. t))
  looked_found p run i false t h =
      looked_past run i (place_same i run.size p.size (length run.state.now) h.sized h.fits ∙ t)
      ∙ sym (asked_no (once (ltb i p.size) Place) [] (p.state i) 0 (omega arith) t (λ k l. absurd (omega arith)))

  pub read_serves : (run : Run E) (i : ℕ) (o : Result E Refusal) → Heard a o (looked a run i) → ReadServes a i run o
  read_serves run i o e start calls h =
      let p = after a.ops start calls in
      (subst (Heard a o) (looked_found p run i (ltb i p.size) refl h) e, holds_as p _ run (after_push a.ops start calls (Read i)) h)

  -- the questions of a take are those of a delivery to the run's state
  pub delivery_asking : (run : Run E) (r : Rule a.Value) (ys plan : List ℕ) (n k : ℕ)
      → delivery r ys plan limit run.taken (eqb r.size run.size && leb r.size (length run.state.now)) n k ≡ asking a run r ys plan n k
  delivery_asking run r ys plan n k =
      ap (λ b. asks plan (length ys) ++ (accepted r ys ∷ (within run.taken ys ∷ (once b Memory ∷ []))))
      (and_assoc (eqb r.size run.size) (leb r.size (length run.state.now)) (leb (most plan * (r.size * r.size)) n && leb r.size k))

  -- all that a refused take owes
  pub refuses : (r : Rule a.Value) (ys plan : List ℕ) (was is : Run E) (work row work' row' : List E) (o : Result (ℕ × ℕ) Refusal) (e : Refusal)
      → o ≡ Err e → is ≡ was → work' ≡ work → row' ≡ row → Taken a r ys plan was work row o is work' row'
  refuses r ys plan was is work row work' row' o e refused same same-work same-row = subst (λ z. Taken a r ys plan was work row z is work' row') (sym refused) (same, same-work, same-row)

  -- a history leads the run where it leads the plain run
  pub whole : (start : Plain a.Value) (first : Run E) → Holds a start first → Whole a start first
  whole start first h [] last begun = (tt, h)
  whole start first h (Took r ys plan n k o ∷ es) last (then_take r' ys' plan' work row work' row' o' es' was is past answers left) =
      let before = whole start first h es was past in
      let step = take_serves r ys plan (length work) (length row) was last work row work' row' o answers left (held a start es) [] before.1 in
      ((step.0, before.0), step.1)
  whole start first h (Looked i o ∷ es) last (then_read i' o' es' was past answers) =
      let before = whole start first h es was past in
      let step = read_serves was i o answers (held a start es) [] before.1 in
      ((step.0, before.0), step.1)

  -- a run that was just made is fresh
  pub made_holds : (d : ℕ) (run : Run E) → run.size ≡ d → run.taken ≡ 0 → d ≤ length run.state.now → Holds a (fresh a d run.state.now) run
  made_holds d run size none fits = record { sized = size; counted = none; fits = omega (arith, size); means = λ j h. refl }
