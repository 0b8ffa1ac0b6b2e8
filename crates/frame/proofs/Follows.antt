-- A take leads a frame and its store where it leads the plain frame.
use Rattle.std.proofs.Common.{◌≡◌, ℕ, suc, ◌+◌, ◌*◌, ◌<◌, ◌≤◌, true, ◌&&◌, leb, List, [], ◌∷◌, ◌++◌, length, get_or, Ok, Err, Result, sym, ap, ◌∙◌, subst, arith, length-append}
use Rattle.std.proofs.lemmas.List.{nil_from_length}
use Rattle.std.proofs.lemmas.Bool.Decides.{nat_tests}
use Rattle.std.specs.List.{AllByRecursion}
use Rattle.refusal.specs.declared.Refusal.{Refusal}
use Rattle.refusal.specs.Questions.{asked}
use Rattle.algebra_survivor.specs.declared.Survivor.{Survivor}
use Rattle.algebra_survivor.specs.contracts.SurvivorAlgebra.TheImpl.{ghosts as survivors}
use Rattle.code.specs.declared.description.Code.{Code}
use Rattle.code.specs.Codes.{states}
use Rattle.code.specs.Symbols.{accepted}
use Rattle.plan.specs.Plans.{after}
use Rattle.plan.specs.Asks.{asks, blocks, joins, shape}
use Rattle.plan.proofs.Blocks.{Small, all_small, blocks_few, blocks_long}
use Rattle.plan.proofs.Passed.{all_known, all_found, all_made, all_singles, none_left}
use Rattle.engine.specs.Deliveries.{Done, delivery}
use Rattle.engine.proofs.Answered.{same_answer, passed_plan, passed_symbols, passed_limit}
use Rattle.frame_paths.proofs.Holds.{Holds}
use Rattle.frame_metrics.specs.Metrics.{Applies}
use Rattle.frame_metrics.specs.Totals.{has_room}
use Rattle.frame_rows.specs.Traces.{row_words, rows_in, state_total}
use Rattle.frame.specs.declared.Frame.{Frame}
use Rattle.frame.specs.Plain.{Plain, limit, survivor_rule, took, settled, taken}
use Rattle.frame.specs.Frames.{Grown, Took}
use Rattle.frame.proofs.Feeds.{plan_holds}

-- frame and store hold what the plain frame holds
pub record Follows (c : Code) (p : Plain) (f : Frame) (store : List ℕ) : Type 0 where
  pub of : f.code ≡ c
  pub counted : f.steps ≡ length p.symbols
  pub rowed : f.metrics.rows ≡ p.rows
  pub few : p.rows ≤ length p.symbols
  pub within : length p.symbols ≤ limit
  pub holds : Holds c p.symbols (state_total f.metrics.totals) (rows_in c store f.metrics.rows)

-- what holds of each place holds of all elements
all_of : (P : ℕ → Type 0) (xs : List ℕ) → ((p : ℕ) → p < length xs → P (get_or xs p 0)) → AllByRecursion P xs
all_of P [] each = tt
all_of P (x ∷ xs) each = (each 0 (omega arith), all_of P xs (λ p h. each (suc p) (omega arith)))

-- no plan that is accepted has too many blocks
room_same : (rows many symbols room w : ℕ) → rows ≤ symbols → symbols + many ≤ 4096 → (b : ℕ) → b ≤ many → (leb (rows + b) 4096 && leb ((rows + b) * w) room) ≡ leb ((rows + b) * w) room
room_same rows many symbols room w low within b few = let t : leb (rows + b) 4096 ≡ true = let z : rows + b ≤ 4096 = omega arith in grind (arith, nat_tests) in rw t

module _ (c : Code) (p : Plain) (ys plan : List ℕ) (n k s : ℕ) (few : p.rows ≤ length p.symbols) where
  same_room : asked (asks plan (length ys)) (shape plan) ≡ Ok (shape plan) → length p.symbols + length ys ≤ limit
      → has_room p.rows (states c) s (blocks plan) ≡ leb ((p.rows + blocks plan) * row_words c) s
  same_room passed low =
      let small : blocks plan ≤ length ys = omega (arith, blocks_few plan (all_known plan (length ys) (shape plan) (shape plan) passed) (all_found plan (length ys) (shape plan) (shape plan) passed), all_singles plan (length ys) (shape plan) (shape plan) passed) in
      room_same p.rows (length ys) (length p.symbols) s (row_words c) few low (blocks plan) small

  asked_same : asked {A = ℕ × ℕ} (delivery (survivor_rule c) ys plan limit (length p.symbols) (has_room p.rows (states c) s (blocks plan)) n k) (length ys, joins plan) ≡ took c p ys plan n k s
  asked_same = same_answer (survivor_rule c) ys plan limit (length p.symbols) _ _ n k same_room

module _ (c : Code) (p : Plain) (ys plan : List ℕ) (was is : Frame) (store store' : List ℕ) (work row work' row' : List Survivor) (old : Follows c p was store) where
  abbrev plain : Result (ℕ × ℕ) Refusal
  plain = took c p ys plan (length work) (length row) (length store)

  -- the frame is asked what the plain frame is asked
  answers : (o : Result (ℕ × ℕ) Refusal) → Took ys plan was store work row o is store' work' row' → o ≡ plain
  answers o t =
      t.answer
      ∙ ap (λ z. asked {A = ℕ × ℕ} (delivery (survivor_rule z) ys plan limit was.steps (has_room was.metrics.rows (states z) (length store) (blocks plan)) (length work) (length row)) (length ys, joins plan)) old.of
      ∙ ap (λ z. asked {A = ℕ × ℕ} (delivery (survivor_rule c) ys plan limit z (has_room was.metrics.rows (states c) (length store) (blocks plan)) (length work) (length row)) (length ys, joins plan)) old.counted
      ∙ ap (λ z. asked {A = ℕ × ℕ} (delivery (survivor_rule c) ys plan limit (length p.symbols) (has_room z (states c) (length store) (blocks plan)) (length work) (length row)) (length ys, joins plan)) old.rowed
      ∙ asked_same c p ys plan (length work) (length row) (length store) old.few

  grows : (x : ℕ × ℕ) → plain ≡ Ok x → Grown ys plan was is store store' work' → Follows c (record { symbols = p.symbols ++ ys; rows = p.rows + blocks plan }) is store'
  grows x e g =
      let b = leb ((p.rows + blocks plan) * row_words c) (length store) in
      let passed = passed_plan (survivor_rule c) ys plan limit (length p.symbols) b (length work) (length row) x e in
      let known = all_known plan (length ys) (shape plan) (shape plan) passed in
      let found = all_found plan (length ys) (shape plan) (shape plan) passed in
      let empty = none_left plan (length ys) (shape plan) (shape plan) passed in
      let all = all_singles plan (length ys) (shape plan) (shape plan) passed in
      let low = passed_limit (survivor_rule c) ys plan limit (length p.symbols) b (length work) (length row) x e in
      let good = all_of (λ y. accepted y ≡ true) ys (passed_symbols (survivor_rule c) ys plan limit (length p.symbols) b (length work) (length row) x e) in
      let small : Small (after plan (length plan)).blocks =
      subst (λ st. Small (st ++ (after plan (length plan)).blocks)) (nil_from_length (after plan (length plan)).stack empty) (all_small plan (all_made plan (length ys) (shape plan) (shape plan) passed) (length plan) (omega arith)) in
      let done = subst (λ z. Done Applies survivors (survivor_rule z) ys plan was.metrics is.metrics store store' work') old.of g.done in
      let held = plan_holds c p.symbols ys was.metrics store old.holds plan is.metrics store' empty all small good done.fed in
      let long = length-append p.symbols ys in
      record {
        of = g.same ∙ old.of;
        counted = g.counted ∙ omega (arith, old.counted, long);
        rowed = held.1 ∙ omega (arith, old.rowed, blocks_long plan known found (length plan) (omega arith));
        few = omega (arith, old.few, long, blocks_few plan known found, all);
        within = omega (arith, long, low);
        holds = held.0;
      }

  -- a take more
  follows_by : (o : Result (ℕ × ℕ) Refusal) → Took ys plan was store work row o is store' work' row' → Follows c (settled o (record { symbols = p.symbols ++ ys; rows = p.rows + blocks plan }) p) is store'
  follows_by (Ok x) t = grows x (sym (answers (Ok x) t)) t.left
  follows_by (Err e) t = subst (λ f. Follows c p f store') (sym t.left.0) (subst (Follows c p was) (sym t.left.1) old)

  pub take_follows : (o : Result (ℕ × ℕ) Refusal) → Took ys plan was store work row o is store' work' row'
      → (o ≡ plain) × Follows c (taken c p ys plan (length work) (length row) (length store)) is store'
  take_follows o t =
      let says = answers o t in
      (says, subst (λ z. Follows c (settled z (record { symbols = p.symbols ++ ys; rows = p.rows + blocks plan }) p) is store') says (follows_by o t))
