-- Letter a keeps what the totals and the rows of a frame say: they take in the symbols of the block.
use Rattle.std.proofs.Common.{◌≡◌, ℕ, suc, ◌+◌, ◌*◌, ◌^◌, ◌<◌, ◌≤◌, true, List, ◌∷◌, ◌++◌, length, Some, None, Option, sym, refl, ap, ◌∙◌, subst, ap₂, inl, inr, mul-le-mul_left, mul-suc, arith, length-append}
use Rattle.std.specs.List.{AllByRecursion}
use Rattle.std.proofs.lemmas.Bool.{cases_lt, and_from, le-leb}
use Rattle.algebra_survivor.specs.Survivors.{Path, none, some, path_ops}
use Rattle.code.specs.declared.description.Code.{Code}
use Rattle.code.specs.Codes.{states}
use Rattle.code.specs.Symbols.{accepted}
use Rattle.code.proofs.Sizes.{states_positive}
use Rattle.paths.specs.Paths.{end}
use Rattle.plan.specs.Plans.{Tree, size}
use Rattle.engine.specs.Blocks.{chosen, product}
use Rattle.frame_paths.specs.Paths.{costs, Leads, Reaches}
use Rattle.frame_paths.specs.Survivors.{word, Lower, Survives, block_symbols, trellis}
use Rattle.frame_paths.specs.Rows.{Row, origin, started, decoded}
use Rattle.frame_paths.specs.Choices.{offers, Offer, Gets}
use Rattle.frame_paths.proofs.Walks.{Cut, cut, end_below, word_below, end_append, costs_append, word_append, leads_append}
use Rattle.frame_paths.proofs.Blocks.{block_length, size_some, survivors_best_lem}
use Rattle.frame_paths.proofs.Trace.{trace_leads}
use Rattle.frame_paths.proofs.Holds.{Served, Holds}

-- a lower high part decides
high_less : (n a w b z : ℕ) → a < 2 ^ n → w < z → a + 2 ^ n * w ≤ b + 2 ^ n * z
high_less n a w b z p q = omega (arith, mul-le-mul_left {m = suc w} {n = z} (2 ^ n) q, mul-suc (2 ^ n) w)

-- what a survivor that makes an offer says of the paths
record Offered (c : Code) (i j : ℕ) (ys : List ℕ) (a w : ℕ) : Type 0 where
  path : List ℕ
  leads : Leads c i ys j path
  cost : costs c i ys path ≡ a
  dropped : word c i path ≡ w

offered_by : (c : Code) (i j : ℕ) (ys : List ℕ) (v : Path) (a w : ℕ) → offers v ≡ Some (a, w) → Survives c i j ys v → Offered c i j ys a w
offered_by c i j ys none a w e s = absurd (let z : ◌≡◌ {A = ℕ} 0 1 = cc in omega arith)
offered_by c i j ys (some n b x p) a w e s =
    let same : ◌≡◌ {A = ℕ × ℕ} (b, x) (a, w) = cc in
    record { path = s.1.0; leads = s.1.1; cost = s.1.2 ∙ ap (λ p. p.0) same; dropped = s.1.3 ∙ ap (λ p. p.1) same }

module _ (c : Code) (ys zs : List ℕ) (totals : ℕ → Option ℕ) (rows : List Row) (m : ℕ → ℕ → Path)
    (old : (i : ℕ) → i < states c → Served c ys rows i (totals i))
    (block : (i j : ℕ) → i < states c → j < states c → Survives c i j zs (m i j)) where
  -- a path over ys and zs goes through a state that makes an offer no worse
  record Through (j : ℕ) (vs : List ℕ) : Type 0 where
    parts : Cut (length ys) (length zs) vs
    at : ℕ
    at_below : at < states c
    t : ℕ
    a : ℕ
    w : ℕ
    has_total : totals at ≡ Some t
    has_entry : offers (m at j) ≡ Some (a, w)
    back_leads : Leads c at zs j parts.back
    front_least : Lower t (word c 0 (decoded c rows at)) (costs c 0 ys parts.front) (word c 0 parts.front)
    back_least : Lower a w (costs c at zs parts.back) (word c at parts.back)
    cost_is : costs c 0 (ys ++ zs) vs ≡ costs c 0 ys parts.front + costs c at zs parts.back
    word_is : word c 0 vs ≡ word c 0 parts.front + 2 ^ length ys * word c at parts.back

  through : (j : ℕ) → j < states c → (vs : List ℕ) → Reaches c (ys ++ zs) j vs → Through j vs
  through j q vs l = go (totals i) refl (old i low) (m i j) refl (block i j low q)
    where
      x : Cut (length ys) (length zs) vs
      x = cut (length ys) (length zs) vs (l.as_long ∙ length-append ys zs) l.bits

      i : ℕ
      i = end c 0 x.front

      low : i < states c
      low = end_below c 0 x.front (states_positive c) x.front_bits

      front_leads : Reaches c ys i x.front
      front_leads = record { bits = x.front_bits; as_long = x.front_long; there = refl }

      back_leads : Leads c i zs j x.back
      back_leads = record { bits = x.back_bits; as_long = x.back_long; there = sym (end_append c 0 x.front x.back) ∙ ap (end c 0) (sym x.whole) ∙ l.there }

      go : (o : Option ℕ) → totals i ≡ o → Served c ys rows i o → (v : Path) → m i j ≡ v → Survives c i j zs v → Through j vs
      go None e s v f k = absurd (s x.front front_leads)
      go (Some t) e s none f k = absurd (k x.back back_leads)
      go (Some t) e s (some n a w p) f k = record {
        parts = x;
        at = i;
        at_below = low;
        t = t;
        a = a;
        w = w;
        has_total = e;
        has_entry = ap offers f;
        back_leads = back_leads;
        front_least = s.3 x.front front_leads;
        back_least = k.2 x.back back_leads;
        cost_is = ap (costs c 0 (ys ++ zs)) x.whole ∙ costs_append c 0 ys zs x.front x.back x.front_long;
        word_is = ap (word c 0) x.whole ∙ word_append c 0 x.front x.back ∙ ap (λ n. word c 0 x.front + 2 ^ n * word c i x.back) x.front_long;
      }

  offered : (j : ℕ) (vs : List ℕ) → (k : Through j vs) → Offer (states c) totals m j (k.t + k.a) k.w
  offered j vs k = record { from = k.at; total = k.t; cost = k.a; below = k.at_below; has_total = k.has_total; has_entry = k.has_entry; adds = refl }

  -- among equal costs the chosen word decides, and where it is the same the path comes through the same state
  ties : (i j x : ℕ) (vs : List ℕ) (r : Through j vs) → word c 0 (decoded c rows i) < 2 ^ length ys
      → r.t ≡ costs c 0 ys r.parts.front → r.a ≡ costs c r.at zs r.parts.back → x ≤ r.w → origin c (length zs) j x ≡ i
      → word c 0 (decoded c rows i) + 2 ^ length ys * x ≤ word c 0 r.parts.front + 2 ^ length ys * word c r.at r.parts.back
  ties i j x vs r small e f low from =
      let high : r.w ≤ word c r.at r.parts.back = r.back_least.1 f in
      elim (cases_lt x (word c r.at r.parts.back)) [
        | inl lt ↦ high_less (length ys) _ _ _ _ small lt
        | inr ge ↦
            let same : word c r.at r.parts.back ≡ x = omega arith in
            let here : r.at ≡ i = sym (trace_leads c r.at j x zs r.parts.back r.at_below r.back_leads same).1 ∙ from in
            let front : word c 0 (decoded c rows i) ≤ word c 0 r.parts.front =
            subst (λ k. word c 0 (decoded c rows k) ≤ word c 0 r.parts.front) here (r.front_least.1 e) in
            subst (λ z. word c 0 (decoded c rows i) + 2 ^ length ys * x ≤ word c 0 r.parts.front + 2 ^ length ys * z) (sym same) (omega arith)
      ]

  module _ (words : ℕ → ℕ) where
    abbrev grown : List Row
    grown = record { steps = length zs; words = words } ∷ rows

    served_some : (j e : ℕ) → j < states c → (o : Offer (states c) totals m j e (words j)) → ((f z : ℕ) → Offer (states c) totals m j f z → Lower e (words j) f z)
        → Served c (ys ++ zs) grown j (Some e)
    served_some j e q o least =
        let i = o.from in
        let s : Served c ys rows i (Some o.total) = subst (Served c ys rows i) o.has_total (old i o.below) in
        let k = offered_by c i j zs (m i j) o.cost (words j) o.has_entry (block i j o.below q) in
        let us = decoded c rows i in
        let vs = k.path in
        let found = trace_leads c i j (words j) zs vs o.below k.leads k.dropped in
        let path : decoded c grown j ≡ us ++ vs = ap₂ (λ a l. decoded c rows a ++ l) found.1 found.0 in
        let long : length us ≡ length ys = s.0.as_long in
        let mid : end c 0 us ≡ i = s.0.there in
        let cost : costs c 0 (ys ++ zs) (us ++ vs) ≡ e =
        costs_append c 0 ys zs us vs long ∙ ap₂ (λ a x. a + costs c x zs vs) s.1 mid ∙ ap (λ a. o.total + a) k.cost ∙ sym o.adds in
        let dropped : word c 0 (us ++ vs) ≡ word c 0 us + 2 ^ length ys * words j =
        word_append c 0 us vs ∙ ap₂ (λ n x. word c 0 us + 2 ^ n * word c x vs) long mid ∙ ap (λ x. word c 0 us + 2 ^ length ys * x) k.dropped in
        let small : word c 0 us < 2 ^ length ys = subst (λ n. word c 0 us < 2 ^ n) long (word_below c 0 us) in (
          subst (Reaches c (ys ++ zs) j) (sym path) (leads_append c 0 i j ys zs us vs s.0 k.leads),
          ap (costs c 0 (ys ++ zs)) path ∙ cost,
          ap (started c rows) found.1 ∙ s.2,
          λ xs l.
              let r = through j q xs l in
              let best = least _ _ (offered j xs r) in
              let front : r.t ≤ costs c 0 ys r.parts.front = r.front_least.0 in
              let rest : r.a ≤ costs c r.at zs r.parts.back = r.back_least.0 in
              let low : e ≤ r.t + r.a = best.0 in (
                omega (arith, r.cost_is),
                λ same.
                    let all = ties i j (words j) xs r small (omega (arith, r.cost_is)) (omega (arith, r.cost_is)) (best.1 (omega (arith, r.cost_is))) found.1 in
                    subst (λ x. word c 0 x ≤ word c 0 xs) (sym path) (omega (arith, dropped, r.word_is, all)),
              ),
        )

    pub served_next : (j : ℕ) → j < states c → (n : Option ℕ) → Gets (states c) totals m j n (words j) → Served c (ys ++ zs) grown j n
    served_next j q None g = λ us l. g.0 _ _ (offered j us (through j q us l))
    served_next j q (Some e) g = served_some j e q g.0 g.1

pub frame_step : (c : Code) (ys zs : List ℕ) (t : Tree) (totals new : ℕ → Option ℕ) (rows : List Row) (words : ℕ → ℕ) (m : ℕ → ℕ → Path)
    → size t ≤ 32
    → AllByRecursion (λ y. accepted y ≡ true) (block_symbols zs t)
    → ((i j : ℕ) → i < states c → j < states c → m i j ≡ product path_ops (states c) (chosen (trellis c) zs) t i j)
    → ((j : ℕ) → j < states c → Gets (states c) totals m j (new j) (words j))
    → Holds c ys totals rows
    → Holds c (ys ++ block_symbols zs t) new (record { steps = size t; words = words } ∷ rows)
frame_step c ys zs t totals new rows words m fits good is gets was = record {
  served = λ j q.
      subst (λ n. Served c (ys ++ block_symbols zs t) (record { steps = n; words = words } ∷ rows) j (new j)) (block_length zs t)
      (served_next c ys (block_symbols zs t) totals rows m was.served
      (λ i k p l. subst (Survives c i k (block_symbols zs t)) (sym (is i k p l)) (survivors_best_lem c zs t fits good i k p l)) words j q (new j) (gets j q));
  counted = ap₂ (λ (n k : ℕ). n + k) was.counted (sym (block_length zs t)) ∙ sym (length-append ys (block_symbols zs t));
  ranged = and_from _ _ (and_from _ _ (le-leb 1 (size t) (size_some t)) (le-leb (size t) 32 fits)) was.ranged;
}
