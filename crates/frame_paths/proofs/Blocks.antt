-- Each entry of a block's matrix is the survivor of the paths over its symbols.
use Rattle.std.proofs.Common.{◌≡◌, ℕ, ◌+◌, ◌*◌, ◌%◌, ◌^◌, ◌<◌, ◌≤◌, Bool, true, false, ◌&&◌, List, [], ◌∷◌, ◌++◌, length, get_or, sym, refl, ap, ◌∙◌, subst, ap₂, arith, length-append}
use mathlib.Core.List.{map-append}
use lib.ListN.{length-map}
use Rattle.std.specs.List.{AllByRecursion}
use Rattle.std.proofs.lemmas.Bool.{and_from, both_ways}
use Rattle.algebra_survivor.specs.Survivors.{longest, Path, none, some, path_of, path_ops}
use Rattle.algebra_survivor.specs.Paths.{from_true, path_in}
use Rattle.code.specs.declared.description.Code.{Code}
use Rattle.code.specs.Codes.{states, register_of, goes, input}
use Rattle.code.specs.Symbols.{accepted, branch_cost}
use Rattle.code.proofs.Next.{next_goes, goes_next}
use Rattle.paths.specs.Paths.{end}
use Rattle.plan.specs.Plans.{Tree, places, size}
use Rattle.plan.specs.Plans.{Single, Join}
use Rattle.engine.specs.Blocks.{chosen, product}
use Rattle.recursion_trellis.specs.SurvivorsLemmas.{branch_in_range, entry_branch, entry_none}
use Rattle.frame_paths.specs.Paths.{costs, Leads}
use Rattle.frame_paths.specs.Survivors.{word, Survives, block_symbols, trellis, SurvivorsBest}
use Rattle.frame_paths.proofs.Lowest.{Lowest, Both, lower_same, lowest_same, lowest_sum, lowest_times}
use Rattle.frame_paths.proofs.Walks.{cut, end_below, end_append, costs_append, word_append, leads_append}

-- a block has as many symbols as places, and at least one
pub places_size : (t : Tree) → length (places t) ≡ size t
places_size (Single p) = refl
places_size (Join a b) = length-append (places a) (places b) ∙ ap₂ (λ (m n : ℕ). m + n) (places_size a) (places_size b)

pub size_some : (t : Tree) → 1 ≤ size t
size_some (Single p) = omega arith
size_some (Join a b) = omega (arith, size_some a)

pub block_length : (zs : List ℕ) (t : Tree) → length (block_symbols zs t) ≡ size t
block_length zs t = length-map (places t) (λ p. get_or zs p 0) ∙ places_size t

join_symbols : (zs : List ℕ) (a b : Tree) → block_symbols zs (Join a b) ≡ block_symbols zs a ++ block_symbols zs b
join_symbols zs a b = map-append (λ p. get_or zs p 0) (places a) (places b)

pub all_apart : (P : ℕ → Type 0) (xs ys : List ℕ) → AllByRecursion P (xs ++ ys) → AllByRecursion P xs × AllByRecursion P ys
all_apart P [] ys e = (tt, e)
all_apart P (x ∷ xs) ys e = let rest = all_apart P xs ys e.1 in ((e.0, rest.0), rest.1)

module _ (c : Code) where
  -- some path over ys from i to j has cost a and word w
  pub record Walk (i j : ℕ) (ys : List ℕ) (a w : ℕ) : Type 0 where
    pub path : List ℕ
    pub leads : Leads c i ys j path
    pub cost : a ≡ costs c i ys path
    pub dropped : w ≡ word c i path

  pub survives : (i j : ℕ) (ys : List ℕ) (v : Path) → Lowest (length ys) (Walk i j ys) v → Survives c i j ys v
  survives i j ys none l = λ us p. l _ _ (record { path = us; leads = p; cost = refl; dropped = refl })
  survives i j ys (some n a w p) l =
      (l.0, (l.1.path, l.1.leads, sym l.1.cost, sym l.1.dropped), λ vs q. l.2 _ _ (record { path = vs; leads = q; cost = refl; dropped = refl }))

  -- a path of one step takes the one branch
  one_step : (y i j : ℕ) (us : List ℕ) → i < states c → Leads c i (y ∷ []) j us
      → (goes c i j ≡ true) × (costs c i (y ∷ []) us ≡ branch_cost c y (register_of c i (input c j))) × (word c i us ≡ i % 2)
  one_step y i j [] p l = absurd (omega (arith, l.as_long))
  one_step y i j (u ∷ (v ∷ us)) p l = absurd (omega (arith, l.as_long))
  one_step y i j (u ∷ []) p l =
      let at = next_goes c i u p l.bits.0 in
      let is : input c j ≡ u = ap (input c) (sym l.there) ∙ at.1 in (
        ap (goes c i) (sym l.there) ∙ at.0,
        plain _ ∙ ap (λ n. branch_cost c y (register_of c i n)) (sym is),
        omega arith,
      )
    where
      plain : (n : ℕ) → n + 0 ≡ n
      plain n = omega arith

  single : (y i j : ℕ) → accepted y ≡ true → i < states c → (b : Bool) → goes c i j ≡ b → Lowest 1 (Walk i j (y ∷ [])) (trellis c y i j)
  single y i j a p false e =
      subst (Lowest 1 (Walk i j (y ∷ []))) (sym (ap path_of (entry_none c y i j (ap (λ t. t && accepted y) e))))
      (λ b w k. both_ways (goes c i j) e (one_step y i j k.path p k.leads).0)
  single y i j a p true e =
      let there = goes_next c i j e in
      let way : Leads c i (y ∷ []) j (input c j ∷ []) = record { bits = (there.2, tt); as_long = refl; there = there.3 } in
      let is = one_step y i j (input c j ∷ []) p way in
      subst (Lowest 1 (Walk i j (y ∷ [])))
      (sym (ap path_of (entry_branch c y i j (and_from _ _ e a)) ∙ path_in 1 _ (i % 2) (from_true _ (branch_in_range c y (register_of c i (input c j)) i a)))) (
        refl,
        record { path = input c j ∷ []; leads = way; cost = sym is.1; dropped = sym is.2 },
        λ d z k. let at = one_step y i j k.path p k.leads in lower_same _ _ _ _ (sym (k.cost ∙ at.1)) (sym (k.dropped ∙ at.2)),
      )

  -- a path over ys and then zs goes through some state
  together : (i j : ℕ) (ys zs : List ℕ) (a w : ℕ) → ((k : ℕ) × (k < states c) × Both (length ys) (Walk i k ys) (Walk k j zs) a w) → Walk i j (ys ++ zs) a w
  together i j ys zs a w e =
      let k = e.0 in
      let b = e.2 in
      let us = b.first.path in
      let vs = b.second.path in
      let mid : end c i us ≡ k = b.first.leads.there in
      let long : length us ≡ length ys = b.first.leads.as_long in
      record {
        path = us ++ vs;
        leads = leads_append c i k j ys zs us vs b.first.leads b.second.leads;
        cost = b.cost ∙ ap₂ (λ (m n : ℕ). m + n) b.first.cost (b.second.cost ∙ ap (λ s. costs c s zs vs) (sym mid)) ∙ sym (costs_append c i ys zs us vs long);
        dropped = b.word
            ∙ ap₂ (λ (m n : ℕ). m + 2 ^ length ys * n) b.first.dropped (b.second.dropped ∙ ap (λ s. word c s vs) (sym mid))
            ∙ ap (λ n. word c i us + 2 ^ n * word c (end c i us) vs) (sym long) ∙ sym (word_append c i us vs);
      }

  apart : (i j : ℕ) (ys zs : List ℕ) → i < states c → (a w : ℕ) → Walk i j (ys ++ zs) a w → (k : ℕ) × (k < states c) × Both (length ys) (Walk i k ys) (Walk k j zs) a w
  apart i j ys zs p a w k =
      let us = k.path in
      let x = cut (length ys) (length zs) us (k.leads.as_long ∙ length-append ys zs) k.leads.bits in
      let m = end c i x.front in (
        m,
        end_below c i x.front p x.front_bits,
        record {
          first_cost = costs c i ys x.front;
          first_word = word c i x.front;
          second_cost = costs c m zs x.back;
          second_word = word c m x.back;
          first = record { path = x.front; leads = record { bits = x.front_bits; as_long = x.front_long; there = refl }; cost = refl; dropped = refl };
          second = record {
            path = x.back;
            leads = record { bits = x.back_bits; as_long = x.back_long; there = sym (end_append c i x.front x.back) ∙ ap (end c i) (sym x.whole) ∙ k.leads.there };
            cost = refl;
            dropped = refl;
          };
          cost = k.cost ∙ ap (costs c i (ys ++ zs)) x.whole ∙ costs_append c i ys zs x.front x.back x.front_long;
          word = k.dropped ∙ ap (word c i) x.whole ∙ word_append c i x.front x.back ∙ ap (λ n. word c i x.front + 2 ^ n * word c m x.back) x.front_long;
        },
      )

  pub block_lowest : (zs : List ℕ) (t : Tree) → size t ≤ longest → AllByRecursion (λ y. accepted y ≡ true) (block_symbols zs t) → (i j : ℕ) → i < states c → j < states c
      → Lowest (size t) (Walk i j (block_symbols zs t)) (product path_ops (states c) (chosen (trellis c) zs) t i j)
  block_lowest zs (Single y) fits good i j p q = single (get_or zs y 0) i j good.0 p _ refl
  block_lowest zs (Join a b) fits good i j p q =
      let xs = block_symbols zs a in
      let ys = block_symbols zs b in
      let is = join_symbols zs a b in
      let parts = all_apart _ xs ys (subst (AllByRecursion (λ y. accepted y ≡ true)) is good) in
      let long : length xs ≡ size a = block_length zs a in
      let both : (n : ℕ) → length xs ≡ n → n ≡ size a → Lowest (n + size b) (Walk i j (xs ++ ys)) (product path_ops (states c) (chosen (trellis c) zs) (Join a b) i j) =
      λ n e f.
      lowest_same (n + size b) _ _ (together i j xs ys) (apart i j xs ys p) _
      (subst (λ k. Lowest (n + size b) (λ a w. (s : ℕ) × (s < states c) × Both k (Walk i s xs) (Walk s j ys) a w) (product path_ops (states c) (chosen (trellis c) zs) (Join a b) i j)) (sym e)
      (lowest_sum (n + size b) (states c) (λ k. Both n (Walk i k xs) (Walk k j ys)) _
      (λ k l. lowest_times n (size b) _ _ (omega (arith, f, fits)) _ _ (subst (λ x. Lowest x (Walk i k xs) (product path_ops (states c) (chosen (trellis c) zs) a i k)) (sym f) (block_lowest zs a (omega arith) parts.0 i k p l)) (block_lowest zs b (omega arith) parts.1 k j l q)))) in
      subst (λ l. Lowest (size a + size b) (Walk i j l) (product path_ops (states c) (chosen (trellis c) zs) (Join a b) i j)) (sym is) (both (size a) long refl)

pub survivors_best_lem : SurvivorsBest
survivors_best_lem c zs t fits good i j p q =
    survives c i j (block_symbols zs t) _
    (subst (λ n. Lowest n (Walk c i j (block_symbols zs t)) (product path_ops (states c) (chosen (trellis c) zs) t i j)) (sym (block_length zs t)) (block_lowest c zs t fits good i j p q))
