-- The best offer is the least.
use Rattle.std.proofs.Common.{◌≡◌, ℕ, zero, suc, ◌+◌, ◌*◌, ◌<◌, ◌≤◌, Bool, true, false, ◌&&◌, ◌||◌, cond, eqb, leb, ltb, List, length, get_or, Some, None, Option, sym, refl, ap, ◌∙◌, add-one, arith}
use Rattle.std.proofs.lemmas.Nat.{mul-add-lt}
use Rattle.std.proofs.lemmas.List.{get_or_default}
use Rattle.std.proofs.lemmas.Bool.Decides.{nat_tests}
use Rattle.algebra.specs.Sums.{at}
use Rattle.algebra.proofs.Places.{at_read}
use Rattle.algebra_survivor.specs.declared.Survivor.{Survivor}
use Rattle.algebra_survivor.specs.Survivors.{Path, longest, none, none_row, normal_row, path_of, row_ranged}
use Rattle.algebra_survivor.specs.Paths.{from_true, path_in, path_out}
use Rattle.engine.specs.Matrices.{Normal}
use Rattle.frame_paths.specs.Choices.{Gets, offers}
use Rattle.frame_paths.specs.Survivors.{Lower}
use Rattle.frame_rows.specs.Traces.{state_total}
use Rattle.frame_metrics.specs.declared.offer.Offer.{Offer}
use Rattle.frame_metrics.specs.Metrics.{entries}
use Rattle.frame_metrics.specs.Offers.{best_offer, least, offer_high, offer_total, offer_word, tried}
use Rattle.frame_metrics.proofs.Turns.{gets_first, gets_keep, gets_lower, gets_none, gets_skip}

-- the test of two offers is their order
below : (a b : Offer) → (ltb b.total a.total || (eqb b.total a.total && ltb b.word a.word)) ≡ true → Lower b.total b.word a.total a.word
below a b e = (grind (arith, nat_tests), λ same. grind (arith, nat_tests))

not_below : (a b : Offer) → (ltb b.total a.total || (eqb b.total a.total && ltb b.word a.word)) ≡ false → Lower a.total a.word b.total b.word
not_below a b e = (grind (arith, nat_tests), λ same. grind (arith, nat_tests))

-- How high totals may get.
pub high_least : (o : Option Offer) (b : Offer) (most : ℕ) → offer_high o ≤ most → b.total ≤ most → (least o b).total ≤ most
high_least None b most p q = q
high_least (Some a) b most p q = by (ltb b.total a.total || (eqb b.total a.total && ltb b.word a.word))
  where
    by : (t : Bool) → (cond t b a).total ≤ most
    by true = q
    by false = p

module _ (totals : ℕ → Option ℕ) (m : ℕ → ℕ → Path) (j i t c w : ℕ) (a : totals i ≡ Some t) (o : offers (m i j) ≡ Some (c, w)) where
  abbrev Best : ℕ → Option Offer → Type 0
  Best n b = Gets n totals m j (offer_total b) (offer_word b)

  -- one offer more
  offer_more : (b : Option Offer) → Best i b → Best (i + 1) (Some (least b (record { total = t + c; word = w })))
  offer_more None g = gets_first totals m j i t c w a o 0 g
  offer_more (Some b) g = by (ltb (t + c) b.total || (eqb (t + c) b.total && ltb w b.word)) refl
    where
      by : (q : Bool) → (ltb (t + c) b.total || (eqb (t + c) b.total && ltb w b.word)) ≡ q → Best (i + 1) (Some (cond q (record { total = t + c; word = w }) b))
      by true e = gets_lower totals m j i t c w a o b.total b.word (below b (record { total = t + c; word = w }) e) g
      by false e = gets_keep totals m j i t c w a o b.total b.word (not_below b (record { total = t + c; word = w }) e) g

-- what stands at a place, by its row
at_row : {V : Type 0} (z : V) (f : Survivor → V) (xs : List Survivor) (p : ℕ) → p < length xs → at z f xs p ≡ f (get_or xs p none_row)
at_row z f xs p h = at_read z f xs p (get_or xs p none_row) h (get_or_default xs p none_row (get_or xs p none_row) h)

-- a normal row that is not too long is a path
within : (r : Survivor) → normal_row r ≡ true → leb r.length longest ≡ true → row_ranged r ≡ true
within r fine short = grind (arith, nat_tests)

ranged_offer : (r : Survivor) → row_ranged r ≡ true → offers (path_of r) ≡ Some (r.cost, r.word)
ranged_offer r e = ap offers (path_in r.length r.cost r.word (from_true _ e))

too_long : (r : Survivor) → leb r.length longest ≡ false → path_of r ≡ none
too_long r e = path_out r.length r.cost r.word (grind (arith, nat_tests))

module _ (totals : List (Option ℕ)) (m : List Survivor) (d j : ℕ) where
  pub best_none : best_offer totals m d j 0 ≡ None
  unfolding best_offer
  best_none = refl

  pub best_more : (i : ℕ) → best_offer totals m d j (i + 1) ≡ tried (best_offer totals m d j i) (state_total totals i) (get_or m (i * d + j) none_row)
  unfolding best_offer
  best_more i = ap (best_offer totals m d j) (add-one i)

  module _ (square : length m ≡ d * d) (fine : Normal normal_row m (d * d)) (column : j < d) where
    -- state i, with the total v and the row r
    best_turn : (i : ℕ) (o : Option Offer) (v : Option ℕ) (r : Survivor) → state_total totals i ≡ v → entries m d i j ≡ path_of r → normal_row r ≡ true
        → Gets i (state_total totals) (entries m d) j (offer_total o) (offer_word o)
        → Gets (i + 1) (state_total totals) (entries m d) j (offer_total (tried o v r)) (offer_word (tried o v r))
    best_turn i o None r a e f g =
        gets_skip (state_total totals) (entries m d) j i (offer_total o) (offer_word o) (λ t c w p q. let z : ◌≡◌ {A = ℕ} 0 1 = cc (a, p) in omega arith) g
    best_turn i o (Some t) r a e f g = by (leb r.length longest) refl
      where
        by : (q : Bool) → leb r.length longest ≡ q → Gets (i + 1) (state_total totals) (entries m d) j (offer_total (cond q (Some (least o (record { total = t + r.cost; word = r.word }))) o)) (offer_word (cond q (Some (least o (record { total = t + r.cost; word = r.word }))) o))
        by false q =
            let nothing : offers (entries m d i j) ≡ None = ap offers (e ∙ too_long r q) in
            gets_skip (state_total totals) (entries m d) j i (offer_total o) (offer_word o) (λ t c w p o. let z : ◌≡◌ {A = ℕ} 0 1 = cc (nothing, o) in omega arith) g
        by true q = offer_more (state_total totals) (entries m d) j i t r.cost r.word a (ap offers e ∙ ranged_offer r (within r f q)) o g

    pub best_gets : (n : ℕ) → n ≤ d → Gets n (state_total totals) (entries m d) j (offer_total (best_offer totals m d j n)) (offer_word (best_offer totals m d j n))
    best_gets zero h = rw best_none (gets_none (state_total totals) (entries m d) j)
    best_gets (suc i) h =
        let place = i * d + j in
        let inside : place < d * d = mul-add-lt i d j d (omega arith) column in
        let there : place < length m = omega arith in
        let turn = best_turn i (best_offer totals m d j i) (state_total totals i) (get_or m place none_row) refl (at_row none path_of m place there)
        (sym (at_row true normal_row m place there) ∙ fine place inside) (best_gets i (omega arith)) in
        rw (← add-one i, best_more i) turn
