-- What a state is offered, and the best of it: the least total, and of equal ones that of the lowest word.
--   offered total cell         what a state of this total offers over a survivor
--   better a b                 the better of two offers
--   least o b                  the better of an offer, if there is one, and of the offer b
--   offer_total o, offer_word o
--                              the total and the word of an offer, none and 0 of no offer
--   offer_high o               the total of an offer, 0 of no offer
--   bettered o total cell      the better of the offer o and of what is offered; o where the survivor is none
--   tried o t cell             the same, and o where there is no total
--   best_offer totals m d j n  the best of what the states below n offer state j over the matrix m of size d
use Rattle.std.specs.Prelude.{ℕ, zero, suc, ◌+◌, ◌*◌, cond, ◌&&◌, ◌||◌, List, Some, None, Option, ◌==◌, nat_le, nat_lt, slice_index_or}
use Rattle.std.specs.Option.{option_map, unwrap_or}
use Rattle.algebra_survivor.specs.declared.Survivor.{Survivor}
use Rattle.algebra_survivor.specs.Survivors.{longest, none_row}
use Rattle.frame_rows.specs.Traces.{state_total}
use Rattle.frame_metrics.specs.declared.offer.Offer.{Offer}

abbrev pub offered : ℕ → Survivor → Offer
offered total cell = record { total = total + cell.cost; word = cell.word }

abbrev pub better : Offer → Offer → Offer
better a b = cond (nat_lt b.total a.total || (b.total == a.total && nat_lt b.word a.word)) b a

abbrev pub offer_total : Option Offer → Option ℕ
offer_total o = option_map (λ x. x.total) o

abbrev pub offer_word : Option Offer → ℕ
offer_word None = 0
offer_word (Some o) = o.word

abbrev pub offer_high : Option Offer → ℕ
offer_high o = unwrap_or (offer_total o) 0

abbrev pub least : Option Offer → Offer → Offer
least None b = b
least (Some a) b = better a b

abbrev pub bettered : Option Offer → ℕ → Survivor → Option Offer
bettered o total cell = cond (nat_le cell.length longest) (Some (least o (offered total cell))) o

abbrev pub tried : Option Offer → Option ℕ → Survivor → Option Offer
tried o None cell = o
tried o (Some total) cell = bettered o total cell

unfoldable pub best_offer : List (Option ℕ) → List Survivor → ℕ → ℕ → ℕ → Option Offer
best_offer totals m d j zero = None
best_offer totals m d j (suc i) = tried (best_offer totals m d j i) (state_total totals i) (slice_index_or m (i * d + j) none_row)
