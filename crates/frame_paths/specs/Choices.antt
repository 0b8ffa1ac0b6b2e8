-- What letter a gives a state: of what all states offer it, the least.
--   offers v                cost and word of a survivor, nothing where it is none
--   Offer d totals m j e x  some state below d offers state j the total e with the word x: it has a total, and the block's matrix m
--                           leads from it to j
--   Gets d totals m j o x   state j gets the total o with the word x: the least total that is offered, and the lowest word among
--                           equals; no total and the word 0 without any offer
use Rattle.std.specs.Prelude.{◌≡◌, ℕ, ◌+◌, ◌<◌, Some, None, Option}
use Rattle.algebra_survivor.specs.Survivors.{Path, none, some}
use Rattle.frame_paths.specs.Survivors.{Lower}

abbrev pub offers : Path → Option (ℕ × ℕ)
offers none = None
offers (some n a w p) = Some (a, w)

pub record Offer (d : ℕ) (totals : ℕ → Option ℕ) (m : ℕ → ℕ → Path) (j e x : ℕ) : Type 0 where
  pub from : ℕ
  pub total : ℕ
  pub cost : ℕ
  pub below : from < d
  pub has_total : totals from ≡ Some total
  pub has_entry : offers (m from j) ≡ Some (cost, x)
  pub adds : e ≡ total + cost

abbrev pub Gets : ℕ → (ℕ → Option ℕ) → (ℕ → ℕ → Path) → ℕ → Option ℕ → ℕ → Type 0
Gets d totals m j None x = ((f z : ℕ) → Offer d totals m j f z → ⊥) × (x ≡ 0)
Gets d totals m j (Some e) x = Offer d totals m j e x × ((f z : ℕ) → Offer d totals m j f z → Lower e x f z)
