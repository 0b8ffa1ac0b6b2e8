-- Running counts of a plan's letters.
--   counting t c    the counts t after one letter more
--   tallied plan    the counts of all letters of a plan, and how many matrices it leaves standing
use Rattle.std.specs.Prelude.{ℕ, ◌+◌, ◌-◌, max, cond, List, length, ◌==◌}
use Rattle.plan.specs.declared.Tally.{Tally}
use Rattle.plan.specs.Asks.{singles, joins, height, most}

abbrev pub counting : Tally → ℕ → Tally
counting t c =
    cond (c == 115) (record { singles = t.singles + 1; joins = t.joins; standing = t.standing + 1; most = max t.most (t.standing + 1) })
    (cond (c == 106) (record { singles = t.singles; joins = t.joins + 1; standing = t.standing - 1; most = t.most })
    (record { singles = t.singles; joins = t.joins; standing = 0; most = t.most }))

abbrev pub tallied : List ℕ → Tally
tallied plan = record { singles = singles plan; joins = joins plan; standing = height plan (length plan); most = most plan }
