-- Room for rows in a store.
use Rattle.std.proofs.Common.{◌≡◌, ℕ, ◌+◌, ◌*◌, ◌≤◌, true, ◌&&◌, eqb, leb, sym, arith}
use Rattle.std.proofs.lemmas.Bool.{and_parts, eqb-true, leb-true}
use Rattle.frame_metrics.specs.Totals.{has_room, selection_allowed, most_rows}

-- what room for one row more says
pub room_for : (rows d room : ℕ) → has_room rows d room 1 ≡ true → (rows + 1 ≤ most_rows) × (rows * (1 + d) + (1 + d) ≤ room)
room_for rows d room e =
    let both = and_parts (leb (rows + 1) most_rows) (leb ((rows + 1) * (1 + d)) room) e in
    let fits = leb-true ((rows + 1) * (1 + d)) room both.1 in
    (leb-true _ _ both.0, omega arith)

-- what the test of a selection found
pub may_parts : (rows d symbols n room : ℕ) → true ≡ selection_allowed rows d symbols n room
    → (d ≤ 64) × (symbols ≤ 32) × (n ≡ d * d) × (has_room rows d room 1 ≡ true)
may_parts rows d symbols n room e =
    let first = and_parts (leb d 64) (leb symbols 32 && (eqb n (d * d) && has_room rows d room 1)) (sym e) in
    let second = and_parts (leb symbols 32) (eqb n (d * d) && has_room rows d room 1) first.1 in
    let third = and_parts (eqb n (d * d)) (has_room rows d room 1) second.1 in
    (leb-true d 64 first.0, leb-true symbols 32 second.0, eqb-true n (d * d) third.0, third.1)

-- room for n + 1 rows is room for n after one more
pub room_after : (rows d room n : ℕ) → has_room rows d room (n + 1) ≡ true → has_room (rows + 1) d room n ≡ true
room_after rows d room n e = let is : rows + (n + 1) ≡ (rows + 1) + n = omega arith in rw is at e
