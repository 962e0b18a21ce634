-- A row of values written over a part of a list is the row's cells changed.
use Rattle.std.proofs.Common.{◌≡◌, ℕ, ◌+◌, ◌-◌, ◌<◌, ◌≤◌, Bool, false, cond, List, ◌++◌, length, get_or, take, drop, ap, sym, ◌∙◌, inl, inr, arith}
use Rattle.std.proofs.lemmas.Int.{ints}
use Rattle.std.proofs.lemmas.List.{length-append, length-take-le, length-drop, get_or_append_left, get_or-append_right, get_or-take, get_or-drop}
use Rattle.std.proofs.lemmas.Bool.{cond_both, cond-true, and_parts, leb-true, ltb-true, cases_lt, le-leb, lt-ltb, and_from}
use Rattle.std.specs.Prelude.{nat_le, nat_lt, ◌&&◌}
use Rattle.samr_box.specs.declared.vector.Axis.TheVariants.{I}
use Rattle.samr_box.specs.declared.vector.IVec.{IVec}
use Rattle.samr_box.specs.Vector.{AtMost, minus, InRange}
use Rattle.samr_box.specs.Corners.{Corners, IsBox, Holds, holds, span}
use Rattle.samr_box.proofs.CellSets.{Holds-test}
use Rattle.samr_box.proofs.Vectors.{AtMost-trans}
use Rattle.samr_data.specs.Places.{offset, place, IsRow, moved_back}
use Rattle.samr_data.specs.Values.{CanCopy, value_in, listed, changed_in, moved_from, pasted}
use Rattle.samr_data.proofs.PlaceLaws.{RowOf, row_ends, row_run, row_place_is, part_order}
use Rattle.samr_data.proofs.Lists.{listed_is}
use Rattle.samr_data.proofs.Slices.{order-moved_back}

-- a value of a list that was written over
pasted_below : (to from : List ℕ) (first start count n : ℕ) → first ≤ length to → n < first → get_or (pasted to first from start count) n 0 ≡ get_or to n 0
pasted_below to from first start count n p q =
    let long = length-take-le first to p in
    get_or_append_left (take first to) (take count (drop start from) ++ drop (first + count) to) 0 n (omega (arith, long, q)) ∙ get_or-take first to n 0 q

middle_length : (from : List ℕ) (start count : ℕ) → start + count ≤ length from → length (take count (drop start from)) ≡ count
middle_length from start count h = length-take-le count (drop start from) (omega (arith, length-drop start from, h))

pasted_inside : (to from : List ℕ) (first start count n : ℕ) → first ≤ length to → start + count ≤ length from → first ≤ n → n < first + count
    → get_or (pasted to first from start count) n 0 ≡ get_or from (start + (n - first)) 0
pasted_inside to from first start count n p q low high =
    let long = length-take-le first to p in
    let middle = middle_length from start count q in
    get_or-append_right (take first to) (take count (drop start from) ++ drop (first + count) to) first n 0 long low
    ∙ get_or_append_left (take count (drop start from)) (drop (first + count) to) 0 (n - first) (omega (arith, middle, low, high))
    ∙ get_or-take count (drop start from) (n - first) 0 (omega (arith, low, high))
    ∙ get_or-drop start from (n - first) 0

pasted_above : (to from : List ℕ) (first start count n : ℕ) → first ≤ length to → start + count ≤ length from → first + count ≤ n
    → get_or (pasted to first from start count) n 0 ≡ get_or to n 0
pasted_above to from first start count n p q high =
    let long = length-take-le first to p in
    let middle = middle_length from start count q in
    get_or-append_right (take first to) (take count (drop start from) ++ drop (first + count) to) first n 0 long (omega (arith, high))
    ∙ get_or-append_right (take count (drop start from)) (drop (first + count) to) count (n - first) 0 middle (omega (arith, high))
    ∙ get_or-drop (first + count) to (n - first - count) 0
    ∙ ap (λ m. get_or to m 0) (omega (arith, high))

length-pasted : (to from : List ℕ) (first start count : ℕ) → first + count ≤ length to → start + count ≤ length from → length (pasted to first from start count) ≡ length to
length-pasted to from first start count p q =
    let long = length-take-le first to (omega (arith, p)) in
    let middle = middle_length from start count q in
    length-append (take first to) (take count (drop start from) ++ drop (first + count) to)
    ∙ ap (λ v. length (take first to) + v) (length-append (take count (drop start from)) (drop (first + count) to))
    ∙ omega (arith, long, middle, length-drop (first + count) to, p)

pub pasted_at : (to from : List ℕ) (first start count n : ℕ) → first + count ≤ length to → start + count ≤ length from
    → get_or (pasted to first from start count) n 0 ≡ cond (nat_le first n && nat_lt n (first + count)) (get_or from (start + (n - first)) 0) (get_or to n 0)
pasted_at to from first start count n p q =
    let test : Bool = nat_le first n && nat_lt n (first + count) in
    cond_both test (get_or from (start + (n - first)) 0) (get_or to n 0) (λ v. get_or (pasted to first from start count) n 0 ≡ v)
    (λ t. let s = and_parts (nat_le first n) (nat_lt n (first + count)) t in
    pasted_inside to from first start count n (omega (arith, p)) q (leb-true first n s.0) (ltb-true n (first + count) s.1))
    (λ f. outside f)
  where
    above : first ≤ n → (nat_le first n && nat_lt n (first + count)) ≡ false → first + count ≤ n
    above low f = elim (cases_lt n (first + count)) [
      | inl inside ↦ absurd (cc (and_from (nat_le first n) (nat_lt n (first + count)) (le-leb first n low) (lt-ltb n (first + count) inside)))
      | inr over ↦ over
    ]

    outside : (nat_le first n && nat_lt n (first + count)) ≡ false → get_or (pasted to first from start count) n 0 ≡ get_or to n 0
    outside f = elim (cases_lt n first) [
      | inl low ↦ pasted_below to from first start count n (omega (arith, p)) low
      | inr high ↦ pasted_above to from first start count n (omega (arith, p)) q (above high f)
    ]

-- a row and where it comes from
pub RowOf-at : (at source row : Corners) (by : IVec) (to from : List ℕ) → CanCopy to at from source row by → IsRow row → AtMost row.lo row.hi → RowOf at row
RowOf-at at source row by to from can flat order = record { inside = can.into; flat = flat; order = order }

pub RowOf-source : (at source row : Corners) (by : IVec) (to from : List ℕ) → CanCopy to at from source row by → IsRow row → AtMost row.lo row.hi → RowOf source (moved_back row by)
RowOf-source at source row by to from can flat order = record {
  inside = can.out;
  flat = (omega (arith, ints, flat.0), omega (arith, ints, flat.1));
  order = order-moved_back row by order;
}

span-moved : (row : Corners) (by : IVec) → span I (moved_back row by) ≡ span I row
span-moved row by = omega (arith, ints)

offset-moved : (row : Corners) (by x : IVec) → offset I (moved_back row by) (minus x by) ≡ offset I row x
offset-moved row by x = omega (arith, ints)

Holds-moved : (row : Corners) (by x : IVec) → Holds row x → Holds (moved_back row by) (minus x by)
Holds-moved row by x h = record {
  low = record { k = omega (arith, ints, h.low.k); j = omega (arith, ints, h.low.j); i = omega (arith, ints, h.low.i) };
  high = record { k = omega (arith, ints, h.high.k); j = omega (arith, ints, h.high.j); i = omega (arith, ints, h.high.i) };
}

pub row_room_at : (at source row : Corners) (by : IVec) (to from : List ℕ) → CanCopy to at from source row by → IsRow row → AtMost row.lo row.hi → place at row.lo + span I row ≤ length to
row_room_at at source row by to from can flat order =
    let end = row_ends at row (RowOf-at at source row by to from can flat order) in
    omega (arith, end, can.full)

pub row_room_source : (at source row : Corners) (by : IVec) (to from : List ℕ) → CanCopy to at from source row by → IsRow row → AtMost row.lo row.hi → place source (minus row.lo by) + span I row ≤ length from
row_room_source at source row by to from can flat order =
    let end = row_ends source (moved_back row by) (RowOf-source at source row by to from can flat order) in
    omega (arith, end, can.source_full, span-moved row by)

-- a cell of the row has the value from where it comes
from_place : (at source row : Corners) (by : IVec) (to from : List ℕ) → CanCopy to at from source row by → IsRow row → AtMost row.lo row.hi → (x : IVec) → Holds row x
    → place source (minus row.lo by) + (place at x - place at row.lo) ≡ place source (minus x by)
from_place at source row by to from can flat order x h =
    let here = row_place_is at row x (RowOf-at at source row by to from can flat order) h in
    let there = row_place_is source (moved_back row by) (minus x by) (RowOf-source at source row by to from can flat order) (Holds-moved row by x h) in
    omega (arith, here, there, offset-moved row by x)

pub row_copied : (at source row : Corners) (by : IVec) (to from : List ℕ) → CanCopy to at from source row by → IsRow row → AtMost row.lo row.hi
    → pasted to (place at row.lo) from (place source (minus row.lo by)) (span I row) ≡ listed at (changed_in at to (holds row) (moved_from source from by))
row_copied at source row by to from can flat order =
    let room = row_room_at at source row by to from can flat order in
    let source_room = row_room_source at source row by to from can flat order in
    let first = place at row.lo in
    let start = place source (minus row.lo by) in
    let count = span I row in
    listed_is at (changed_in at to (holds row) (moved_from source from by)) (pasted to first from start count) (part_order at row can.into order)
    (length-pasted to from first start count room source_room ∙ can.full)
    (λ x h.
    pasted_at to from first start count (place at x) room source_room
    ∙ ap (λ t. cond t (get_or from (start + (place at x - first)) 0) (value_in at to x)) (row_run at row x (RowOf-at at source row by to from can flat order) h)
    ∙ cond_both (holds row x) (get_or from (start + (place at x - first)) 0) (value_in at to x) (λ v. v ≡ changed_in at to (holds row) (moved_from source from by) x)
    (λ t. ap (λ m. get_or from m 0) (from_place at source row by to from can flat order x (Holds-test t)) ∙ sym (cond-true (holds row x) (value_in source from (minus x by)) (value_in at to x) t))
    (λ f. sym (ap (λ t. cond t (value_in source from (minus x by)) (value_in at to x)) f)))

-- a cell of a box has numbers of a box's range
pub InRange-held : (b : Corners) (x : IVec) → IsBox b → Holds b x → InRange x
InRange-held b x h s = record { low = AtMost-trans h.low s.low; high = AtMost-trans s.high h.high }
