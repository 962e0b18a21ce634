-- Places and cells: each cell of a box has its own place, and the cells of a row have places in a run.
use Rattle.std.proofs.Common.{◌≡◌, ℕ, ◌+◌, ◌-◌, ◌*◌, ◌/◌, ◌%◌, ◌<◌, ◌≤◌, true, false, refl, ap, sym, ◌∙◌, arith}
use Rattle.std.proofs.lemmas.Int.{ints}
use Rattle.std.proofs.lemmas.Nat.{mul-add-lt, same_from_place, div-mul-add, mod-mul-add, div-add-mod', div_below, mod_below, mul-le}
use Rattle.std.proofs.lemmas.Bool.{and_from, and_parts, leb-true, ltb-true, le-leb, lt-ltb}
use Rattle.std.specs.Prelude.{ℤ, pos, ◌+ℤ◌, ◌-ℤ◌, ◌≤ℤ◌, unsigned_abs, nat_le, nat_lt, ◌&&◌, Bool}
use Rattle.samr_box.specs.declared.vector.Axis.{Axis}
use Rattle.samr_box.specs.declared.vector.Axis.TheVariants.{I, J, K}
use Rattle.samr_box.specs.declared.vector.IVec.{IVec}
use Rattle.samr_box.specs.Vector.{AtMost, at_most}
use Rattle.samr_box.specs.Corners.{Corners, Holds, holds, holds_box, span, cells_of}
use Rattle.samr_box.proofs.CellSets.{AtMost-test, Holds-test, Holds-hi, holds-from}
use Rattle.samr_box.proofs.Vectors.{same_cell, AtMost-trans}
use Rattle.samr_data.specs.Places.{offset, place_at, place, cell_at, IsRow}

-- two tests that say the same are equal
pub same_test : (a b : Bool) → (a ≡ true → b ≡ true) → (b ≡ true → a ≡ true) → a ≡ b
same_test true true p q = refl
same_test true false p q = sym (p refl)
same_test false true p q = q refl
same_test false false p q = refl

-- a cell of the box lies in one of its planes
pub offset_below : (axis : Axis) (b : Corners) (x : IVec) → Holds b x → offset axis b x < span axis b
offset_below I b x h = omega (arith, ints, h.low.i, h.high.i)
offset_below J b x h = omega (arith, ints, h.low.j, h.high.j)
offset_below K b x h = omega (arith, ints, h.low.k, h.high.k)

place_at_below : (k j i planes rows columns : ℕ) → k < planes → j < rows → i < columns → place_at k j i rows columns < columns * rows * planes
place_at_below k j i planes rows columns p q r =
    let below = mul-add-lt (k * rows + j) columns i (rows * planes) (mul-add-lt k rows j planes p q) r in
    omega (arith, below)

pub parts_below : (b : Corners) (x : IVec) → Holds b x → place_at (offset K b x) (offset J b x) (offset I b x) (span J b) (span I b) < cells_of b
parts_below b x h =
    place_at_below (offset K b x) (offset J b x) (offset I b x) (span K b) (span J b) (span I b) (offset_below K b x h) (offset_below J b x h) (offset_below I b x h)

pub place_below : (b : Corners) (x : IVec) → Holds b x → place b x < cells_of b
unfolding place
place_below b x h = parts_below b x h

-- from cells to places and back
pub cell_at-place : (b : Corners) (x : IVec) → Holds b x → cell_at b (place b x) ≡ x
unfolding cell_at place
cell_at-place b x h =
    let k = offset K b x in
    let j = offset J b x in
    let i = offset I b x in
    let n = place_at k j i (span J b) (span I b) in
    let row : n / span I b ≡ k * span J b + j = div-mul-add (k * span J b + j) (span I b) i (offset_below I b x h) in
    let column : n % span I b ≡ i = mod-mul-add (k * span J b + j) (span I b) i (offset_below I b x h) in
    let on_k : n / span I b / span J b ≡ k = ap (λ v. v / span J b) row ∙ div-mul-add k (span J b) j (offset_below J b x h) in
    let on_j : n / span I b % span J b ≡ j = ap (λ v. v % span J b) row ∙ mod-mul-add k (span J b) j (offset_below J b x h) in
    same_cell (ap (λ v. b.lo.k +ℤ pos v) on_k ∙ above b.lo.k x.k h.low.k) (ap (λ v. b.lo.j +ℤ pos v) on_j ∙ above b.lo.j x.j h.low.j) (ap (λ v. b.lo.i +ℤ pos v) column ∙ above b.lo.i x.i h.low.i)
  where
    above : (lo x : ℤ) → lo ≤ℤ x → lo +ℤ pos (unsigned_abs (x -ℤ lo)) ≡ x
    above lo x h = omega (arith, ints, h)

back : (lo : ℤ) (m : ℕ) → unsigned_abs ((lo +ℤ pos m) -ℤ lo) ≡ m
back lo m = omega (arith, ints)

pub place-cell_at : (b : Corners) (n : ℕ) → place b (cell_at b n) ≡ n
unfolding cell_at place
place-cell_at b n =
    let row = n / span I b in
    ap (λ v. place_at v (offset J b (cell_at b n)) (offset I b (cell_at b n)) (span J b) (span I b)) (back b.lo.k (row / span J b))
    ∙ ap (λ v. place_at (row / span J b) v (offset I b (cell_at b n)) (span J b) (span I b)) (back b.lo.j (row % span J b))
    ∙ ap (λ v. place_at (row / span J b) (row % span J b) v (span J b) (span I b)) (back b.lo.i (n % span I b))
    ∙ ap (λ v. v * span I b + n % span I b) (div-add-mod' row (span J b))
    ∙ div-add-mod' n (span I b)

within : (lo hi : ℤ) (n : ℕ) → lo ≤ℤ hi → n < unsigned_abs ((hi -ℤ lo) +ℤ pos 1) → (lo ≤ℤ (lo +ℤ pos n)) × ((lo +ℤ pos n) ≤ℤ hi)
within lo hi n order below = (omega (arith, ints), omega (arith, ints))

pub some_planes : (axis : Axis) (b : Corners) → AtMost b.lo b.hi → 0 < span axis b
some_planes I b h = omega (arith, ints, h.i)
some_planes J b h = omega (arith, ints, h.j)
some_planes K b h = omega (arith, ints, h.k)

-- the plane, row and column of a place
pub record PlacesFit (b : Corners) (n : ℕ) : Type 0 where
  pub k : n / span I b / span J b < span K b
  pub j : n / span I b % span J b < span J b
  pub i : n % span I b < span I b

pub places_fit : (b : Corners) (n : ℕ) → AtMost b.lo b.hi → n < cells_of b → PlacesFit b n
places_fit b n order h =
    let some_i = some_planes I b order in
    let some_j = some_planes J b order in
    let row = div_below n (span I b) (span K b * span J b) some_i (regroup (span I b) (span J b) (span K b) n h) in
    record { k = div_below (n / span I b) (span J b) (span K b) some_j row; j = mod_below (n / span I b) (span J b) some_j; i = mod_below n (span I b) some_i }
  where
    regroup : (i j k n : ℕ) → n < i * j * k → n < k * j * i
    regroup i j k n h = omega (arith, h)

pub cell_at_holds : (b : Corners) (n : ℕ) → AtMost b.lo b.hi → n < cells_of b → Holds b (cell_at b n)
unfolding cell_at
cell_at_holds b n order h =
    let fit = places_fit b n order h in
    let k = within b.lo.k b.hi.k (n / span I b / span J b) order.k fit.k in
    let j = within b.lo.j b.hi.j (n / span I b % span J b) order.j fit.j in
    let i = within b.lo.i b.hi.i (n % span I b) order.i fit.i in
    record { low = record { k = k.0; j = j.0; i = i.0 }; high = record { k = k.1; j = j.1; i = i.1 } }

pub place_once : (b : Corners) (x y : IVec) → Holds b x → Holds b y → place b x ≡ place b y → x ≡ y
place_once b x y h g e = sym (cell_at-place b x h) ∙ ap (cell_at b) e ∙ cell_at-place b y g

-- a part of a box, cell by cell
pub part_order : (b part : Corners) → holds_box b part ≡ true → AtMost part.lo part.hi → AtMost b.lo b.hi
part_order b part t h =
    let s = and_parts (at_most b.lo part.lo) (at_most part.hi b.hi) t in
    AtMost-trans (AtMost-test s.0) (AtMost-trans h (AtMost-test s.1))

pub part_Holds : (b part : Corners) (x : IVec) → holds_box b part ≡ true → Holds part x → Holds b x
part_Holds b part x t h =
    let s = and_parts (at_most b.lo part.lo) (at_most part.hi b.hi) t in
    record { low = AtMost-trans (AtMost-test s.0) h.low; high = AtMost-trans h.high (AtMost-test s.1) }

pub part_lo : (b part : Corners) → holds_box b part ≡ true → AtMost part.lo part.hi → Holds b part.lo
part_lo b part t h =
    let s = and_parts (at_most b.lo part.lo) (at_most part.hi b.hi) t in
    record { low = AtMost-test s.0; high = AtMost-trans h (AtMost-test s.1) }

-- what is known of a row of a box
pub record RowOf (b row : Corners) : Type 0 where
  pub inside : holds_box b row ≡ true
  pub flat : IsRow row
  pub order : AtMost row.lo row.hi

row_end : (b row : Corners) → RowOf b row → offset I b row.lo + span I row ≤ span I b
row_end b row r =
    let s = and_parts (at_most b.lo row.lo) (at_most row.hi b.hi) r.inside in
    let low = AtMost-test {a = b.lo} {b = row.lo} s.0 in
    let high = AtMost-test {a = row.hi} {b = b.hi} s.1 in
    omega (arith, ints, low.i, high.i, r.order.i)

-- the cells of a row have the places of a run
pub row_place_is : (b row : Corners) (x : IVec) → RowOf b row → Holds row x → place b x ≡ place b row.lo + offset I row x
unfolding place
row_place_is b row x r h =
    let k : offset K b x ≡ offset K b row.lo = omega (arith, ints, h.low.k, h.high.k, r.flat.0) in
    let j : offset J b x ≡ offset J b row.lo = omega (arith, ints, h.low.j, h.high.j, r.flat.1) in
    let first = part_lo b row r.inside r.order in
    let i : offset I b x ≡ offset I b row.lo + offset I row x = omega (arith, ints, h.low.i, first.low.i) in
    ap (λ v. place_at v (offset J b x) (offset I b x) (span J b) (span I b)) k
    ∙ ap (λ v. place_at (offset K b row.lo) v (offset I b x) (span J b) (span I b)) j
    ∙ ap (λ v. (offset K b row.lo * span J b + offset J b row.lo) * span I b + v) i
    ∙ regroup ((offset K b row.lo * span J b + offset J b row.lo) * span I b) (offset I b row.lo) (offset I row x)
  where
    regroup : (a b c : ℕ) → a + (b + c) ≡ a + b + c
    regroup a b c = omega arith

row-place : (b row : Corners) (x : IVec) → RowOf b row → Holds row x → (place b row.lo ≤ place b x) × (place b x < place b row.lo + span I row)
row-place b row x r h = let here = row_place_is b row x r h in (omega (arith, here), omega (arith, here, offset_below I row x h))

-- two places so many columns apart
apart : (k j i k0 j0 i0 c rows columns : ℕ) → j < rows → j0 < rows → i < columns → i0 + c < columns → place_at k j i rows columns ≡ place_at k0 j0 i0 rows columns + c → (k ≡ k0) × (j ≡ j0) × (i ≡ i0 + c)
apart k j i k0 j0 i0 c rows columns p q r s e =
    let rest = same_from_place (k * rows + j) i (k0 * rows + j0) (i0 + c) columns r s (e ∙ regroup ((k0 * rows + j0) * columns) i0 c) in
    let first = same_from_place k j k0 j0 rows p q rest.0 in
    (first.0, first.1, rest.1)
  where
    regroup : (a b c : ℕ) → a + b + c ≡ a + (b + c)
    regroup a b c = omega arith

place-row : (b row : Corners) (x : IVec) → RowOf b row → Holds b x → place b row.lo ≤ place b x → place b x < place b row.lo + span I row → Holds row x
unfolding place
place-row b row x r h p q =
    let first = part_lo b row r.inside r.order in
    let end = row_end b row r in
    let c = place b x - place b row.lo in
    let parts = apart (offset K b x) (offset J b x) (offset I b x) (offset K b row.lo) (offset J b row.lo) (offset I b row.lo) c (span J b) (span I b)
    (offset_below J b x h) (offset_below J b row.lo first) (offset_below I b x h) (omega (arith, end)) (omega arith) in
    record {
      low = record {
        k = omega (arith, ints, parts.0, h.low.k, first.low.k);
        j = omega (arith, ints, parts.1, h.low.j, first.low.j);
        i = omega (arith, ints, parts.2, h.low.i, first.low.i);
      };
      high = record {
        k = omega (arith, ints, parts.0, h.low.k, first.low.k, r.flat.0);
        j = omega (arith, ints, parts.1, h.low.j, first.low.j, r.flat.1);
        i = omega (arith, ints, parts.2, h.low.i, first.low.i, r.order.i);
      };
    }

pub row_run : (b row : Corners) (x : IVec) → RowOf b row → Holds b x → (nat_le (place b row.lo) (place b x) && nat_lt (place b x) (place b row.lo + span I row)) ≡ holds row x
row_run b row x r h =
    let first = place b row.lo in
    let p = place b x in
    let n = span I row in
    same_test (nat_le first p && nat_lt p (first + n)) (holds row x)
    (λ t. let s = and_parts (nat_le first p) (nat_lt p (first + n)) t in holds-from (place-row b row x r h (leb-true first p s.0) (ltb-true p (first + n) s.1)))
    (λ t. let s = row-place b row x r (Holds-test t) in and_from (nat_le first p) (nat_lt p (first + n)) (le-leb first p s.0) (lt-ltb p (first + n) s.1))

pub row_ends : (b row : Corners) → RowOf b row → place b row.lo + span I row ≤ cells_of b
row_ends b row r =
    let below = place_below b row.hi (part_Holds b row row.hi r.inside (Holds-hi r.order)) in
    let here : place b row.hi ≡ place b row.lo + offset I row row.hi = row_place_is b row row.hi r (Holds-hi r.order) in
    omega (arith, ints, here, below, r.order.i)

-- a part has no more cells
part_span : (axis : Axis) (b part : Corners) → holds_box b part ≡ true → AtMost part.lo part.hi → span axis part ≤ span axis b
part_span axis b part t h =
    let s = and_parts (at_most b.lo part.lo) (at_most part.hi b.hi) t in
    narrow axis (AtMost-test s.0) (AtMost-test s.1) h
  where
    narrow : (axis : Axis) → AtMost b.lo part.lo → AtMost part.hi b.hi → AtMost part.lo part.hi → span axis part ≤ span axis b
    narrow I p q h = omega (arith, ints, p.i, q.i, h.i)
    narrow J p q h = omega (arith, ints, p.j, q.j, h.j)
    narrow K p q h = omega (arith, ints, p.k, q.k, h.k)

pub part_cells : (b part : Corners) → holds_box b part ≡ true → AtMost part.lo part.hi → cells_of part ≤ cells_of b
part_cells b part t h =
    mul-le (span I part * span J part) (span K part) (span I b * span J b) (span K b)
    (mul-le (span I part) (span J part) (span I b) (span J b) (part_span I b part t h) (part_span J b part t h))
    (part_span K b part t h)
