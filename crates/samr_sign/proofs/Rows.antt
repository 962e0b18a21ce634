-- The count of a field's cells, row by row.
use Rattle.std.proofs.Common.{◌≡◌, ℕ, ◌+◌, ◌*◌, ◌^◌, ◌<◌, ◌≤◌, true, [], ◌∷◌, length, ap, sym, ◌∙◌, arith}
use Rattle.std.proofs.lemmas.Int.{ints}
use Rattle.std.proofs.lemmas.Nat.{mul-le}
use Rattle.std.proofs.lemmas.Bool.{and_from, and_parts}
use Rattle.std.specs.Prelude.{◌&&◌, ◌↔◌, count_by}
use Rattle.samr_box.specs.declared.vector.Axis.TheVariants.{I, J, K}
use Rattle.samr_box.specs.declared.vector.IVec.{IVec}
use Rattle.samr_box.specs.Vector.{AtMost, at_most}
use Rattle.samr_box.specs.Corners.{Corners, Holds, holds, holds_box, span, cells_of}
use Rattle.samr_box.proofs.CellSets.{AtMost-test, at_most-from, Holds-test, Holds-lo, Holds-hi, holds-from}
use Rattle.samr_bits.specs.Sums.{sum_below}
use Rattle.samr_bits.specs.Bits.{is_set, one, set_among}
use Rattle.samr_bits.proofs.Sums.{sum_one, sum_ext, sum_more, sum_front}
use Rattle.samr_sign.specs.Counts.{cell_at, offset, weigh, tally}
use Rattle.samr_sign.specs.Fields.{Field, IsField, row_words, place, tagged}
use Rattle.samr_sign.proofs.Places.{RowOf, row_place_is, row_room, part_Holds}
use Rattle.samr_sign.proofs.Tallies.{cell_Holds, tally_most, tally_narrow, tally_none, one_most}

-- a row's count is that of its run of bits
pub row_tally : (f : Field) (row : Corners) → RowOf f.bx row → set_among f.words (place f.bx row.lo) (span I row) ≡ tally (tagged f) row
unfolding tally weigh
row_tally f row r =
    let line : ℕ → ℕ → ℕ = λ z y. sum_below (λ x. one (tagged f (cell_at row x y z))) (span I row) in
    let one_plane : span K row ≡ 1 = omega (arith, ints, r.flat.0) in
    let one_row : span J row ≡ 1 = omega (arith, ints, r.flat.1) in
    sum_ext (λ c. one (is_set f.words (place f.bx row.lo + c))) (λ x. one (tagged f (cell_at row x 0 0))) (span I row) (λ x h. ap one (cell_bit x h))
    ∙ sym (ap (sum_below (λ z. sum_below (line z) (span J row))) one_plane ∙ sum_one (λ z. sum_below (line z) (span J row)) ∙ ap (sum_below (line 0)) one_row ∙ sum_one (line 0))
  where
    cell_bit : (x : ℕ) → x < span I row → is_set f.words (place f.bx row.lo + x) ≡ tagged f (cell_at row x 0 0)
    cell_bit x h =
        let inside = cell_Holds row x 0 0 h (omega (arith, ints, r.order.j)) (omega (arith, ints, r.order.k)) r.order in
        let whole = part_Holds f.bx row (cell_at row x 0 0) r.inside inside in
        let here : place f.bx (cell_at row x 0 0) ≡ place f.bx row.lo + x =
        row_place_is f.bx row (cell_at row x 0 0) r inside ∙ ap (λ n. place f.bx row.lo + n) (let e : offset I row (cell_at row x 0 0) ≡ x = omega (arith, ints) in e) in
        sym (ap (λ t. t && is_set f.words (place f.bx (cell_at row x 0 0))) (holds-from whole) ∙ ap (is_set f.words) here)

-- a loop's step over the planes of a part
pub planes_counted : (count : ℕ → ℕ) (total n so_far next : ℕ) → so_far ≡ sum_below count n → next ≡ count n → so_far + next ≡ sum_below count (n + 1)
planes_counted count total n so_far next p q = omega (arith, p, q, sum_more count n)

pub planes_fit : (count : ℕ → ℕ) (n size so_far next : ℕ) → n < size → sum_below count size < 2 ^ 63 → so_far ≡ sum_below count n → next ≡ count n → so_far + next < 2 ^ 63
planes_fit count n size so_far next h few p q = omega (arith, p, q, sum_more count n, sum_front count (n + 1) size (omega arith))

-- a part of a field has fewer cells tagged than the field has bits
pub part_few : (f : Field) (part : Corners) → IsField f → AtMost part.lo part.hi → holds_box f.bx part ≡ true → tally (tagged f) part < 2 ^ 63
part_few f part h order t =
    let s = and_parts (at_most f.bx.lo part.lo) (at_most part.hi f.bx.hi) t in
    let low = AtMost-test {a = f.bx.lo} {b = part.lo} s.0 in
    let high = AtMost-test {a = part.hi} {b = f.bx.hi} s.1 in
    let i : span I part ≤ 64 * row_words f.bx = omega (arith, ints, low.i, high.i, order.i, row_room f.bx) in
    let j : span J part ≤ span J f.bx = omega (arith, ints, low.j, high.j, order.j) in
    let k : span K part ≤ span K f.bx = omega (arith, ints, low.k, high.k, order.k) in
    let plane = mul-le (span I part) (span J part) (64 * row_words f.bx) (span J f.bx) i j in
    let all = mul-le (span I part * span J part) (span K part) (64 * row_words f.bx * span J f.bx) (span K f.bx) plane k in
    small (tally (tagged f) part) (cells_of part) (row_words f.bx) (span J f.bx) (span K f.bx) (length f.words) (tally_most (tagged f) part) all h.rows h.few
  where
    small : (n c r j k l : ℕ) → n ≤ c → c ≤ 64 * r * j * k → l ≡ k * j * r → l < 2 ^ 57 → n < 2 ^ 63
    small n c r j k l p q e h = omega (arith, p, q, e, h)

-- a part that has cells of a field's box alone
pub part_holds_box : (b part : Corners) → AtMost part.lo part.hi → ((x : IVec) → Holds part x → Holds b x) → holds_box b part ≡ true
part_holds_box b part h inside =
    and_from (at_most b.lo part.lo) (at_most part.hi b.hi) (at_most-from (inside part.lo (Holds-lo h)).low) (at_most-from (inside part.hi (Holds-hi h)).high)

pub tagged_Holds : (f : Field) (x : IVec) → tagged f x ≡ true → Holds f.bx x
tagged_Holds f x t = Holds-test (and_parts (holds f.bx x) (is_set f.words (place f.bx x)) t).0

pub tally_part : (f : Field) (region part : Corners) → AtMost region.lo region.hi → AtMost part.lo part.hi → ((x : IVec) → Holds part x ↔ (Holds f.bx x × Holds region x)) → tally (tagged f) region ≡ tally (tagged f) part
tally_part f region part h order cells =
    tally_narrow (tagged f) region part h order (λ x s. ((cells x).0 s).1) (λ x s t. (cells x).1 (tagged_Holds f x t, s))

pub tally_apart : (f : Field) (region : Corners) → AtMost region.lo region.hi → ((x : IVec) → Holds f.bx x × Holds region x → ⊥) → tally (tagged f) region ≡ 0
tally_apart f region h none = tally_none (tagged f) region h (λ x s t. none x (tagged_Holds f x t, s))

-- one field is apart from all others
pub one_apart : (f : Field) (x : IVec) → count_by (λ g. holds g.bx x) (f ∷ []) ≤ 1
one_apart f x = omega (arith, one_most (holds f.bx x))

-- a box of few planes has few cells
pub few_cells : (b : Corners) → span I b ≤ 1000 → span J b ≤ 1000 → span K b ≤ 1000 → cells_of b < 2 ^ 63
few_cells b i j k =
    let plane : span I b * span J b ≤ 1000 * 1000 = mul-le (span I b) (span J b) 1000 1000 i j in
    let all : span I b * span J b * span K b ≤ 1000 * 1000 * 1000 = mul-le (span I b * span J b) (span K b) (1000 * 1000) 1000 plane k in
    omega (arith, all)
