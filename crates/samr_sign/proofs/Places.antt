-- The bits of cells: each cell has its own, and the cells of a row have a run.
use Rattle.std.proofs.Common.{◌≡◌, ℕ, zero, suc, ◌+◌, ◌-◌, ◌*◌, ◌/◌, ◌%◌, ◌<◌, ◌≤◌, true, false, get_or, replicate, refl, ap, ◌∙◌, arith}
use Rattle.std.proofs.lemmas.Int.{ints}
use Rattle.std.proofs.lemmas.Nat.{mul-add-lt, same_from_place, mod-mul-add}
use Rattle.std.proofs.lemmas.Nat.Bits.{bit_at-zero}
use Rattle.std.proofs.lemmas.Bool.{and_from, and_parts, and_right, leb-true, ltb-true, le-leb, lt-ltb, false_from_ne_true}
use Rattle.std.specs.Prelude.{nat_eq, nat_le, nat_lt, ◌&&◌}
use Rattle.std.specs.Int.{bit_at}
use Rattle.samr_box.specs.declared.vector.Axis.TheVariants.{I, J, K}
use Rattle.samr_box.specs.declared.vector.IVec.{IVec}
use Rattle.samr_box.specs.Vector.{AtMost, at_most}
use Rattle.samr_box.specs.Corners.{Corners, Holds, holds, holds_box, span}
use Rattle.samr_box.proofs.CellSets.{AtMost-test, Holds-test, Holds-hi, holds-from}
use Rattle.samr_box.proofs.Vectors.{AtMost-trans}
use Rattle.samr_bits.specs.Bits.{is_set}
use Rattle.samr_sign.specs.Counts.{offset}
use Rattle.samr_sign.specs.Fields.{Field, IsRow, row_words, words_of, place_at, place, tagged}
use Rattle.samr_sign.proofs.Slices.{same_test, offset_below}

-- a row's words have room for its cells
pub row_room : (b : Corners) → span I b ≤ 64 * row_words b
row_room b = omega arith

place_at_below : (k j i rows bits planes : ℕ) → k < planes → j < rows → i < bits → place_at k j i rows bits < bits * (rows * planes)
place_at_below k j i rows bits planes p q r = mul-add-lt (k * rows + j) bits i (rows * planes) (mul-add-lt k rows j planes p q) r

pub place_below : (b : Corners) (x : IVec) → Holds b x → place b x < 64 * words_of b
place_below b x h =
    let below = place_at_below (offset K b x) (offset J b x) (offset I b x) (span J b) (64 * row_words b) (span K b) (offset_below K b x h) (offset_below J b x h) (omega (arith, offset_below I b x h, row_room b)) in
    regroup (span K b) (span J b) (row_words b) (place b x) below
  where
    regroup : (k j r p : ℕ) → p < 64 * r * (j * k) → p < 64 * (k * j * r)
    regroup k j r p h = omega (arith, h)

-- a field of zeros has no tag
zero_word : (n i : ℕ) → get_or (replicate {A = ℕ} n 0) i 0 ≡ 0
zero_word zero i = refl
zero_word (suc n) zero = refl
zero_word (suc n) (suc i) = zero_word n i

pub zeros_unset : (n p : ℕ) → is_set (replicate n 0) p ≡ false
zeros_unset n p = ap (λ w. nat_eq (bit_at w (p % 64)) 1) (zero_word n (p / 64)) ∙ ap (λ v. nat_eq v 1) (bit_at-zero (p % 64))

pub none_tagged : (f : Field) (n : ℕ) → f.words ≡ replicate n 0 → (x : IVec) → tagged f x ≡ false
none_tagged f n e x = and_right (holds f.bx x) (is_set f.words (place f.bx x)) (ap (λ w. is_set w (place f.bx x)) e ∙ zeros_unset n (place f.bx x))

-- two places so many bits apart
apart : (k j i k0 j0 i0 c rows bits : ℕ) → j < rows → j0 < rows → i < bits → i0 + c < bits → place_at k j i rows bits ≡ place_at k0 j0 i0 rows bits + c → (k ≡ k0) × (j ≡ j0) × (i ≡ i0 + c)
apart k j i k0 j0 i0 c rows bits p q r s e =
    let rest = same_from_place (k * rows + j) i (k0 * rows + j0) (i0 + c) bits r s (e ∙ regroup ((k0 * rows + j0) * bits) i0 c) in
    let first = same_from_place k j k0 j0 rows p q rest.0 in
    (first.0, first.1, rest.1)
  where
    regroup : (a b c : ℕ) → a + b + c ≡ a + (b + c)
    regroup a b c = omega arith

-- a part of a box, cell by cell
pub part_lo : (b part : Corners) → holds_box b part ≡ true → AtMost part.lo part.hi → Holds b part.lo
part_lo b part t h =
    let s = and_parts (at_most b.lo part.lo) (at_most part.hi b.hi) t in
    record { low = AtMost-test s.0; high = AtMost-trans h (AtMost-test s.1) }

pub part_Holds : (b part : Corners) (x : IVec) → holds_box b part ≡ true → Holds part x → Holds b x
part_Holds b part x t h =
    let s = and_parts (at_most b.lo part.lo) (at_most part.hi b.hi) t in
    record { low = AtMost-trans (AtMost-test s.0) h.low; high = AtMost-trans h.high (AtMost-test s.1) }

-- what is known of a row of a box
pub record RowOf (b row : Corners) : Type 0 where
  pub inside : holds_box b row ≡ true
  pub flat : IsRow row
  pub order : AtMost row.lo row.hi

row_end : (b row : Corners) → RowOf b row → offset I b row.lo + span I row ≤ span I b
row_end b row r =
    let s = and_parts (at_most b.lo row.lo) (at_most row.hi b.hi) r.inside in
    let low = AtMost-test {a = b.lo} {b = row.lo} s.0 in
    let high = AtMost-test {a = row.hi} {b = b.hi} s.1 in
    omega (arith, ints, low.i, high.i, r.order.i)

-- the cells of a row have the bits of a run
pub row_place_is : (b row : Corners) (x : IVec) → RowOf b row → Holds row x → place b x ≡ place b row.lo + offset I row x
row_place_is b row x r h =
    let whole = part_Holds b row x r.inside h in
    let k : offset K b x ≡ offset K b row.lo = omega (arith, ints, h.low.k, h.high.k, r.flat.0) in
    let j : offset J b x ≡ offset J b row.lo = omega (arith, ints, h.low.j, h.high.j, r.flat.1) in
    let first = part_lo b row r.inside r.order in
    let i : offset I b x ≡ offset I b row.lo + offset I row x = omega (arith, ints, h.low.i, first.low.i) in
    ap (λ v. place_at v (offset J b x) (offset I b x) (span J b) (64 * row_words b)) k
    ∙ ap (λ v. place_at (offset K b row.lo) v (offset I b x) (span J b) (64 * row_words b)) j
    ∙ ap (λ v. (offset K b row.lo * span J b + offset J b row.lo) * (64 * row_words b) + v) i
    ∙ regroup ((offset K b row.lo * span J b + offset J b row.lo) * (64 * row_words b)) (offset I b row.lo) (offset I row x)
  where
    regroup : (a b c : ℕ) → a + (b + c) ≡ a + b + c
    regroup a b c = omega arith

row-place : (b row : Corners) (x : IVec) → RowOf b row → Holds row x → (place b row.lo ≤ place b x) × (place b x < place b row.lo + span I row)
row-place b row x r h = let here = row_place_is b row x r h in (omega (arith, here), omega (arith, here, offset_below I row x h))

place-row : (b row : Corners) (x : IVec) → RowOf b row → Holds b x → place b row.lo ≤ place b x → place b x < place b row.lo + span I row → Holds row x
place-row b row x r h p q =
    let first = part_lo b row r.inside r.order in
    let end = row_end b row r in
    let c = place b x - place b row.lo in
    let parts = apart (offset K b x) (offset J b x) (offset I b x) (offset K b row.lo) (offset J b row.lo) (offset I b row.lo) c (span J b) (64 * row_words b)
    (offset_below J b x h) (offset_below J b row.lo first) (omega (arith, offset_below I b x h, row_room b)) (omega (arith, end, row_room b)) (omega arith) in
    record {
      low = record {
        k = omega (arith, ints, parts.0, h.low.k, first.low.k);
        j = omega (arith, ints, parts.1, h.low.j, first.low.j);
        i = omega (arith, ints, parts.2, h.low.i, first.low.i);
      };
      high = record {
        k = omega (arith, ints, parts.0, h.low.k, first.low.k, r.flat.0);
        j = omega (arith, ints, parts.1, h.low.j, first.low.j, r.flat.1);
        i = omega (arith, ints, parts.2, h.low.i, first.low.i, r.order.i);
      };
    }

pub row_run : (b row : Corners) (x : IVec) → RowOf b row → Holds b x → (nat_le (place b row.lo) (place b x) && nat_lt (place b x) (place b row.lo + span I row)) ≡ holds row x
row_run b row x r h =
    let first = place b row.lo in
    let p = place b x in
    let n = span I row in
    same_test (nat_le first p && nat_lt p (first + n)) (holds row x)
    (λ t. let s = and_parts (nat_le first p) (nat_lt p (first + n)) t in holds-from (place-row b row x r h (leb-true first p s.0) (ltb-true p (first + n) s.1)))
    (λ t. let s = row-place b row x r (Holds-test t) in and_from (nat_le first p) (nat_lt p (first + n)) (le-leb first p s.0) (lt-ltb p (first + n) s.1))

-- a run of a row's cells ends before its zeros
pub run_bits : (b row : Corners) (p : ℕ) → RowOf b row → span I b ≤ p % (64 * row_words b) → (nat_le (place b row.lo) p && nat_lt p (place b row.lo + span I row)) ≡ false
run_bits b row p r h =
    let first = place b row.lo in
    let n = span I row in
    false_from_ne_true (nat_le first p && nat_lt p (first + n))
    (λ t.
    let s = and_parts (nat_le first p) (nat_lt p (first + n)) t in
    let low : first ≤ p = leb-true first p s.0 in
    let high : p < first + n = ltb-true p (first + n) s.1 in
    let end = row_end b row r in
    let a = offset K b row.lo * span J b + offset J b row.lo in
    let i = offset I b row.lo + (p - first) in
    let is : p ≡ a * (64 * row_words b) + i = omega arith in
    let rest : p % (64 * row_words b) ≡ i = ap (λ v. v % (64 * row_words b)) is ∙ mod-mul-add a (64 * row_words b) i (omega (arith, end, row_room b)) in
    omega (arith, rest, end, h))

pub row_ends : (b row : Corners) → RowOf b row → place b row.lo + span I row ≤ 64 * words_of b
row_ends b row r =
    let below = place_below b row.hi (part_Holds b row row.hi r.inside (Holds-hi r.order)) in
    let here : place b row.hi ≡ place b row.lo + offset I row row.hi = row_place_is b row row.hi r (Holds-hi r.order) in
    omega (arith, ints, here, below, r.order.i)
