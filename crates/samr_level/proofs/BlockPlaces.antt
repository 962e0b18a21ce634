-- The places of blocks: where blocks begin, which meet a window, and their numbers.
use Rattle.std.proofs.Common.{◌≡◌, ℕ, ◌+◌, ◌*◌, ◌<◌, ◌≤◌, ◌^◌, min, max, inl, inr, ap, arith}
use Rattle.std.proofs.lemmas.Int.{ints, clamps}
use Rattle.std.proofs.lemmas.Nat.{mul-add-lt}
use Rattle.std.proofs.lemmas.Bool.{cases_lt}
use Rattle.std.proofs.lemmas.Grind.{div_ceil_times}
use Rattle.std.proofs.Math.Nat.{mul-le-mul_right, mul-le-mul_left}
use Rattle.std.specs.Prelude.{ℤ, pos, negsuc, ◌+ℤ◌, ◌-ℤ◌, ◌*ℤ◌, ◌≤ℤ◌, ◌<ℤ◌, unsigned_abs}
use Rattle.std.specs.Int.{div_ceil, int_max}
use Rattle.samr_box.specs.declared.vector.Axis.{Axis}
use Rattle.samr_box.specs.declared.vector.Axis.TheVariants.{I, J, K}
use Rattle.samr_box.specs.declared.vector.IVec.{IVec}
use Rattle.samr_box.specs.Vector.{at, alike, AtMost, Between, plus, minus, times}
use Rattle.samr_box.specs.Corners.{Corners, IsBox}
use Rattle.samr_box.specs.Ratios.{floor, coarse}
use Rattle.samr_box.proofs.Floors.{mul-from_floor, last-from_floor}
use Rattle.samr_box.proofs.Products.{mul_le, mul-plus}
use Rattle.samr_level.specs.Blocks.{blocks_along, place, block_at}
use Rattle.samr_level.specs.Cuts.{Cut, IsCut, IsSpan, IsPlace, along, number_at}

-- on one axis: a block begins in the box, and there are no more blocks than planes
begins_on : (lo hi b : ℤ) (n : ℕ) → pos 1 ≤ℤ b → lo ≤ℤ hi → n < div_ceil (unsigned_abs ((hi -ℤ lo) +ℤ pos 1)) (unsigned_abs b) → (pos n *ℤ b) ≤ℤ (hi -ℤ lo)
begins_on lo hi (pos m) n p h below =
    let wide : 0 < m = omega (arith, ints) in
    let len = unsigned_abs ((hi -ℤ lo) +ℤ pos 1) in
    let count = div_ceil_times len m wide in
    let up_to : (n + 1) * m ≤ div_ceil len m * m = mul-le-mul_right m (omega (arith, below)) in
    let within : n * m < len = omega (arith, count.1, up_to) in
    omega (arith, ints, within)
begins_on lo hi (negsuc m) n p h below = absurd (omega (arith, ints))

pub begins : (axis : Axis) (block : IVec) (p : Corners) (n : ℕ) → AtMost (alike (pos 1)) block → AtMost p.lo p.hi → n < blocks_along axis block p
    → (pos n *ℤ at axis block) ≤ℤ (at axis p.hi -ℤ at axis p.lo)
begins I block p n b h below = begins_on p.lo.i p.hi.i block.i n b.i h.i below
begins J block p n b h below = begins_on p.lo.j p.hi.j block.j n b.j h.j below
begins K block p n b h below = begins_on p.lo.k p.hi.k block.k n b.k h.k below

pub IsPlace-place : (block : IVec) (p : Corners) (x y z : ℕ) → AtMost (alike (pos 1)) block → AtMost p.lo p.hi
    → x < blocks_along I block p → y < blocks_along J block p → z < blocks_along K block p → IsPlace block p (place x y z)
IsPlace-place block p x y z b h i j k = record {
  low = record { k = omega (arith, ints); j = omega (arith, ints); i = omega (arith, ints) };
  high = record { k = begins K block p z b h k; j = begins J block p y b h j; i = begins I block p x b h i };
}

-- a number of blocks along an axis is less than 2^32
few_on : (lo hi b : ℤ) (n : ℕ) → pos 1 ≤ℤ b → lo ≤ℤ hi → negsuc 1073741823 ≤ℤ lo → hi ≤ℤ pos 1073741824
    → n < div_ceil (unsigned_abs ((hi -ℤ lo) +ℤ pos 1)) (unsigned_abs b) → n < 2 ^ 32
few_on lo hi b n p h low high below =
    let start = begins_on lo hi b n p h below in
    let one = mul_le (pos n) (pos 1) b (omega (arith, ints)) p in
    omega (arith, ints, start, one)

pub few_along : (axis : Axis) (block : IVec) (p : Corners) (n : ℕ) → AtMost (alike (pos 1)) block → IsBox p → n < blocks_along axis block p → n < 2 ^ 32
few_along I block p n b h below = few_on p.lo.i p.hi.i block.i n b.i h.order.i h.low.i h.high.i below
few_along J block p n b h below = few_on p.lo.j p.hi.j block.j n b.j h.order.j h.low.j h.high.j below
few_along K block p n b h below = few_on p.lo.k p.hi.k block.k n b.k h.order.k h.low.k h.high.k below

-- a block is a box
pub IsBox-block_at : (block : IVec) (p : Corners) (n : IVec) → Between (alike (pos 1)) block (alike (pos 1073741824)) → IsBox p → IsPlace block p n → IsBox (block_at block p n)
unfolding block_at
IsBox-block_at block p n b h at_place =
    let k = mul_le block.k (pos 0) n.k (omega (arith, ints, b.low.k)) at_place.low.k in
    let j = mul_le block.j (pos 0) n.j (omega (arith, ints, b.low.j)) at_place.low.j in
    let i = mul_le block.i (pos 0) n.i (omega (arith, ints, b.low.i)) at_place.low.i in
    record {
      low = record { k = omega (arith, ints, h.low.k, k); j = omega (arith, ints, h.low.j, j); i = omega (arith, ints, h.low.i, i) };
      order = record {
        k = omega (arith, ints, clamps, at_place.high.k, b.low.k);
        j = omega (arith, ints, clamps, at_place.high.j, b.low.j);
        i = omega (arith, ints, clamps, at_place.high.i, b.low.i);
      };
      high = record { k = omega (arith, ints, clamps, h.high.k); j = omega (arith, ints, clamps, h.high.j); i = omega (arith, ints, clamps, h.high.i) };
    }

-- the sums on the way to it fit
pub start-bounds : (block : IVec) (p : Corners) (n : IVec) → Between (alike (pos 1)) block (alike (pos 1073741824)) → IsBox p → IsPlace block p n
    → Between (alike (pos 0)) (times n block) (alike (pos 2147483648))
start-bounds block p n b h at_place =
    let k = mul_le block.k (pos 0) n.k (omega (arith, ints, b.low.k)) at_place.low.k in
    let j = mul_le block.j (pos 0) n.j (omega (arith, ints, b.low.j)) at_place.low.j in
    let i = mul_le block.i (pos 0) n.i (omega (arith, ints, b.low.i)) at_place.low.i in
    record {
      low = record { k = omega (arith, ints, k); j = omega (arith, ints, j); i = omega (arith, ints, i) };
      high = record {
        k = omega (arith, ints, at_place.high.k, h.low.k, h.high.k);
        j = omega (arith, ints, at_place.high.j, h.low.j, h.high.j);
        i = omega (arith, ints, at_place.high.i, h.low.i, h.high.i);
      };
    }

-- the blocks before the place of a window's lower corner end below it, those behind that of its upper corner begin above it
ends_below : (lo w b : ℤ) (n : ℕ) → pos 1 ≤ℤ b → pos n <ℤ floor (w -ℤ lo) b → ((lo +ℤ (pos n *ℤ b)) +ℤ (b -ℤ pos 1)) <ℤ w
ends_below lo w b n p h =
    let f = mul-from_floor (w -ℤ lo) b (pos n +ℤ pos 1) (omega (arith, ints)) (omega (arith, ints)) in
    let e = mul-plus (pos n) (pos 1) b in
    omega (arith, ints, f, e)

begins_above : (lo w b : ℤ) (n : ℕ) → pos 1 ≤ℤ b → floor (w -ℤ lo) b <ℤ pos n → w <ℤ (lo +ℤ (pos n *ℤ b))
begins_above lo w b n p h =
    let f = last-from_floor (w -ℤ lo) b (pos n -ℤ pos 1) (omega (arith, ints)) (omega (arith, ints)) in
    let e = mul-plus (pos n -ℤ pos 1) (pos 1) b in
    let d : (pos n -ℤ pos 1) +ℤ pos 1 ≡ pos n = omega (arith, ints) in
    let g = ap (λ (v : ℤ). v *ℤ b) d in
    omega (arith, ints, f, e, g)

below_on : (lo w b : ℤ) (count first n : ℕ) → pos 1 ≤ℤ b → first ≡ min (unsigned_abs (int_max (floor (w -ℤ lo) b) (pos 0))) count → n < first
    → ((lo +ℤ (pos n *ℤ b)) +ℤ (b -ℤ pos 1)) <ℤ w
below_on lo w b count first n p e below = ends_below lo w b n p (omega (arith, ints, clamps, e, below))

above_on : (lo w b : ℤ) (count first end n : ℕ) → pos 1 ≤ℤ b → end ≡ max (min (unsigned_abs (int_max (floor (w -ℤ lo) b +ℤ pos 1) (pos 0))) count) first
    → end ≤ n → n < count → w <ℤ (lo +ℤ (pos n *ℤ b))
above_on lo w b count first end n p e above fewer = begins_above lo w b n p (omega (arith, ints, clamps, e, above, fewer))

pub IsSpan-clipped : (axis : Axis) (block : IVec) (p w : Corners) (first end : ℕ) → AtMost (alike (pos 1)) block
    → first ≡ min (unsigned_abs (int_max (at axis (coarse (minus w.lo p.lo) block)) (pos 0))) (blocks_along axis block p)
    → end ≡ max (min (unsigned_abs (int_max (at axis (plus (coarse (minus w.hi p.lo) block) (alike (pos 1)))) (pos 0))) (blocks_along axis block p)) first
    → IsSpan axis block p w first end
IsSpan-clipped I block p w first end b e f = record {
  order = omega (arith, f);
  within = omega (arith, e, f);
  below = λ n h. below_on p.lo.i w.lo.i block.i (blocks_along I block p) first n b.i e h;
  above = λ n h g. above_on p.lo.i w.hi.i block.i (blocks_along I block p) first end n b.i f h g;
}
IsSpan-clipped J block p w first end b e f = record {
  order = omega (arith, f);
  within = omega (arith, e, f);
  below = λ n h. below_on p.lo.j w.lo.j block.j (blocks_along J block p) first n b.j e h;
  above = λ n h g. above_on p.lo.j w.hi.j block.j (blocks_along J block p) first end n b.j f h g;
}
IsSpan-clipped K block p w first end b e f = record {
  order = omega (arith, f);
  within = omega (arith, e, f);
  below = λ n h. below_on p.lo.k w.lo.k block.k (blocks_along K block p) first n b.k e h;
  above = λ n h g. above_on p.lo.k w.hi.k block.k (blocks_along K block p) first end n b.k f h g;
}

-- the number of a block, and the sums on the way to it
pub numbers : (first nx ny nz count x y z : ℕ) → first + nx * ny * nz ≤ count → count < 2 ^ 48 → x < nx → y < ny → z < nz
    → (z * ny + y < 2 ^ 48) × ((z * ny + y) * nx + x < 2 ^ 48) × (first + ((z * ny + y) * nx + x) < count)
numbers first nx ny nz count x y z room few i j k =
    let plane = mul-add-lt z ny y nz k j in
    let all = mul-add-lt (z * ny + y) nx x (ny * nz) plane i in
    let one : 1 ≤ nx = omega (arith, i) in
    let up = mul-le-mul_left (z * ny + y) one in
    (omega (arith, all, up, room, few), omega (arith, all, room, few), omega (arith, all, room))

pub number_fits : (s : Cut) (x y z : ℕ) → IsCut s → x < along I s → y < along J s → z < along K s
    → (z * along J s + y < 2 ^ 48) × ((z * along J s + y) * along I s + x < 2 ^ 48) × (number_at s x y z < s.count)
number_fits s x y z h i j k = numbers s.first (along I s) (along J s) (along K s) s.count x y z h.numbers h.few i j k

-- a product of three numbers up to 2^32
pub few_blocks : (i j k : ℕ) → i ≤ 2 ^ 32 → j ≤ 2 ^ 32 → k ≤ 2 ^ 32 → (i * j ≤ 2 ^ 64) × (i * j * k ≤ 2 ^ 96)
few_blocks i j k p q r =
    let a = mul-le-mul_left i q in
    let b = mul-le-mul_right (2 ^ 32) p in
    let c = mul-le-mul_left (i * j) r in
    let plane : i * j ≤ 2 ^ 64 = omega (arith, a, b) in
    let d = mul-le-mul_right (2 ^ 32) plane in
    (plane, omega (arith, c, d))

pub at_most_few : (axis : Axis) (block : IVec) (p : Corners) (n : ℕ) → AtMost (alike (pos 1)) block → IsBox p → n ≡ blocks_along axis block p → n ≤ 2 ^ 32
at_most_few axis block p n b h e =
    elim (cases_lt (2 ^ 32) n) [
      | inl more ↦ let f = few_along axis block p (2 ^ 32) b h (omega (arith, more, e)) in absurd (omega (arith, f))
      | inr up ↦ up
    ]
