-- Numbers in range, and the place of a fine cell in its coarse cell.
use Rattle.std.proofs.Common.{arith}
use Rattle.std.proofs.lemmas.Int.{ints, clamps}
use Rattle.std.specs.Prelude.{ℤ, pos, ◌≤ℤ◌, ◌*ℤ◌, ◌-ℤ◌}
use Rattle.samr_box.specs.declared.vector.IVec.{IVec}
use Rattle.samr_box.specs.Vector.{alike, AtMost, Between, times, greatest, least, IsRatio, InRange, FitsVector}
use Rattle.samr_box.specs.Corners.{Corners, IsBox, Holds}
use Rattle.samr_box.specs.Ratios.{floor, coarse, refined}
use Rattle.samr_box.proofs.Floors.{mul-from_floor, last-from_floor, floor_low, floor_high}
use Rattle.samr_box.proofs.Products.{mul_le}
use Rattle.samr_level.proofs.Reaches.{bounded-times, FitsVector-bounded}
use Rattle.samr_values.specs.Patches.{child}

pub times_fits : (x r : IVec) → InRange x → IsRatio r → FitsVector (times x r)
times_fits x r h q = FitsVector-bounded (pos 274877906944) (omega (arith, ints)) (bounded-times (pos 1073741824) (omega (arith, ints)) h q)

pub coarse_range : (x r : IVec) → InRange x → IsRatio r → InRange (coarse x r)
coarse_range x r h q = record {
  low = record {
    k = floor_low x.k r.k _ (omega (arith, ints, q.low.k)) (omega (arith, ints)) h.low.k;
    j = floor_low x.j r.j _ (omega (arith, ints, q.low.j)) (omega (arith, ints)) h.low.j;
    i = floor_low x.i r.i _ (omega (arith, ints, q.low.i)) (omega (arith, ints)) h.low.i;
  };
  high = record {
    k = floor_high x.k r.k _ (omega (arith, ints, q.low.k)) (omega (arith, ints)) h.high.k;
    j = floor_high x.j r.j _ (omega (arith, ints, q.low.j)) (omega (arith, ints)) h.high.j;
    i = floor_high x.i r.i _ (omega (arith, ints, q.low.i)) (omega (arith, ints)) h.high.i;
  };
}

-- on one axis
record IsLess (x r n : ℤ) : Type 0 where
  low : pos 0 ≤ℤ (x -ℤ (floor x r *ℤ r))
  high : (x -ℤ (floor x r *ℤ r)) ≤ℤ (n -ℤ pos 1)

less : (x r n : ℤ) → pos 1 ≤ℤ r → r ≤ℤ n → IsLess x r n
less x r n p q =
    let below = mul-from_floor x r (floor x r) (omega (arith, ints, p)) (omega (arith, ints)) in
    let above = last-from_floor x r (floor x r) (omega (arith, ints, p)) (omega (arith, ints)) in
    record { low = omega (arith, ints, below); high = omega (arith, ints, above, q) }

pub child_offset : (x r : IVec) → IsRatio r → AtMost r (alike (pos 4)) → Between (alike (pos 0)) (child x r) (alike (pos 3))
child_offset x r q four =
    let k = less x.k r.k (pos 4) q.low.k four.k in
    let j = less x.j r.j (pos 4) q.low.j four.j in
    let i = less x.i r.i (pos 4) q.low.i four.i in
    record {
      low = record { k = k.low; j = j.low; i = i.low };
      high = record { k = omega (arith, ints, k.high); j = omega (arith, ints, j.high); i = omega (arith, ints, i.high) };
    }

pub child_fits : (x r : IVec) → IsRatio r → FitsVector (child x r)
child_fits x r q =
    let k = less x.k r.k (pos 256) q.low.k q.high.k in
    let j = less x.j r.j (pos 256) q.low.j q.high.j in
    let i = less x.i r.i (pos 256) q.low.i q.high.i in
    record {
      k = omega (arith, ints, k.low, k.high);
      j = omega (arith, ints, j.low, j.high);
      i = omega (arith, ints, i.low, i.high);
    }

pub cell_range : (b : Corners) (x : IVec) → IsBox b → Holds b x → InRange x
cell_range b x is h = record {
  low = record { k = omega (arith, ints, is.low.k, h.low.k); j = omega (arith, ints, is.low.j, h.low.j); i = omega (arith, ints, is.low.i, h.low.i) };
  high = record { k = omega (arith, ints, is.high.k, h.high.k); j = omega (arith, ints, is.high.j, h.high.j); i = omega (arith, ints, is.high.i, h.high.i) };
}

pub refined_full : (b : Corners) (r : IVec) → AtMost b.lo b.hi → IsRatio r → AtMost (refined b r).lo (refined b r).hi
refined_full b r full q =
    let k = mul_le r.k b.lo.k b.hi.k (omega (arith, ints, q.low.k)) full.k in
    let j = mul_le r.j b.lo.j b.hi.j (omega (arith, ints, q.low.j)) full.j in
    let i = mul_le r.i b.lo.i b.hi.i (omega (arith, ints, q.low.i)) full.i in
    record { k = omega (arith, ints, k, q.low.k); j = omega (arith, ints, j, q.low.j); i = omega (arith, ints, i, q.low.i) }

pub IsBox-between : (lo hi : IVec) (b : Corners) → AtMost lo hi → IsBox b → AtMost lo b.hi → AtMost b.lo hi
    → IsBox (record { lo = greatest lo b.lo; hi = least hi b.hi })
IsBox-between lo hi b full p low high = record {
  low = record { k = omega (arith, ints, clamps, p.low.k); j = omega (arith, ints, clamps, p.low.j); i = omega (arith, ints, clamps, p.low.i) };
  order = record {
    k = omega (arith, ints, clamps, full.k, p.order.k, low.k, high.k);
    j = omega (arith, ints, clamps, full.j, p.order.j, low.j, high.j);
    i = omega (arith, ints, clamps, full.i, p.order.i, low.i, high.i);
  };
  high = record { k = omega (arith, ints, clamps, p.high.k); j = omega (arith, ints, clamps, p.high.j); i = omega (arith, ints, clamps, p.high.i) };
}
