-- What fits: corners of boxes, their sums, and numbers that fit an `i64`.
use Rattle.std.proofs.Common.{arith}
use Rattle.std.proofs.lemmas.Int.{ints}
use Rattle.std.specs.Prelude.{ℤ, pos, negsuc, ◌≤ℤ◌}
use Rattle.samr_box.specs.declared.vector.Axis.{Axis}
use Rattle.samr_box.specs.declared.vector.Axis.TheVariants.{I, J, K}
use Rattle.samr_box.specs.declared.vector.IVec.{IVec}
use Rattle.samr_box.specs.Vector.{at, put, alike, AtMost, plus, minus, times, IsRatio, IsShift, FitsVector, InRange}
use Rattle.samr_box.specs.Corners.{Corners, IsBox}
use Rattle.samr_box.specs.Ratios.{refined}
use Rattle.samr_box.specs.Space.{Space, IsSpace, whole}
use Rattle.samr_box.proofs.Products.{shifted_bounds}

pub InRange-lo : {b : Corners} → IsBox b → InRange b.lo
InRange-lo h = record {
  low = h.low;
  high = record { k = omega (arith, ints, h.order.k, h.high.k); j = omega (arith, ints, h.order.j, h.high.j); i = omega (arith, ints, h.order.i, h.high.i) };
}

pub InRange-hi : {b : Corners} → IsBox b → InRange b.hi
InRange-hi h = record {
  low = record { k = omega (arith, ints, h.low.k, h.order.k); j = omega (arith, ints, h.low.j, h.order.j); i = omega (arith, ints, h.low.i, h.order.i) };
  high = h.high;
}

pub FitsVector-range : {x : IVec} → InRange x → FitsVector x
FitsVector-range h = record {
  k = omega (arith, ints, h.low.k, h.high.k);
  j = omega (arith, ints, h.low.j, h.high.j);
  i = omega (arith, ints, h.low.i, h.high.i);
}

pub FitsVector-plus : {x y : IVec} → InRange x → InRange y → FitsVector (plus x y)
FitsVector-plus p q = record {
  k = omega (arith, ints, p.low.k, p.high.k, q.low.k, q.high.k);
  j = omega (arith, ints, p.low.j, p.high.j, q.low.j, q.high.j);
  i = omega (arith, ints, p.low.i, p.high.i, q.low.i, q.high.i);
}

pub FitsVector-minus : {x y : IVec} → InRange x → InRange y → FitsVector (minus x y)
FitsVector-minus p q = record {
  k = omega (arith, ints, p.low.k, p.high.k, q.low.k, q.high.k);
  j = omega (arith, ints, p.low.j, p.high.j, q.low.j, q.high.j);
  i = omega (arith, ints, p.low.i, p.high.i, q.low.i, q.high.i);
}

-- a number of lengths of a domain
pub InRange-offset : {s n : IVec} → IsShift s → AtMost (alike (pos 1)) n → AtMost n (alike (pos 1073741824)) → InRange (times s n)
InRange-offset {s} {n} h low high =
    let k = shifted_bounds s.k n.k (omega (arith, ints)) h.low.k h.high.k in
    let j = shifted_bounds s.j n.j (omega (arith, ints)) h.low.j h.high.j in
    let i = shifted_bounds s.i n.i (omega (arith, ints)) h.low.i h.high.i in
    record {
      low = record { k = omega (arith, ints, k); j = omega (arith, ints, j); i = omega (arith, ints, i) };
      high = record { k = omega (arith, ints, k); j = omega (arith, ints, j); i = omega (arith, ints, i) };
    }

-- the corners of a refined box on the way
pub FitsVector-refined_lo : (b : Corners) (r : IVec) → IsBox (refined b r) → FitsVector (times b.lo r)
FitsVector-refined_lo b r h = FitsVector-range (InRange-lo h)

pub FitsVector-refined_hi : (b : Corners) (r : IVec) → IsRatio r → IsBox (refined b r) → FitsVector (times b.hi r)
FitsVector-refined_hi b r p h =
    let q = InRange-hi h in
    record {
      k = omega (arith, ints, p.low.k, p.high.k, q.low.k, q.high.k);
      j = omega (arith, ints, p.low.j, p.high.j, q.low.j, q.high.j);
      i = omega (arith, ints, p.low.i, p.high.i, q.low.i, q.high.i);
    }

-- a box whose corner is replaced on one axis, inside its old range
pub IsBox-put_hi : (axis : Axis) {b : Corners} {n : ℤ} → IsBox b → at axis b.lo ≤ℤ n → n ≤ℤ at axis b.hi → IsBox (record { lo = b.lo; hi = put axis b.hi n })
IsBox-put_hi I h p q = record {
  low = h.low;
  order = record { k = h.order.k; j = h.order.j; i = p };
  high = record { k = h.high.k; j = h.high.j; i = omega (arith, ints, q, h.high.i) };
}
IsBox-put_hi J h p q = record {
  low = h.low;
  order = record { k = h.order.k; j = p; i = h.order.i };
  high = record { k = h.high.k; j = omega (arith, ints, q, h.high.j); i = h.high.i };
}
IsBox-put_hi K h p q = record {
  low = h.low;
  order = record { k = p; j = h.order.j; i = h.order.i };
  high = record { k = omega (arith, ints, q, h.high.k); j = h.high.j; i = h.high.i };
}

pub IsBox-put_lo : (axis : Axis) {b : Corners} {n : ℤ} → IsBox b → at axis b.lo ≤ℤ n → n ≤ℤ at axis b.hi → IsBox (record { lo = put axis b.lo n; hi = b.hi })
IsBox-put_lo I h p q = record {
  low = record { k = h.low.k; j = h.low.j; i = omega (arith, ints, p, h.low.i) };
  order = record { k = h.order.k; j = h.order.j; i = q };
  high = h.high;
}
IsBox-put_lo J h p q = record {
  low = record { k = h.low.k; j = omega (arith, ints, p, h.low.j); i = h.low.i };
  order = record { k = h.order.k; j = q; i = h.order.i };
  high = h.high;
}
IsBox-put_lo K h p q = record {
  low = record { k = omega (arith, ints, p, h.low.k); j = h.low.j; i = h.low.i };
  order = record { k = q; j = h.order.j; i = h.order.i };
  high = h.high;
}

pub InRange-at : (axis : Axis) {x : IVec} → InRange x → (negsuc 1073741823 ≤ℤ at axis x) × (at axis x ≤ℤ pos 1073741824)
InRange-at I h = (h.low.i, h.high.i)
InRange-at J h = (h.low.j, h.high.j)
InRange-at K h = (h.low.k, h.high.k)

pub IsBox-whole : (d : Space) → IsSpace d → IsBox (whole d)
IsBox-whole d h = record {
  low = record { k = omega (arith, ints); j = omega (arith, ints); i = omega (arith, ints) };
  order = record { k = omega (arith, ints, h.low.k); j = omega (arith, ints, h.low.j); i = omega (arith, ints, h.low.i) };
  high = record { k = omega (arith, ints, h.high.k); j = omega (arith, ints, h.high.j); i = omega (arith, ints, h.high.i) };
}
