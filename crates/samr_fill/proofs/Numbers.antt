-- Ranges of cells on two levels.
use Rattle.std.proofs.Common.{arith}
use Rattle.std.proofs.lemmas.Int.{ints}
use Rattle.std.specs.Prelude.{ℤ, pos, negsuc, ◌≤ℤ◌, ◌+ℤ◌, ◌-ℤ◌, ◌*ℤ◌}
use Rattle.samr_box.specs.declared.vector.IVec.{IVec}
use Rattle.samr_box.specs.Vector.{alike, AtMost, Between, InRange, IsRatio, FitsVector, plus, minus, times}
use Rattle.samr_box.specs.Corners.{Corners, IsBox, Holds}
use Rattle.samr_box.specs.Ratios.{floor, coarse}
use Rattle.samr_box.proofs.Vectors.{AtMost-trans}
use Rattle.samr_box.proofs.Floors.{floor_low, floor_high, last-from_floor, mul-from_floor}
use Rattle.samr_box.proofs.Products.{mul_le, mul_comm}
use Rattle.samr_ops.specs.Rules.{IsOffset}
use Rattle.samr_fill.specs.Fill.{child}
use Rattle.samr_fill.proofs.Corners.{IsWide}

-- coarse cells
pub InRange-coarse : {x r : IVec} → IsRatio r → InRange x → InRange (coarse x r)
InRange-coarse {x} {r} h p = record {
  low = record {
    k = floor_low x.k r.k (negsuc 1073741823) (omega (arith, ints, h.low.k)) (omega (arith, ints)) p.low.k;
    j = floor_low x.j r.j (negsuc 1073741823) (omega (arith, ints, h.low.j)) (omega (arith, ints)) p.low.j;
    i = floor_low x.i r.i (negsuc 1073741823) (omega (arith, ints, h.low.i)) (omega (arith, ints)) p.low.i;
  };
  high = record {
    k = floor_high x.k r.k (pos 1073741824) (omega (arith, ints, h.low.k)) (omega (arith, ints)) p.high.k;
    j = floor_high x.j r.j (pos 1073741824) (omega (arith, ints, h.low.j)) (omega (arith, ints)) p.high.j;
    i = floor_high x.i r.i (pos 1073741824) (omega (arith, ints, h.low.i)) (omega (arith, ints)) p.high.i;
  };
}

-- the first child of a coarse cell
pub record IsUnder (r x z : ℤ) : Type 0 where
  pub low : z ≤ℤ x
  pub high : x ≤ℤ (z +ℤ (r -ℤ pos 1))

under_on : (x r : ℤ) → pos 1 ≤ℤ r → IsUnder r x (floor x r *ℤ r)
under_on x r one = record {
  low = mul-from_floor x r (floor x r) (omega (arith, ints, one)) (omega (arith, ints));
  high = last-from_floor x r (floor x r) (omega (arith, ints, one)) (omega (arith, ints));
}

pub fits_first : {x r : IVec} → IsRatio r → InRange x → FitsVector (times (coarse x r) r)
fits_first {x} {r} h p =
    let k = under_on x.k r.k h.low.k in
    let j = under_on x.j r.j h.low.j in
    let i = under_on x.i r.i h.low.i in
    record {
      k = omega (arith, ints, k.low, k.high, h.high.k, p.low.k, p.high.k);
      j = omega (arith, ints, j.low, j.high, h.high.j, p.low.j, p.high.j);
      i = omega (arith, ints, i.low, i.high, h.high.i, p.low.i, p.high.i);
    }

pub fits_child : {x r : IVec} → IsRatio r → InRange x → FitsVector (child x r)
fits_child {x} {r} h p =
    let k = under_on x.k r.k h.low.k in
    let j = under_on x.j r.j h.low.j in
    let i = under_on x.i r.i h.low.i in
    record {
      k = omega (arith, ints, k.low, k.high, h.high.k);
      j = omega (arith, ints, j.low, j.high, h.high.j);
      i = omega (arith, ints, i.low, i.high, h.high.i);
    }

pub child_offset : (x r : IVec) → IsRatio r → AtMost r (alike (pos 4)) → IsOffset (child x r)
child_offset x r h p =
    let k = under_on x.k r.k h.low.k in
    let j = under_on x.j r.j h.low.j in
    let i = under_on x.i r.i h.low.i in
    record {
      low = record { k = omega (arith, ints, k.low); j = omega (arith, ints, j.low); i = omega (arith, ints, i.low) };
      high = record { k = omega (arith, ints, k.high, p.k); j = omega (arith, ints, j.high, p.j); i = omega (arith, ints, i.high, p.i) };
    }

-- corners of boxes under a coarse one
pub wide-minus : {x y : IVec} → InRange x → InRange y → IsWide (minus x y)
wide-minus {x} {y} h g = record {
  low = record { k = omega (arith, ints, h.low.k, g.high.k); j = omega (arith, ints, h.low.j, g.high.j); i = omega (arith, ints, h.low.i, g.high.i) };
  high = record { k = omega (arith, ints, h.high.k, g.low.k); j = omega (arith, ints, h.high.j, g.low.j); i = omega (arith, ints, h.high.i, g.low.i) };
}

pub record IsNumber (z : ℤ) : Type 0 where
  pub low : negsuc 1099511627775 ≤ℤ z
  pub high : z ≤ℤ pos 1099511627776

number_on : (x r : ℤ) → negsuc 4294967295 ≤ℤ x → x ≤ℤ pos 4294967296 → pos 1 ≤ℤ r → r ≤ℤ pos 256 → IsNumber (x *ℤ r)
number_on x r low high one most =
    let a = mul_le r (negsuc 4294967295) x (omega (arith, ints, one)) low in
    let b = mul_le r x (pos 4294967296) (omega (arith, ints, one)) high in
    let c = mul_comm (negsuc 4294967295) r in
    let d = mul_comm (pos 4294967296) r in
    record { low = omega (arith, ints, a, c, most, one); high = omega (arith, ints, b, d, most, one) }

pub fits_times : {x r : IVec} → IsWide x → IsRatio r → FitsVector (times x r)
fits_times {x} {r} w h =
    let k = number_on x.k r.k w.low.k w.high.k h.low.k h.high.k in
    let j = number_on x.j r.j w.low.j w.high.j h.low.j h.high.j in
    let i = number_on x.i r.i w.low.i w.high.i h.low.i h.high.i in
    record { k = omega (arith, ints, k.low, k.high); j = omega (arith, ints, j.low, j.high); i = omega (arith, ints, i.low, i.high) }

pub fits_last : {x r : IVec} → IsWide x → IsRatio r → FitsVector (plus (times x r) (minus r (alike (pos 1))))
fits_last {x} {r} w h =
    let k = number_on x.k r.k w.low.k w.high.k h.low.k h.high.k in
    let j = number_on x.j r.j w.low.j w.high.j h.low.j h.high.j in
    let i = number_on x.i r.i w.low.i w.high.i h.low.i h.high.i in
    record {
      k = omega (arith, ints, k.low, k.high, h.low.k, h.high.k);
      j = omega (arith, ints, j.low, j.high, h.low.j, h.high.j);
      i = omega (arith, ints, i.low, i.high, h.low.i, h.high.i);
    }

pub AtMost-last : {x y r : IVec} → AtMost x y → IsRatio r → AtMost (times x r) (plus (times y r) (minus r (alike (pos 1))))
AtMost-last {x} {y} {r} p h =
    let k = mul_le r.k x.k y.k (omega (arith, ints, h.low.k)) p.k in
    let j = mul_le r.j x.j y.j (omega (arith, ints, h.low.j)) p.j in
    let i = mul_le r.i x.i y.i (omega (arith, ints, h.low.i)) p.i in
    record { k = omega (arith, ints, k, h.low.k); j = omega (arith, ints, j, h.low.j); i = omega (arith, ints, i, h.low.i) }

-- cells of a box
pub InRange-held : (b : Corners) (x : IVec) → IsBox b → Holds b x → InRange x
InRange-held b x p h = record { low = AtMost-trans p.low h.low; high = AtMost-trans h.high p.high }
