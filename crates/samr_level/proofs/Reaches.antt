-- What fits an `i64` on the way to a test, what the test means, and widths rounded up.
use Rattle.std.proofs.Common.{arith}
use Rattle.std.proofs.lemmas.Int.{ints, clamps}
use Rattle.std.specs.Prelude.{ℤ, pos, neg_ℤ, ◌+ℤ◌, ◌-ℤ◌, ◌*ℤ◌, ◌≤ℤ◌, IsTrue, ◌↔◌}
use Rattle.samr_box.specs.declared.vector.IVec.{IVec}
use Rattle.samr_box.specs.Vector.{alike, AtMost, Between, Within, plus, minus, times, greatest, IsRatio, FitsVector, InRange}
use Rattle.samr_box.specs.Corners.{Corners, Holds, grown}
use Rattle.samr_box.specs.Ratios.{floor, coarse, last_child, refined}
use Rattle.samr_box.specs.Space.{Space, IsSpace, image}
use Rattle.samr_level.specs.Neighbours.{IsWidth}
use Rattle.samr_box.proofs.Products.{mul_le, mul_comm, mul-neg}
use Rattle.samr_box.proofs.Floors.{floor-from_mul, floor-to_last, last-from_floor, floor_low, floor_high}
use Rattle.samr_box.proofs.CellSets.{Holds-grown, meets-means}
use Rattle.samr_level.specs.Overlaps.{Scale, IsScale, scale_in, near, rounded_up}

abbrev pub Bounded : ℤ → IVec → Type 0
Bounded m x = Between (alike (neg_ℤ m)) x (alike m)

product_bounds : (m x r : ℤ) → pos 0 ≤ℤ m → pos 1 ≤ℤ r → r ≤ℤ pos 256 → neg_ℤ m ≤ℤ x → x ≤ℤ m
    → (neg_ℤ (m *ℤ pos 256) ≤ℤ (x *ℤ r)) × ((x *ℤ r) ≤ℤ (m *ℤ pos 256))
product_bounds m x r p one most low high =
    let a = mul_le r (neg_ℤ m) x (omega (arith, ints)) low in
    let b = mul_le r x m (omega (arith, ints)) high in
    let d = mul_le m r (pos 256) p most in
    let e = mul_comm m r in
    let f = mul_comm m (pos 256) in
    let n = mul-neg m r in
    (omega (arith, ints, a, d, e, f, n), omega (arith, ints, b, d, e, f))

pub bounded-times : (m : ℤ) {x r : IVec} → pos 0 ≤ℤ m → Bounded m x → IsRatio r → Bounded (m *ℤ pos 256) (times x r)
bounded-times m {x} {r} p h q =
    let k = product_bounds m x.k r.k p q.low.k q.high.k h.low.k h.high.k in
    let j = product_bounds m x.j r.j p q.low.j q.high.j h.low.j h.high.j in
    let i = product_bounds m x.i r.i p q.low.i q.high.i h.low.i h.high.i in
    record { low = record { k = k.0; j = j.0; i = i.0 }; high = record { k = k.1; j = j.1; i = i.1 } }

pub bounded-plus : (m n : ℤ) {x y : IVec} → Bounded m x → Bounded n y → Bounded (m +ℤ n) (plus x y)
bounded-plus m n h g = record {
  low = record { k = omega (arith, ints, h.low.k, g.low.k); j = omega (arith, ints, h.low.j, g.low.j); i = omega (arith, ints, h.low.i, g.low.i) };
  high = record { k = omega (arith, ints, h.high.k, g.high.k); j = omega (arith, ints, h.high.j, g.high.j); i = omega (arith, ints, h.high.i, g.high.i) };
}

pub bounded-minus : (m n : ℤ) {x y : IVec} → Bounded m x → Bounded n y → Bounded (m +ℤ n) (minus x y)
bounded-minus m n h g = record {
  low = record { k = omega (arith, ints, h.low.k, g.high.k); j = omega (arith, ints, h.low.j, g.high.j); i = omega (arith, ints, h.low.i, g.high.i) };
  high = record { k = omega (arith, ints, h.high.k, g.low.k); j = omega (arith, ints, h.high.j, g.low.j); i = omega (arith, ints, h.high.i, g.low.i) };
}

pub bounded-ratio : {r : IVec} → IsRatio r → Bounded (pos 256) (minus r (alike (pos 1)))
bounded-ratio q = record {
  low = record { k = omega (arith, ints, q.low.k); j = omega (arith, ints, q.low.j); i = omega (arith, ints, q.low.i) };
  high = record { k = omega (arith, ints, q.high.k); j = omega (arith, ints, q.high.j); i = omega (arith, ints, q.high.i) };
}

pub FitsVector-bounded : (m : ℤ) {x : IVec} → m ≤ℤ pos 4611686018427387904 → Bounded m x → FitsVector x
FitsVector-bounded m p h = record {
  k = omega (arith, ints, h.low.k, h.high.k);
  j = omega (arith, ints, h.low.j, h.high.j);
  i = omega (arith, ints, h.low.i, h.high.i);
}

pub bounded-last_child : {x r : IVec} → InRange x → IsRatio r → Bounded (pos 274877907200) (last_child x r)
bounded-last_child h q =
    bounded-plus (pos 274877906944) (pos 256) (bounded-times (pos 1073741824) (omega (arith, ints)) h q) (bounded-ratio q)

-- the quotient of the greater of two ratios by one of them is a ratio
factor_low : (n r : ℤ) → pos 1 ≤ℤ r → r ≤ℤ n → pos 1 ≤ℤ floor n r
factor_low n r p h = floor-from_mul n r (pos 1) (omega (arith, ints)) (omega (arith, ints))

factor_high : (n r : ℤ) → pos 1 ≤ℤ r → n ≤ℤ pos 256 → floor n r ≤ℤ pos 256
factor_high n r p h = floor_high n r (pos 256) (omega (arith, ints)) (omega (arith, ints)) h

pub IsRatio-factor : {n r : IVec} → AtMost n (alike (pos 256)) → AtMost r n → IsRatio r → IsRatio (coarse n r)
IsRatio-factor {n} {r} most up q = record {
  low = record {
    k = factor_low n.k r.k q.low.k up.k;
    j = factor_low n.j r.j q.low.j up.j;
    i = factor_low n.i r.i q.low.i up.i;
  };
  high = record {
    k = factor_high n.k r.k q.low.k most.k;
    j = factor_high n.j r.j q.low.j most.j;
    i = factor_high n.i r.i q.low.i most.i;
  };
}

pub greatest-ratio : {a b : IVec} → IsRatio a → IsRatio b → AtMost (greatest a b) (alike (pos 256))
greatest-ratio p q = record {
  k = omega (arith, ints, clamps, p.high.k, q.high.k);
  j = omega (arith, ints, clamps, p.high.j, q.high.j);
  i = omega (arith, ints, clamps, p.high.i, q.high.i);
}

pub greatest-left : (a b : IVec) → AtMost a (greatest a b)
greatest-left a b = record { k = omega (arith, ints, clamps); j = omega (arith, ints, clamps); i = omega (arith, ints, clamps) }

pub greatest-right : (a b : IVec) → AtMost b (greatest a b)
greatest-right a b = record { k = omega (arith, ints, clamps); j = omega (arith, ints, clamps); i = omega (arith, ints, clamps) }

pub IsScale-scale_in : (d : Space) {w a b : IVec} → InRange w → IsRatio a → IsRatio b → IsScale (scale_in d w a b)
IsScale-scale_in d {w} {a} {b} h p q =
    let base = IsRatio-factor {n = greatest a b} {r = a} (greatest-ratio p q) (greatest-left a b) p in
    let head = IsRatio-factor {n = greatest a b} {r = b} (greatest-ratio p q) (greatest-right a b) q in
    record {
      base = base;
      head = head;
      reach = bounded-times (pos 274877906944) (omega (arith, ints)) (bounded-times (pos 1073741824) (omega (arith, ints)) h base) head;
    }

-- two boxes that are not empty are near exactly where a cell of the one is within the reach of a cell of the image of the other
full-refined : {b : Corners} {r : IVec} → AtMost b.lo b.hi → IsRatio r → AtMost (times b.lo r) (last_child b.hi r)
full-refined {b} {r} h q =
    let k = mul_le r.k b.lo.k b.hi.k (omega (arith, ints, q.low.k)) h.k in
    let j = mul_le r.j b.lo.j b.hi.j (omega (arith, ints, q.low.j)) h.j in
    let i = mul_le r.i b.lo.i b.hi.i (omega (arith, ints, q.low.i)) h.i in
    record { k = omega (arith, ints, k, q.low.k); j = omega (arith, ints, j, q.low.j); i = omega (arith, ints, i, q.low.i) }

full-image : (d : Space) (b : Corners) (s : IVec) → AtMost b.lo b.hi → AtMost (image d b s).lo (image d b s).hi
full-image d b s h = record { k = omega (arith, ints, h.k); j = omega (arith, ints, h.j); i = omega (arith, ints, h.i) }

full-grown : {b : Corners} {w : IVec} → AtMost (alike (pos 0)) w → AtMost b.lo b.hi → AtMost (minus b.lo w) (plus b.hi w)
full-grown p h = record { k = omega (arith, ints, p.k, h.k); j = omega (arith, ints, p.j, h.j); i = omega (arith, ints, p.i, h.i) }

pub near-means : (n : Scale) (a b : Corners) (s : IVec) → IsRatio n.base → IsRatio n.head → AtMost (alike (pos 0)) n.reach
    → AtMost a.lo a.hi → AtMost b.lo b.hi
    → IsTrue (near n a b s) ↔ ((x y : IVec) × Holds (refined a n.base) x × Holds (image n.domain (refined b n.head) s) y × Within n.reach x y)
near-means n a b s p q wide fa fb =
    let left = full-refined {b = a} {r = n.base} fa p in
    let right = full-image n.domain (refined b n.head) s (full-refined {b = b} {r = n.head} fb q) in
    let meet = meets-means (grown (refined a n.base) n.reach) (image n.domain (refined b n.head) s) (full-grown {b = refined a n.base} wide left) right in
    let grow = Holds-grown (refined a n.base) n.reach left wide in (
      λ t. let m = meet.0 t in let g = (grow m.0).0 m.1 in (g.0, m.0, g.1, m.2, g.2),
      λ (x, y, h, g, w). meet.1 (y, (grow y).1 (x, h, w), g),
    )

not_negative-times : {w r : IVec} → AtMost (alike (pos 0)) w → IsRatio r → AtMost (alike (pos 0)) (times w r)
not_negative-times {w} {r} h q =
    let k = mul_le r.k (pos 0) w.k (omega (arith, ints, q.low.k)) h.k in
    let j = mul_le r.j (pos 0) w.j (omega (arith, ints, q.low.j)) h.j in
    let i = mul_le r.i (pos 0) w.i (omega (arith, ints, q.low.i)) h.i in
    record { k = omega (arith, ints, k); j = omega (arith, ints, j); i = omega (arith, ints, i) }

pub reach-not_negative : (d : Space) (w a b : IVec) → IsScale (scale_in d w a b) → AtMost (alike (pos 0)) w → AtMost (alike (pos 0)) (scale_in d w a b).reach
reach-not_negative d w a b h p = not_negative-times (not_negative-times p h.base) h.head

-- the width rounded up
covers : (w r : ℤ) → pos 1 ≤ℤ r → w ≤ℤ (floor (w +ℤ (r -ℤ pos 1)) r *ℤ r)
covers w r p =
    let h = last-from_floor (w +ℤ (r -ℤ pos 1)) r (floor (w +ℤ (r -ℤ pos 1)) r) (omega (arith, ints)) (omega (arith, ints)) in
    omega (arith, ints, h)

least_cover : (w r v : ℤ) → pos 1 ≤ℤ r → w ≤ℤ (v *ℤ r) → floor (w +ℤ (r -ℤ pos 1)) r ≤ℤ v
least_cover w r v p h = floor-to_last (w +ℤ (r -ℤ pos 1)) r v (omega (arith, ints)) (omega (arith, ints, h))

pub rounded_up-covers : (w r : IVec) → IsRatio r → AtMost w (times (rounded_up w r) r)
rounded_up-covers w r q = record { k = covers w.k r.k q.low.k; j = covers w.j r.j q.low.j; i = covers w.i r.i q.low.i }

pub rounded_up-least : (w r v : IVec) → IsRatio r → AtMost w (times v r) → AtMost (rounded_up w r) v
rounded_up-least w r v q h = record {
  k = least_cover w.k r.k v.k q.low.k h.k;
  j = least_cover w.j r.j v.j q.low.j h.j;
  i = least_cover w.i r.i v.i q.low.i h.i;
}

pub bounded-coarse : (m : ℤ) {x n : IVec} → pos 0 ≤ℤ m → AtMost (alike (pos 1)) n → Bounded m x → Bounded m (coarse x n)
bounded-coarse m {x} {n} p q h = record {
  low = record {
    k = floor_low x.k n.k (neg_ℤ m) (omega (arith, ints, q.k)) (omega (arith, ints)) h.low.k;
    j = floor_low x.j n.j (neg_ℤ m) (omega (arith, ints, q.j)) (omega (arith, ints)) h.low.j;
    i = floor_low x.i n.i (neg_ℤ m) (omega (arith, ints, q.i)) (omega (arith, ints)) h.low.i;
  };
  high = record {
    k = floor_high x.k n.k m (omega (arith, ints, q.k)) p h.high.k;
    j = floor_high x.j n.j m (omega (arith, ints, q.j)) p h.high.j;
    i = floor_high x.i n.i m (omega (arith, ints, q.i)) p h.high.i;
  };
}

pub bounded-one : Bounded (pos 1) (alike (pos 1))
bounded-one = record {
  low = record { k = omega (arith, ints); j = omega (arith, ints); i = omega (arith, ints) };
  high = record { k = omega (arith, ints); j = omega (arith, ints); i = omega (arith, ints) };
}

pub bounded-wider : (m n : ℤ) {x : IVec} → m ≤ℤ n → Bounded m x → Bounded n x
bounded-wider m n p h = record {
  low = record { k = omega (arith, ints, h.low.k); j = omega (arith, ints, h.low.j); i = omega (arith, ints, h.low.i) };
  high = record { k = omega (arith, ints, h.high.k); j = omega (arith, ints, h.high.j); i = omega (arith, ints, h.high.i) };
}

pub InRange-width : (d : Space) (w : IVec) → IsSpace d → IsWidth d w → InRange w
InRange-width d w h q = record {
  low = record { k = omega (arith, ints, q.low.k); j = omega (arith, ints, q.low.j); i = omega (arith, ints, q.low.i) };
  high = record {
    k = omega (arith, ints, q.high.k, h.high.k);
    j = omega (arith, ints, q.high.j, h.high.j);
    i = omega (arith, ints, q.high.i, h.high.i);
  };
}
