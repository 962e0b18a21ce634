-- The corners between which a part of a box lies, and that the part is a box.
use Rattle.std.proofs.Common.{arith}
use Rattle.std.proofs.lemmas.Int.{ints, clamps}
use Rattle.std.specs.Prelude.{ℤ, pos, ◌≤ℤ◌, Bool, true, false, cond}
use Rattle.samr_box.specs.declared.vector.IVec.{IVec}
use Rattle.samr_box.specs.declared.space.Flags.{Flags}
use Rattle.samr_box.specs.Vector.{alike, AtMost, plus, minus, least, greatest}
use Rattle.samr_box.specs.Corners.{Corners, IsBox}
use Rattle.samr_nest.specs.Starts.{picked}

picked_on : (mark : Bool) (x y v w : ℤ) → x ≤ℤ v → y ≤ℤ w → cond mark x y ≤ℤ cond mark v w
picked_on true x y v w p q = p
picked_on false x y v w p q = q

pub AtMost-picked : (marks : Flags) (x y v w : IVec) → AtMost x v → AtMost y w → AtMost (picked marks x y) (picked marks v w)
AtMost-picked marks x y v w p q = record {
  k = picked_on marks.k x.k y.k v.k w.k p.k q.k;
  j = picked_on marks.j x.j y.j v.j w.j p.j q.j;
  i = picked_on marks.i x.i y.i v.i w.i p.i q.i;
}

pub AtMost-plus : (x y step : IVec) → AtMost x y → AtMost (plus x step) (plus y step)
AtMost-plus x y step h = record { k = omega (arith, ints, h.k); j = omega (arith, ints, h.j); i = omega (arith, ints, h.i) }

pub AtMost-grown : (x y w : IVec) → AtMost (alike (pos 0)) w → AtMost x y → AtMost (minus x w) (plus y w)
AtMost-grown x y w p h = record {
  k = omega (arith, ints, h.k, p.k);
  j = omega (arith, ints, h.j, p.j);
  i = omega (arith, ints, h.i, p.i);
}

pub IsBox-between : (lo hi : IVec) (b : Corners) → AtMost lo hi → IsBox b → AtMost lo b.hi → AtMost b.lo hi
    → IsBox (record { lo = greatest lo b.lo; hi = least hi b.hi })
IsBox-between lo hi b full p low high = record {
  low = record { k = omega (arith, ints, clamps, p.low.k); j = omega (arith, ints, clamps, p.low.j); i = omega (arith, ints, clamps, p.low.i) };
  order = record {
    k = omega (arith, ints, clamps, full.k, p.order.k, low.k, high.k);
    j = omega (arith, ints, clamps, full.j, p.order.j, low.j, high.j);
    i = omega (arith, ints, clamps, full.i, p.order.i, low.i, high.i);
  };
  high = record { k = omega (arith, ints, clamps, p.high.k); j = omega (arith, ints, clamps, p.high.j); i = omega (arith, ints, clamps, p.high.i) };
}
