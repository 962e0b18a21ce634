-- Corners of parts of boxes.
use Rattle.std.proofs.Common.{◌≡◌, refl, sym, subst, arith}
use Rattle.std.proofs.lemmas.Int.{ints, clamps}
use Rattle.std.proofs.lemmas.Bool.{and_parts, and_from}
use Rattle.std.specs.Prelude.{pos, negsuc, Bool, true, false, cond, Option, Some, None}
use Rattle.samr_box.specs.declared.vector.IVec.{IVec}
use Rattle.samr_box.specs.Vector.{alike, AtMost, Between, InRange, FitsVector, plus, minus, least, greatest, at_most}
use Rattle.samr_box.specs.Corners.{Corners, IsBox, grown, holds_box, common, meets, met}
use Rattle.samr_box.proofs.CellSets.{AtMost-test, at_most-from}

pub IsBox-part : (b : Corners) (lo hi : IVec) → AtMost lo hi → IsBox b → AtMost b.lo hi → AtMost lo b.hi
    → IsBox (record { lo = greatest b.lo lo; hi = least b.hi hi })
IsBox-part b lo hi full p low high = record {
  low = record { k = omega (arith, ints, clamps, p.low.k); j = omega (arith, ints, clamps, p.low.j); i = omega (arith, ints, clamps, p.low.i) };
  order = record {
    k = omega (arith, ints, clamps, full.k, p.order.k, low.k, high.k);
    j = omega (arith, ints, clamps, full.j, p.order.j, low.j, high.j);
    i = omega (arith, ints, clamps, full.i, p.order.i, low.i, high.i);
  };
  high = record { k = omega (arith, ints, clamps, p.high.k); j = omega (arith, ints, clamps, p.high.j); i = omega (arith, ints, clamps, p.high.i) };
}

-- numbers that two sums of coordinates and a width fit
pub record IsWide (x : IVec) : Type 0 where
  pub low : AtMost (alike (negsuc 4294967295)) x
  pub high : AtMost x (alike (pos 4294967296))

pub wide-plus : {x y : IVec} → InRange x → InRange y → IsWide (plus x y)
wide-plus {x} {y} h g = record {
  low = record { k = omega (arith, ints, h.low.k, g.low.k); j = omega (arith, ints, h.low.j, g.low.j); i = omega (arith, ints, h.low.i, g.low.i) };
  high = record { k = omega (arith, ints, h.high.k, g.high.k); j = omega (arith, ints, h.high.j, g.high.j); i = omega (arith, ints, h.high.i, g.high.i) };
}

pub AtMost-minus : (x y step : IVec) → AtMost x y → AtMost (minus x step) (minus y step)
AtMost-minus x y step h = record { k = omega (arith, ints, h.k); j = omega (arith, ints, h.j); i = omega (arith, ints, h.i) }

pub fits-minus : {x w : IVec} → IsWide x → Between (alike (pos 0)) w (alike (pos 2147483648)) → FitsVector (minus x w)
fits-minus {x} {w} h g = record {
  k = omega (arith, ints, h.low.k, h.high.k, g.low.k, g.high.k);
  j = omega (arith, ints, h.low.j, h.high.j, g.low.j, g.high.j);
  i = omega (arith, ints, h.low.i, h.high.i, g.low.i, g.high.i);
}

pub fits-plus : {x w : IVec} → IsWide x → Between (alike (pos 0)) w (alike (pos 2147483648)) → FitsVector (plus x w)
fits-plus {x} {w} h g = record {
  k = omega (arith, ints, h.low.k, h.high.k, g.low.k, g.high.k);
  j = omega (arith, ints, h.low.j, h.high.j, g.low.j, g.high.j);
  i = omega (arith, ints, h.low.i, h.high.i, g.low.i, g.high.i);
}

-- the width of a patch
pub width_fits : (b : Corners) (w : IVec) → IsBox b → AtMost (alike (pos 0)) w → IsBox (grown b w) → Between (alike (pos 0)) w (alike (pos 2147483648))
width_fits b w p low g = record {
  low = low;
  high = record {
    k = omega (arith, ints, p.low.k, p.order.k, g.high.k);
    j = omega (arith, ints, p.low.j, p.order.j, g.high.j);
    i = omega (arith, ints, p.low.i, p.order.i, g.high.i);
  };
}

-- a part of a box is a part of the box grown
pub inside_grown : (b c : Corners) (w : IVec) → AtMost (alike (pos 0)) w → holds_box b c ≡ true → holds_box (grown b w) c ≡ true
inside_grown b c w p t =
    let s = and_parts (at_most b.lo c.lo) (at_most c.hi b.hi) t in
    let low = AtMost-test {a = b.lo} {b = c.lo} s.0 in
    let high = AtMost-test {a = c.hi} {b = b.hi} s.1 in
    and_from (at_most (minus b.lo w) c.lo) (at_most c.hi (plus b.hi w))
    (at_most-from {a = minus b.lo w} {b = c.lo} (record { k = omega (arith, ints, low.k, p.k); j = omega (arith, ints, low.j, p.j); i = omega (arith, ints, low.i, p.i) }))
    (at_most-from {a = c.hi} {b = plus b.hi w} (record { k = omega (arith, ints, high.k, p.k); j = omega (arith, ints, high.j, p.j); i = omega (arith, ints, high.i, p.i) }))

-- what two boxes have in common lies in the first
common_inside : (b c : Corners) → holds_box b (common b c) ≡ true
common_inside b c =
    and_from (at_most b.lo (greatest b.lo c.lo)) (at_most (least b.hi c.hi) b.hi)
    (at_most-from {a = b.lo} {b = greatest b.lo c.lo} (record { k = omega (arith, ints, clamps); j = omega (arith, ints, clamps); i = omega (arith, ints, clamps) }))
    (at_most-from {a = least b.hi c.hi} {b = b.hi} (record { k = omega (arith, ints, clamps); j = omega (arith, ints, clamps); i = omega (arith, ints, clamps) }))

pub met_is : (b c region : Corners) → met b c ≡ Some region → (meets b c ≡ true) × (region ≡ common b c)
met_is b c region e = by_case (meets b c) refl e
  where
    by_case : (t : Bool) → meets b c ≡ t → cond t (Some (common b c)) None ≡ Some region → (meets b c ≡ true) × (region ≡ common b c)
    by_case true m e = (m, cc)
    by_case false m e = cc

pub met_inside : (b c region : Corners) → met b c ≡ Some region → holds_box b region ≡ true
met_inside b c region e = subst (λ (v : Corners). holds_box b v ≡ true) (sym (met_is b c region e).1) (common_inside b c)
