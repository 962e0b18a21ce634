-- The common cells of a box and of the cells between two corners.
use Rattle.std.proofs.Common.{◌≡◌, refl, ap, arith}
use Rattle.std.proofs.lemmas.Int.{ints, clamps}
use Rattle.std.specs.Prelude.{pos, true, false, Option, Some, None, IsSome, IfSome, ◌↔◌}
use Rattle.samr_box.specs.declared.vector.IVec.{IVec}
use Rattle.samr_box.specs.Vector.{AtMost, at_most, alike, minus, plus}
use Rattle.samr_box.specs.Corners.{Corners, IsBox, common, met}

pub common_box : (b r : Corners) → IsBox b → AtMost r.lo r.hi → AtMost b.lo r.hi → AtMost r.lo b.hi → IsBox (common b r)
common_box b r h o p q = record {
  low = record { k = omega (arith, ints, clamps, h.low.k); j = omega (arith, ints, clamps, h.low.j); i = omega (arith, ints, clamps, h.low.i) };
  order = record {
    k = omega (arith, ints, clamps, h.order.k, o.k, p.k, q.k);
    j = omega (arith, ints, clamps, h.order.j, o.j, p.j, q.j);
    i = omega (arith, ints, clamps, h.order.i, o.i, p.i, q.i);
  };
  high = record { k = omega (arith, ints, clamps, h.high.k); j = omega (arith, ints, clamps, h.high.j); i = omega (arith, ints, clamps, h.high.i) };
}

pub made : (c : Corners) (o : Option Corners) → IsBox c → IsSome o ↔ IsBox c → IfSome o (λ v. v ≡ c) → o ≡ Some c
made c None h some value = let none : IsSome {T = Corners} None = some.1 h in absurd cc
made c (Some v) h some value = ap (λ (x : Corners). Some x) value

pub met_both : (b r : Corners) → at_most b.lo r.hi ≡ true → at_most r.lo b.hi ≡ true → met b r ≡ Some (common b r)
met_both b r p q = rw (p, q) refl

pub met_none_first : (b r : Corners) → at_most b.lo r.hi ≡ false → met b r ≡ None
met_none_first b r p = rw p refl

pub met_none_second : (b r : Corners) → at_most b.lo r.hi ≡ true → at_most r.lo b.hi ≡ false → met b r ≡ None
met_none_second b r p q = rw (p, q) refl

-- a width widens
pub wider : (lo hi w : IVec) → AtMost lo hi → AtMost (alike (pos 0)) w → AtMost (minus lo w) (plus hi w)
wider lo hi w o h = record { k = omega (arith, ints, o.k, h.k); j = omega (arith, ints, o.j, h.j); i = omega (arith, ints, o.i, h.i) }

pub moved_order : (lo hi s : IVec) → AtMost lo hi → AtMost (plus lo s) (plus hi s)
moved_order lo hi s o = record { k = omega (arith, ints, o.k); j = omega (arith, ints, o.j); i = omega (arith, ints, o.i) }

pub same_order : (x : IVec) → AtMost x x
same_order x = record { k = omega (arith, ints); j = omega (arith, ints); i = omega (arith, ints) }
