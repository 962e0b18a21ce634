-- A west box whose image lies near an east box meets the window of this box.
use Rattle.std.proofs.Common.{◌≡◌, true, arith}
use Rattle.std.proofs.lemmas.Int.{ints, clamps}
use Rattle.std.specs.Prelude.{ℤ, pos, negsuc, ◌+ℤ◌, ◌-ℤ◌, ◌*ℤ◌, ◌≤ℤ◌}
use Rattle.std.specs.Int.{int_min, int_max}
use Rattle.samr_box.specs.declared.vector.Axis.TheVariants.{I, J, K}
use Rattle.samr_box.specs.declared.vector.IVec.{IVec}
use Rattle.samr_box.specs.Vector.{greatest, IsRatio, InRange}
use Rattle.samr_box.specs.Corners.{Corners, IsBox, meets}
use Rattle.samr_box.specs.Ratios.{floor}
use Rattle.samr_box.proofs.Floors.{floor-from_mul, floor-to_last}
use Rattle.samr_box.proofs.CellSets.{meets-from}
use Rattle.samr_level.specs.Overlaps.{Scale, near}
use Rattle.samr_bridge.specs.Search.{window}
use Rattle.samr_bridge.proofs.OneAxis.{Near}
use Rattle.samr_bridge.proofs.Ways.{near-axes}

pub IsBox-window : (lo hi : IVec) → InRange lo → InRange hi → IsBox (record { lo = lo; hi = greatest hi lo })
IsBox-window lo hi p q = record {
  low = p.low;
  order = record { k = omega (arith, ints, clamps); j = omega (arith, ints, clamps); i = omega (arith, ints, clamps) };
  high = record {
    k = omega (arith, ints, clamps, p.high.k, q.high.k);
    j = omega (arith, ints, clamps, p.high.j, q.high.j);
    i = omega (arith, ints, clamps, p.high.i, q.high.i);
  };
}

abbrev clip : ℤ → ℤ
clip x = int_min (int_max x (negsuc 1073741823)) (pos 1073741824)

abbrev first : ℤ → ℤ → ℤ → ℤ → ℤ → ℤ → ℤ
first base head reach size alo s = clip (floor (((alo *ℤ base) -ℤ reach) -ℤ (s *ℤ size)) head)

abbrev last : ℤ → ℤ → ℤ → ℤ → ℤ → ℤ → ℤ
last base head reach size ahi s = clip (floor ((((ahi *ℤ base) +ℤ (base -ℤ pos 1)) +ℤ reach) -ℤ (s *ℤ size)) head)

on_axis : (base head reach size alo ahi blo bhi s : ℤ) → pos 1 ≤ℤ head → negsuc 1073741823 ≤ℤ blo → blo ≤ℤ bhi → bhi ≤ℤ pos 1073741824
    → Near base head reach size alo ahi blo bhi s
    → (blo ≤ℤ int_max (last base head reach size ahi s) (first base head reach size alo s)) × (first base head reach size alo s ≤ℤ bhi)
on_axis base head reach size alo ahi blo bhi s p low full high h =
    let f = floor-to_last (((alo *ℤ base) -ℤ reach) -ℤ (s *ℤ size)) head bhi (omega (arith, ints)) (omega (arith, ints, h.below)) in
    let g = floor-from_mul ((((ahi *ℤ base) +ℤ (base -ℤ pos 1)) +ℤ reach) -ℤ (s *ℤ size)) head blo (omega (arith, ints)) (omega (arith, ints, h.above)) in
    (omega (arith, ints, clamps, g), omega (arith, ints, clamps, f))

pub meets-window : (n : Scale) (a b : Corners) (s : IVec) → IsRatio n.head → IsBox b → near n a b s ≡ true → meets b (window n a s) ≡ true
meets-window n a b s p h t =
    let on = near-axes n a b s t in
    let k = on_axis n.base.k n.head.k n.reach.k n.domain.size.k a.lo.k a.hi.k b.lo.k b.hi.k s.k p.low.k h.low.k h.order.k h.high.k (on K) in
    let j = on_axis n.base.j n.head.j n.reach.j n.domain.size.j a.lo.j a.hi.j b.lo.j b.hi.j s.j p.low.j h.low.j h.order.j h.high.j (on J) in
    let i = on_axis n.base.i n.head.i n.reach.i n.domain.size.i a.lo.i a.hi.i b.lo.i b.hi.i s.i p.low.i h.low.i h.order.i h.high.i (on I) in
    meets-from {a = b} {b = window n a s}
    (record {
      low = record { k = k.0; j = j.0; i = i.0 };
      high = record { k = k.1; j = j.1; i = i.1 };
    })
