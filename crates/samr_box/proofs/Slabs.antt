-- The slabs of a box below, above and level with another are boxes.
use Rattle.std.proofs.Common.{◌≡◌, arith}
use Rattle.std.proofs.lemmas.Int.{ints, clamps}
use Rattle.std.specs.Prelude.{ℕ, ◌<◌, pos, ◌+ℤ◌, ◌≤ℤ◌, ◌<ℤ◌, int_lt, true}
use Rattle.samr_box.specs.declared.vector.Axis.{Axis}
use Rattle.samr_box.specs.declared.vector.Axis.TheVariants.{I, J, K}
use Rattle.samr_box.specs.Vector.{at, AtMost}
use Rattle.samr_box.specs.Corners.{Corners, IsBox, Meet, span, before, from_plane, level}
use Rattle.samr_box.proofs.Vectors.{AtMost-at}
use Rattle.samr_box.proofs.Ranges.{IsBox-put_lo, IsBox-put_hi}

pub IsBox-below : (axis : Axis) (a b : Corners) → IsBox a → Meet a b → int_lt (at axis a.lo) (at axis b.lo) ≡ true → IsBox (before axis a (at axis b.lo))
IsBox-below axis a b h m t =
    let inside : at axis b.lo ≤ℤ at axis a.hi = AtMost-at axis m.high in
    let less : at axis a.lo <ℤ at axis b.lo = grind (arith, ints, t) in
    IsBox-put_hi axis h (omega (arith, ints, less)) (omega (arith, ints, inside))

pub IsBox-above : (axis : Axis) (a b : Corners) → IsBox a → Meet a b → int_lt (at axis b.hi) (at axis a.hi) ≡ true → IsBox (from_plane axis a (at axis b.hi +ℤ pos 1))
IsBox-above axis a b h m t =
    let inside : at axis a.lo ≤ℤ at axis b.hi = AtMost-at axis m.low in
    let less : at axis b.hi <ℤ at axis a.hi = grind (arith, ints, t) in
    IsBox-put_lo axis h (omega (arith, ints, inside)) (omega (arith, ints, less))

pub IsBox-level : (axis : Axis) (a b : Corners) → IsBox a → IsBox b → Meet a b → IsBox (level axis a b)
IsBox-level I a b p q m = record {
  low = record { k = p.low.k; j = p.low.j; i = omega (arith, ints, clamps, p.low.i) };
  order = record { k = p.order.k; j = p.order.j; i = omega (arith, ints, clamps, p.order.i, q.order.i, m.low.i, m.high.i) };
  high = record { k = p.high.k; j = p.high.j; i = omega (arith, ints, clamps, p.high.i) };
}
IsBox-level J a b p q m = record {
  low = record { k = p.low.k; j = omega (arith, ints, clamps, p.low.j); i = p.low.i };
  order = record { k = p.order.k; j = omega (arith, ints, clamps, p.order.j, q.order.j, m.low.j, m.high.j); i = p.order.i };
  high = record { k = p.high.k; j = omega (arith, ints, clamps, p.high.j); i = p.high.i };
}
IsBox-level K a b p q m = record {
  low = record { k = omega (arith, ints, clamps, p.low.k); j = p.low.j; i = p.low.i };
  order = record { k = omega (arith, ints, clamps, p.order.k, q.order.k, m.low.k, m.high.k); j = p.order.j; i = p.order.i };
  high = record { k = omega (arith, ints, clamps, p.high.k); j = p.high.j; i = p.high.i };
}

pub Meet-level : (axis : Axis) (a b : Corners) → AtMost b.lo b.hi → Meet a b → Meet (level axis a b) b
Meet-level I a b q m = record {
  low = record { k = m.low.k; j = m.low.j; i = omega (arith, ints, clamps, q.i, m.low.i) };
  high = record { k = m.high.k; j = m.high.j; i = omega (arith, ints, clamps, q.i, m.high.i) };
}
Meet-level J a b q m = record {
  low = record { k = m.low.k; j = omega (arith, ints, clamps, q.j, m.low.j); i = m.low.i };
  high = record { k = m.high.k; j = omega (arith, ints, clamps, q.j, m.high.j); i = m.high.i };
}
Meet-level K a b q m = record {
  low = record { k = omega (arith, ints, clamps, q.k, m.low.k); j = m.low.j; i = m.low.i };
  high = record { k = omega (arith, ints, clamps, q.k, m.high.k); j = m.high.j; i = m.high.i };
}

-- a plane after some of the planes of a box, and before others
pub plane-inside : (axis : Axis) (b : Corners) (count : ℕ) → AtMost b.lo b.hi → 0 < count → count < span axis b → (at axis b.lo <ℤ (at axis b.lo +ℤ pos count)) × ((at axis b.lo +ℤ pos count) ≤ℤ at axis b.hi)
plane-inside axis b count h p q =
    let full : at axis b.lo ≤ℤ at axis b.hi = AtMost-at axis h in
    (omega (arith, ints), omega (arith, ints, full, q))
