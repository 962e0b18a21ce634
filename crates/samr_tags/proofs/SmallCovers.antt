-- What small boxes need in small frames is in range.
use Rattle.std.proofs.Common.{arith}
use Rattle.std.proofs.lemmas.Int.{ints}
use Rattle.std.specs.Prelude.{ℤ, pos, negsuc, neg_ℤ, ◌+ℤ◌, ◌*ℤ◌, ◌≤ℤ◌}
use Rattle.samr_box.specs.declared.vector.IVec.{IVec}
use Rattle.samr_box.specs.Vector.{alike, AtMost, Between, IsRatio, IsShift, plus, minus, times}
use Rattle.samr_box.specs.Corners.{Corners, IsBox, grown, moved}
use Rattle.samr_box.specs.Ratios.{coarse, coarsened}
use Rattle.samr_box.specs.Space.{Space, opposite}
use Rattle.samr_box.proofs.Products.{shifted_bounds}
use Rattle.samr_box.proofs.CellSets.{coarse-AtMost}
use Rattle.samr_level.proofs.Reaches.{Bounded, bounded-coarse, bounded-plus, bounded-minus}
use Rattle.samr_level.specs.Refs.{Link}
use Rattle.samr_tags.specs.declared.needs.Needs.{Needs}
use Rattle.samr_tags.specs.CoverRow.{HasRoom}
use Rattle.samr_tags.specs.Rooms.{IsSmall, IsSmallBox, SmallCoversHaveRoom}
use Rattle.samr_tags.proofs.Regions.{wider, moved_order}

in_bounds : {x : IVec} → IsSmall x → Bounded (pos 268435456) x
in_bounds h = record {
  low = record { k = omega (arith, ints, h.low.k); j = omega (arith, ints, h.low.j); i = omega (arith, ints, h.low.i) };
  high = record { k = omega (arith, ints, h.high.k); j = omega (arith, ints, h.high.j); i = omega (arith, ints, h.high.i) };
}

-- a number of lengths, one at most, the other way
steps_small : {s n : IVec} → IsShift s → AtMost (alike (pos 1)) n → AtMost n (alike (pos 268435456)) → Bounded (pos 268435456) (times (opposite s) n)
steps_small {s} {n} h some few =
    let k = shifted_bounds (neg_ℤ s.k) n.k (omega (arith, ints, some.k)) (omega (arith, ints, h.high.k)) (omega (arith, ints, h.low.k)) in
    let j = shifted_bounds (neg_ℤ s.j) n.j (omega (arith, ints, some.j)) (omega (arith, ints, h.high.j)) (omega (arith, ints, h.low.j)) in
    let i = shifted_bounds (neg_ℤ s.i) n.i (omega (arith, ints, some.i)) (omega (arith, ints, h.high.i)) (omega (arith, ints, h.low.i)) in
    record {
      low = record { k = omega (arith, ints, k.0, few.k); j = omega (arith, ints, j.0, few.j); i = omega (arith, ints, i.0, few.i) };
      high = record { k = omega (arith, ints, k.1, few.k); j = omega (arith, ints, j.1, few.j); i = omega (arith, ints, i.1, few.i) };
    }

is_box : {b : Corners} → Bounded (pos 1073741824) b.lo → AtMost b.lo b.hi → Bounded (pos 1073741824) b.hi → IsBox b
is_box p o q = record {
  low = record { k = omega (arith, ints, p.low.k); j = omega (arith, ints, p.low.j); i = omega (arith, ints, p.low.i) };
  order = o;
  high = record { k = omega (arith, ints, q.high.k); j = omega (arith, ints, q.high.j); i = omega (arith, ints, q.high.i) };
}

-- bounds that are wide enough
widened : (m : ℤ) {x : IVec} → m ≤ℤ pos 1073741824 → Bounded m x → Bounded (pos 1073741824) x
widened m h b = record {
  low = record { k = omega (arith, ints, h, b.low.k); j = omega (arith, ints, h, b.low.j); i = omega (arith, ints, h, b.low.i) };
  high = record { k = omega (arith, ints, h, b.high.k); j = omega (arith, ints, h, b.high.j); i = omega (arith, ints, h, b.high.i) };
}

nest_bounds : {w : IVec} → AtMost (alike (pos 0)) w → AtMost w (alike (pos 268435456)) → Bounded (pos 268435456) w
nest_bounds h g = record {
  low = record { k = omega (arith, ints, h.k); j = omega (arith, ints, h.j); i = omega (arith, ints, h.i) };
  high = record { k = omega (arith, ints, g.k); j = omega (arith, ints, g.j); i = omega (arith, ints, g.i) };
}

pub small_room : SmallCoversHaveRoom
small_room n e upper lower positive small some few shift base =
    let b = e.base.bx in
    let nest = nest_bounds {w = n.nest} positive small in
    let lo = bounded-minus (pos 268435456) (pos 268435456) (bounded-coarse (pos 268435456) {x = b.lo} {n = n.upper} (omega (arith, ints)) upper.low (in_bounds base.lo)) nest in
    let hi = bounded-plus (pos 268435456) (pos 268435456) (bounded-coarse (pos 268435456) {x = b.hi} {n = n.upper} (omega (arith, ints)) upper.low (in_bounds base.hi)) nest in
    let order = wider (coarse b.lo n.upper) (coarse b.hi n.upper) n.nest (coarse-AtMost {r = n.upper} {x = b.lo} {y = b.hi} upper base.order) positive in
    let low = minus (coarse b.lo n.upper) n.nest in
    let high = plus (coarse b.hi n.upper) n.nest in
    let step = steps_small {s = e.shift} {n = n.frame.size} shift some few in
    let below_lo = bounded-plus (pos 536870912) (pos 268435456) (bounded-coarse (pos 536870912) {x = low} {n = n.lower} (omega (arith, ints)) lower.low lo) step in
    let below_hi = bounded-plus (pos 536870912) (pos 268435456) (bounded-coarse (pos 536870912) {x = high} {n = n.lower} (omega (arith, ints)) lower.low hi) step in
    record {
      grown = is_box {b = grown (coarsened b n.upper) n.nest} (widened (pos 536870912) (omega (arith, ints)) lo) order (widened (pos 536870912) (omega (arith, ints)) hi);
      moved = is_box {b = moved (coarsened (grown (coarsened b n.upper) n.nest) n.lower) (times (opposite e.shift) n.frame.size)}
          (widened (pos 805306368) (omega (arith, ints)) below_lo)
          (moved_order (coarse low n.lower) (coarse high n.lower) (times (opposite e.shift) n.frame.size) (coarse-AtMost {r = n.lower} {x = low} {y = high} lower order))
          (widened (pos 805306368) (omega (arith, ints)) below_hi);
    }
