-- A box that is near a part of another is near the whole of it.
use Rattle.std.proofs.Common.{◌≡◌, arith}
use Rattle.std.proofs.lemmas.Int.{ints}
use Rattle.std.specs.Prelude.{ℤ, pos, true, ◌*ℤ◌, ◌≤ℤ◌}
use Rattle.samr_box.specs.declared.vector.IVec.{IVec}
use Rattle.samr_box.specs.Vector.{IsRatio}
use Rattle.samr_box.specs.Corners.{Corners, grown}
use Rattle.samr_box.specs.Ratios.{refined}
use Rattle.samr_box.specs.Space.{image}
use Rattle.samr_box.proofs.Products.{mul_le}
use Rattle.samr_box.proofs.CellSets.{meets-from, Meet-test}
use Rattle.samr_level.specs.Overlaps.{Scale, near}
use Rattle.samr_modify.specs.Modify.{LiesIn}

up : (r a b : ℤ) → pos 1 ≤ℤ r → a ≤ℤ b → (a *ℤ r) ≤ℤ (b *ℤ r)
up r a b p h = mul_le r a b (omega (arith, ints)) h

pub near_head : (n : Scale) (a part whole : Corners) (s : IVec) → IsRatio n.head → LiesIn part whole → near n a part s ≡ true → near n a whole s ≡ true
near_head n a part whole s r h t =
    let m = Meet-test {a = grown (refined a n.base) n.reach} {b = image n.domain (refined part n.head) s} t in
    let lk = up n.head.k whole.lo.k part.lo.k r.low.k h.low.k in
    let lj = up n.head.j whole.lo.j part.lo.j r.low.j h.low.j in
    let li = up n.head.i whole.lo.i part.lo.i r.low.i h.low.i in
    let hk = up n.head.k part.hi.k whole.hi.k r.low.k h.high.k in
    let hj = up n.head.j part.hi.j whole.hi.j r.low.j h.high.j in
    let hi = up n.head.i part.hi.i whole.hi.i r.low.i h.high.i in
    meets-from {a = grown (refined a n.base) n.reach} {b = image n.domain (refined whole n.head) s}
    (record {
      low = record { k = omega (arith, ints, m.low.k, hk); j = omega (arith, ints, m.low.j, hj); i = omega (arith, ints, m.low.i, hi) };
      high = record { k = omega (arith, ints, m.high.k, lk); j = omega (arith, ints, m.high.j, lj); i = omega (arith, ints, m.high.i, li) };
    })

pub near_base : (n : Scale) (part whole b : Corners) (s : IVec) → IsRatio n.base → LiesIn part whole → near n part b s ≡ true → near n whole b s ≡ true
near_base n part whole b s r h t =
    let m = Meet-test {a = grown (refined part n.base) n.reach} {b = image n.domain (refined b n.head) s} t in
    let lk = up n.base.k whole.lo.k part.lo.k r.low.k h.low.k in
    let lj = up n.base.j whole.lo.j part.lo.j r.low.j h.low.j in
    let li = up n.base.i whole.lo.i part.lo.i r.low.i h.low.i in
    let hk = up n.base.k part.hi.k whole.hi.k r.low.k h.high.k in
    let hj = up n.base.j part.hi.j whole.hi.j r.low.j h.high.j in
    let hi = up n.base.i part.hi.i whole.hi.i r.low.i h.high.i in
    meets-from {a = grown (refined whole n.base) n.reach} {b = image n.domain (refined b n.head) s}
    (record {
      low = record { k = omega (arith, ints, m.low.k, lk); j = omega (arith, ints, m.low.j, lj); i = omega (arith, ints, m.low.i, li) };
      high = record { k = omega (arith, ints, m.high.k, hk); j = omega (arith, ints, m.high.j, hj); i = omega (arith, ints, m.high.i, hi) };
    })
