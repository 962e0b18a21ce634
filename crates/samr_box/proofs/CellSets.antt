-- Which cells the boxes that calls make have.
use Rattle.std.proofs.Common.{◌≡◌, sym, subst, ◌∙◌, arith}
use Rattle.std.proofs.lemmas.Int.{ints, clamps}
use Rattle.std.proofs.lemmas.Bool.{and_from, and_parts, cond_both, false≢true}
use Rattle.std.specs.Prelude.{ℤ, pos, negsuc, ◌+ℤ◌, ◌*ℤ◌, ◌≤ℤ◌, ◌<ℤ◌, int_le, int_lt, true, ◌&&◌, IsTrue, IsSomeAnd, Option, Some, None, ◌↔◌}
use Rattle.std.specs.Int.{int_max}
use Rattle.samr_box.specs.declared.vector.Axis.{Axis}
use Rattle.samr_box.specs.declared.vector.Axis.TheVariants.{I, J, K}
use Rattle.samr_box.specs.declared.vector.IVec.{IVec}
use Rattle.samr_box.specs.Vector.{at, alike, AtMost, at_most, Within, plus, times, least, greatest, IsRatio}
use Rattle.samr_box.specs.Corners.{Corners, IsBox, Holds, Meet, holds, holds_box, meets, common, met, grown, moved, before, from_plane, below, above, level}
use Rattle.samr_box.specs.Space.{Space, image, whole}
use Rattle.samr_box.specs.Ratios.{floor, coarse, refined, coarsened}
use Rattle.samr_box.proofs.Vectors.{same_cell, AtMost-refl, AtMost-trans, AtMost-at}
use Rattle.samr_box.proofs.Floors.{floor-from_mul, mul-from_floor, floor-to_last, last-from_floor, floor-le, floor_low, floor_high}

-- the tests mean what they should
pub AtMost-test : {a b : IVec} → at_most a b ≡ true → AtMost a b
AtMost-test {a} {b} t =
    let p = and_parts (int_le a.k b.k) (int_le a.j b.j && int_le a.i b.i) t in
    let q = and_parts (int_le a.j b.j) (int_le a.i b.i) p.1 in
    record { k = grind (arith, ints, p.0); j = grind (arith, ints, q.0); i = grind (arith, ints, q.1) }

pub at_most-from : {a b : IVec} → AtMost a b → at_most a b ≡ true
at_most-from h = grind (arith, ints, h.i)

pub holds-from : {b : Corners} {x : IVec} → Holds b x → holds b x ≡ true
holds-from {b} {x} h = and_from (at_most b.lo x) (at_most x b.hi) (at_most-from h.low) (at_most-from h.high)

pub Holds-test : {b : Corners} {x : IVec} → holds b x ≡ true → Holds b x
Holds-test {b} {x} t =
    let p = and_parts (at_most b.lo x) (at_most x b.hi) t in
    record { low = AtMost-test p.0; high = AtMost-test p.1 }

pub meets-from : {a b : Corners} → Meet a b → meets a b ≡ true
meets-from {a} {b} h = and_from (at_most a.lo b.hi) (at_most b.lo a.hi) (at_most-from h.low) (at_most-from h.high)

pub Meet-test : {a b : Corners} → meets a b ≡ true → Meet a b
Meet-test {a} {b} t =
    let p = and_parts (at_most a.lo b.hi) (at_most b.lo a.hi) t in
    record { low = AtMost-test p.0; high = AtMost-test p.1 }

-- the corners of a box are cells of it
pub Holds-lo : {b : Corners} → AtMost b.lo b.hi → Holds b b.lo
Holds-lo {b} h = record { low = AtMost-refl b.lo; high = h }

pub Holds-hi : {b : Corners} → AtMost b.lo b.hi → Holds b b.hi
Holds-hi {b} h = record { low = h; high = AtMost-refl b.hi }

-- all cells of another box
pub holds_box-means : (b part : Corners) → AtMost part.lo part.hi → IsTrue (holds_box b part) ↔ ((x : IVec) → Holds part x → Holds b x)
holds_box-means b part full = (
  λ t x h.
      let p = and_parts (at_most b.lo part.lo) (at_most part.hi b.hi) t in
      record { low = AtMost-trans (AtMost-test p.0) h.low; high = AtMost-trans h.high (AtMost-test p.1) },
  λ f.
      let lo = f part.lo (Holds-lo full) in
      let hi = f part.hi (Holds-hi full) in
      and_from (at_most b.lo part.lo) (at_most part.hi b.hi) (at_most-from lo.low) (at_most-from hi.high),
)

-- common cells
pub Meet-cell : {a b : Corners} {x : IVec} → Holds a x → Holds b x → Meet a b
Meet-cell p q = record { low = AtMost-trans p.low q.high; high = AtMost-trans q.low p.high }

greatest-least : {a b x : IVec} → AtMost (greatest a b) x ↔ (AtMost a x × AtMost b x)
greatest-least = (
  λ h. (
    record { k = omega (arith, ints, clamps, h.k); j = omega (arith, ints, clamps, h.j); i = omega (arith, ints, clamps, h.i) },
    record { k = omega (arith, ints, clamps, h.k); j = omega (arith, ints, clamps, h.j); i = omega (arith, ints, clamps, h.i) },
  ),
  λ h. record { k = omega (arith, ints, clamps, h.0.k, h.1.k); j = omega (arith, ints, clamps, h.0.j, h.1.j); i = omega (arith, ints, clamps, h.0.i, h.1.i) },
)

least-greatest : {a b x : IVec} → AtMost x (least a b) ↔ (AtMost x a × AtMost x b)
least-greatest = (
  λ h. (
    record { k = omega (arith, ints, clamps, h.k); j = omega (arith, ints, clamps, h.j); i = omega (arith, ints, clamps, h.i) },
    record { k = omega (arith, ints, clamps, h.k); j = omega (arith, ints, clamps, h.j); i = omega (arith, ints, clamps, h.i) },
  ),
  λ h. record { k = omega (arith, ints, clamps, h.0.k, h.1.k); j = omega (arith, ints, clamps, h.0.j, h.1.j); i = omega (arith, ints, clamps, h.0.i, h.1.i) },
)

pub Holds-common : (a b : Corners) (x : IVec) → Holds (common a b) x ↔ (Holds a x × Holds b x)
Holds-common a b x = (
  λ h.
      let low = greatest-least {a = a.lo} {b = b.lo} {x = x} in
      let high = least-greatest {a = a.hi} {b = b.hi} {x = x} in
      let p = low.0 h.low in
      let q = high.0 h.high in
      (record { low = p.0; high = q.0 }, record { low = p.1; high = q.1 }),
  λ h.
      let low = greatest-least {a = a.lo} {b = b.lo} {x = x} in
      let high = least-greatest {a = a.hi} {b = b.hi} {x = x} in
      record { low = low.1 (h.0.low, h.1.low); high = high.1 (h.0.high, h.1.high) },
)

pub order-common : {a b : Corners} → AtMost a.lo a.hi → AtMost b.lo b.hi → Meet a b → AtMost (greatest a.lo b.lo) (least a.hi b.hi)
order-common {a} {b} p q h = record {
  k = omega (arith, ints, clamps, p.k, q.k, h.low.k, h.high.k);
  j = omega (arith, ints, clamps, p.j, q.j, h.low.j, h.high.j);
  i = omega (arith, ints, clamps, p.i, q.i, h.low.i, h.high.i);
}

-- two boxes that are not empty meet exactly where they have a common cell
pub meets-means : (a b : Corners) → AtMost a.lo a.hi → AtMost b.lo b.hi → IsTrue (meets a b) ↔ ((x : IVec) × Holds a x × Holds b x)
meets-means a b p q = (
  λ t.
      let o = order-common p q (Meet-test {a = a} {b = b} t) in
      let c = Holds-common a b (greatest a.lo b.lo) in
      let h = c.0 (record { low = AtMost-refl (greatest a.lo b.lo); high = o }) in
      (greatest a.lo b.lo, h.0, h.1),
  λ (x, h, g). meets-from (Meet-cell h g),
)

pub met-cells : (a b : Corners) (x : IVec) → IsSomeAnd (met a b) (λ c. Holds c x) ↔ (Holds a x × Holds b x)
met-cells a b x =
    cond_both (meets a b) (Some (common a b)) None (λ r. IsSomeAnd r (λ c. Holds c x) ↔ (Holds a x × Holds b x))
    (λ t. Holds-common a b x)
    (λ f. (λ h. absurd h, λ h. false≢true (sym f ∙ meets-from (Meet-cell h.0 h.1))))

-- the cell of a box that is nearest to x
nearest : Corners → IVec → IVec
nearest b x = greatest b.lo (least x b.hi)

-- growing
pub Holds-grown : (b : Corners) (w : IVec) → AtMost b.lo b.hi → AtMost (alike (pos 0)) w → (x : IVec) → Holds (grown b w) x ↔ ((y : IVec) × Holds b y × Within w y x)
unfolding nearest
Holds-grown b w full wide x = (
  λ h. (
    nearest b x,
    record {
      low = record { k = omega (arith, ints, clamps); j = omega (arith, ints, clamps); i = omega (arith, ints, clamps) };
      high = record { k = omega (arith, ints, clamps, full.k); j = omega (arith, ints, clamps, full.j); i = omega (arith, ints, clamps, full.i) };
    },
    record {
      low = record { k = omega (arith, ints, clamps, h.low.k, wide.k); j = omega (arith, ints, clamps, h.low.j, wide.j); i = omega (arith, ints, clamps, h.low.i, wide.i) };
      high = record { k = omega (arith, ints, clamps, h.high.k, wide.k); j = omega (arith, ints, clamps, h.high.j, wide.j); i = omega (arith, ints, clamps, h.high.i, wide.i) };
    },
  ),
  λ (y, h, near). record {
    low = record { k = omega (arith, ints, h.low.k, near.low.k); j = omega (arith, ints, h.low.j, near.low.j); i = omega (arith, ints, h.low.i, near.low.i) };
    high = record { k = omega (arith, ints, h.high.k, near.high.k); j = omega (arith, ints, h.high.j, near.high.j); i = omega (arith, ints, h.high.i, near.high.i) };
  },
)

-- moving
pub Holds-moved : (b : Corners) (step x : IVec) → Holds (moved b step) (plus x step) ↔ Holds b x
Holds-moved b step x = (
  λ h. record {
    low = record { k = omega (arith, ints, h.low.k); j = omega (arith, ints, h.low.j); i = omega (arith, ints, h.low.i) };
    high = record { k = omega (arith, ints, h.high.k); j = omega (arith, ints, h.high.j); i = omega (arith, ints, h.high.i) };
  },
  λ h. record {
    low = record { k = omega (arith, ints, h.low.k); j = omega (arith, ints, h.low.j); i = omega (arith, ints, h.low.i) };
    high = record { k = omega (arith, ints, h.high.k); j = omega (arith, ints, h.high.j); i = omega (arith, ints, h.high.i) };
  },
)

-- splitting
pub Holds-before : (axis : Axis) (b : Corners) (plane : ℤ) (x : IVec) → plane ≤ℤ at axis b.hi → Holds (before axis b plane) x ↔ (Holds b x × (at axis x <ℤ plane))
Holds-before I b plane x p = (
  λ h. (record { low = h.low; high = record { k = h.high.k; j = h.high.j; i = omega (arith, ints, h.high.i) } }, omega (arith, ints, h.high.i)),
  λ h. record { low = h.0.low; high = record { k = h.0.high.k; j = h.0.high.j; i = omega (arith, ints, h.1) } },
)
Holds-before J b plane x p = (
  λ h. (record { low = h.low; high = record { k = h.high.k; j = omega (arith, ints, h.high.j); i = h.high.i } }, omega (arith, ints, h.high.j)),
  λ h. record { low = h.0.low; high = record { k = h.0.high.k; j = omega (arith, ints, h.1); i = h.0.high.i } },
)
Holds-before K b plane x p = (
  λ h. (record { low = h.low; high = record { k = omega (arith, ints, h.high.k); j = h.high.j; i = h.high.i } }, omega (arith, ints, h.high.k)),
  λ h. record { low = h.0.low; high = record { k = omega (arith, ints, h.1); j = h.0.high.j; i = h.0.high.i } },
)

pub Holds-from_plane : (axis : Axis) (b : Corners) (plane : ℤ) (x : IVec) → at axis b.lo ≤ℤ plane → Holds (from_plane axis b plane) x ↔ (Holds b x × (plane ≤ℤ at axis x))
Holds-from_plane I b plane x p = (
  λ h. (record { low = record { k = h.low.k; j = h.low.j; i = omega (arith, ints, h.low.i) }; high = h.high }, h.low.i),
  λ h. record { low = record { k = h.0.low.k; j = h.0.low.j; i = h.1 }; high = h.0.high },
)
Holds-from_plane J b plane x p = (
  λ h. (record { low = record { k = h.low.k; j = omega (arith, ints, h.low.j); i = h.low.i }; high = h.high }, h.low.j),
  λ h. record { low = record { k = h.0.low.k; j = h.1; i = h.0.low.i }; high = h.0.high },
)
Holds-from_plane K b plane x p = (
  λ h. (record { low = record { k = omega (arith, ints, h.low.k); j = h.low.j; i = h.low.i }; high = h.high }, h.low.k),
  λ h. record { low = record { k = h.1; j = h.0.low.j; i = h.0.low.i }; high = h.0.high },
)

-- refining and coarsening
above_zero : {n : ℤ} → pos 1 ≤ℤ n → pos 0 <ℤ n
above_zero h = omega (arith, ints)

pub coarse-AtMost : {r x y : IVec} → IsRatio r → AtMost x y → AtMost (coarse x r) (coarse y r)
coarse-AtMost {r} {x} {y} p h = record {
  k = floor-le r.k x.k y.k (above_zero p.low.k) h.k;
  j = floor-le r.j x.j y.j (above_zero p.low.j) h.j;
  i = floor-le r.i x.i y.i (above_zero p.low.i) h.i;
}

pub Holds-refined : (b : Corners) (r x : IVec) → IsRatio r → Holds (refined b r) x ↔ Holds b (coarse x r)
Holds-refined b r x p = (
  λ h. record {
    low = record {
      k = floor-from_mul x.k r.k b.lo.k (above_zero p.low.k) h.low.k;
      j = floor-from_mul x.j r.j b.lo.j (above_zero p.low.j) h.low.j;
      i = floor-from_mul x.i r.i b.lo.i (above_zero p.low.i) h.low.i;
    };
    high = record {
      k = floor-to_last x.k r.k b.hi.k (above_zero p.low.k) h.high.k;
      j = floor-to_last x.j r.j b.hi.j (above_zero p.low.j) h.high.j;
      i = floor-to_last x.i r.i b.hi.i (above_zero p.low.i) h.high.i;
    };
  },
  λ h. record {
    low = record {
      k = mul-from_floor x.k r.k b.lo.k (above_zero p.low.k) h.low.k;
      j = mul-from_floor x.j r.j b.lo.j (above_zero p.low.j) h.low.j;
      i = mul-from_floor x.i r.i b.lo.i (above_zero p.low.i) h.low.i;
    };
    high = record {
      k = last-from_floor x.k r.k b.hi.k (above_zero p.low.k) h.high.k;
      j = last-from_floor x.j r.j b.hi.j (above_zero p.low.j) h.high.j;
      i = last-from_floor x.i r.i b.hi.i (above_zero p.low.i) h.high.i;
    };
  },
)

-- on one axis, a number from the quotient of lo to that of hi is the quotient of a number between them
child_of : ℤ → ℤ → ℤ → ℤ
child_of lo r x = int_max lo (x *ℤ r)

child-of : (lo hi r x : ℤ) → pos 0 <ℤ r → lo ≤ℤ hi → floor lo r ≤ℤ x → x ≤ℤ floor hi r → (lo ≤ℤ child_of lo r x) × (child_of lo r x ≤ℤ hi) × (floor (child_of lo r x) r ≡ x)
unfolding child_of
child-of lo hi r x p h low high =
    let below_last = last-from_floor lo r x p low in
    let above_first = mul-from_floor hi r x p high in
    let first = floor-from_mul (child_of lo r x) r x p (omega (arith, ints, clamps)) in
    let last = floor-to_last (child_of lo r x) r x p (omega (arith, ints, clamps, below_last)) in
    (omega (arith, ints, clamps), omega (arith, ints, clamps, above_first), omega (arith, ints, first, last))

pub Holds-coarsened : (b : Corners) (r : IVec) → AtMost b.lo b.hi → IsRatio r → (x : IVec) → Holds (coarsened b r) x ↔ ((y : IVec) × Holds b y × (coarse y r ≡ x))
Holds-coarsened b r full p x = (
  λ h.
      let k = child-of b.lo.k b.hi.k r.k x.k (above_zero p.low.k) full.k h.low.k h.high.k in
      let j = child-of b.lo.j b.hi.j r.j x.j (above_zero p.low.j) full.j h.low.j h.high.j in
      let i = child-of b.lo.i b.hi.i r.i x.i (above_zero p.low.i) full.i h.low.i h.high.i in (
        record { k = child_of b.lo.k r.k x.k; j = child_of b.lo.j r.j x.j; i = child_of b.lo.i r.i x.i },
        record { low = record { k = k.0; j = j.0; i = i.0 }; high = record { k = k.1; j = j.1; i = i.1 } },
        same_cell k.2 j.2 i.2,
      ),
  λ (y, h, e).
      let low = coarse-AtMost p h.low in
      let high = coarse-AtMost p h.high in
      record { low = rw e at low; high = rw e at high },
)

pub IsBox-coarsened : {b : Corners} {r : IVec} → IsRatio r → IsBox b → IsBox (coarsened b r)
IsBox-coarsened {b} {r} p h = record {
  low = record {
    k = floor_low b.lo.k r.k (negsuc 1073741823) (above_zero p.low.k) (omega (arith, ints)) h.low.k;
    j = floor_low b.lo.j r.j (negsuc 1073741823) (above_zero p.low.j) (omega (arith, ints)) h.low.j;
    i = floor_low b.lo.i r.i (negsuc 1073741823) (above_zero p.low.i) (omega (arith, ints)) h.low.i;
  };
  order = coarse-AtMost p h.order;
  high = record {
    k = floor_high b.hi.k r.k (pos 1073741824) (above_zero p.low.k) (omega (arith, ints)) h.high.k;
    j = floor_high b.hi.j r.j (pos 1073741824) (above_zero p.low.j) (omega (arith, ints)) h.high.j;
    i = floor_high b.hi.i r.i (pos 1073741824) (above_zero p.low.i) (omega (arith, ints)) h.high.i;
  };
}

pub IsBox-common : {a b : Corners} → IsBox a → IsBox b → Meet a b → IsBox (common a b)
IsBox-common {a} {b} p q m = record {
  low = record {
    k = omega (arith, ints, clamps, p.low.k);
    j = omega (arith, ints, clamps, p.low.j);
    i = omega (arith, ints, clamps, p.low.i);
  };
  order = order-common {a = a} {b = b} p.order q.order m;
  high = record {
    k = omega (arith, ints, clamps, p.high.k);
    j = omega (arith, ints, clamps, p.high.j);
    i = omega (arith, ints, clamps, p.high.i);
  };
}

AtMost-plus : {a b : IVec} (step : IVec) → AtMost a b → AtMost (plus a step) (plus b step)
AtMost-plus step h = record {
  k = omega (arith, ints, h.k);
  j = omega (arith, ints, h.j);
  i = omega (arith, ints, h.i);
}

pub images-means : (d : Space) (a b : Corners) (s : IVec) → AtMost a.lo a.hi → AtMost b.lo b.hi → IsTrue (meets a (image d b s)) ↔ ((x : IVec) × Holds a x × Holds (image d b s) x)
images-means d a b s p q = meets-means a (image d b s) p (AtMost-plus (times s d.size) q)

-- the slabs of a box below and above another, and the part level with it
pub Holds-below : (axis : Axis) (a b : Corners) → Meet a b → (x : IVec) → IsSomeAnd (below axis a b) (λ s. Holds s x) ↔ (Holds a x × (at axis x <ℤ at axis b.lo))
Holds-below axis a b m x =
    cond_both (int_lt (at axis a.lo) (at axis b.lo)) (Some (before axis a (at axis b.lo))) None
    (λ r. IsSomeAnd r (λ s. Holds s x) ↔ (Holds a x × (at axis x <ℤ at axis b.lo)))
    (λ t. Holds-before axis a (at axis b.lo) x (AtMost-at axis m.high))
    (λ f. (
      λ h. absurd h,
      λ h.
          let inside : at axis a.lo ≤ℤ at axis x = AtMost-at axis h.0.low in
          let over : at axis b.lo ≤ℤ at axis a.lo = grind (arith, ints, f) in
          absurd (omega (arith, ints, inside, over, h.1)),
    ))

pub Holds-above : (axis : Axis) (a b : Corners) → Meet a b → (x : IVec) → IsSomeAnd (above axis a b) (λ s. Holds s x) ↔ (Holds a x × (at axis b.hi <ℤ at axis x))
Holds-above axis a b m x =
    let low : at axis a.lo ≤ℤ at axis b.hi = AtMost-at axis m.low in
    cond_both (int_lt (at axis b.hi) (at axis a.hi)) (Some (from_plane axis a (at axis b.hi +ℤ pos 1))) None
    (λ r. IsSomeAnd r (λ s. Holds s x) ↔ (Holds a x × (at axis b.hi <ℤ at axis x)))
    (λ t.
    let h = Holds-from_plane axis a (at axis b.hi +ℤ pos 1) x (omega (arith, ints, low)) in
    (λ p. let q = h.0 p in (q.0, omega (arith, ints, q.1)), λ p. h.1 (p.0, omega (arith, ints, p.1))))
    (λ f. (
      λ h. absurd h,
      λ h.
          let inside : at axis x ≤ℤ at axis a.hi = AtMost-at axis h.0.high in
          let under : at axis a.hi ≤ℤ at axis b.hi = grind (arith, ints, f) in
          absurd (omega (arith, ints, inside, under, h.1)),
    ))

pub Holds-level : (axis : Axis) (a b : Corners) (x : IVec) → Holds (level axis a b) x ↔ (Holds a x × (at axis b.lo ≤ℤ at axis x) × (at axis x ≤ℤ at axis b.hi))
Holds-level I a b x = (
  λ h. (
    record {
      low = record { k = h.low.k; j = h.low.j; i = omega (arith, ints, clamps, h.low.i) };
      high = record { k = h.high.k; j = h.high.j; i = omega (arith, ints, clamps, h.high.i) };
    },
    omega (arith, ints, clamps, h.low.i),
    omega (arith, ints, clamps, h.high.i),
  ),
  λ h. record {
    low = record { k = h.0.low.k; j = h.0.low.j; i = omega (arith, ints, clamps, h.0.low.i, h.1) };
    high = record { k = h.0.high.k; j = h.0.high.j; i = omega (arith, ints, clamps, h.0.high.i, h.2) };
  },
)
Holds-level J a b x = (
  λ h. (
    record {
      low = record { k = h.low.k; j = omega (arith, ints, clamps, h.low.j); i = h.low.i };
      high = record { k = h.high.k; j = omega (arith, ints, clamps, h.high.j); i = h.high.i };
    },
    omega (arith, ints, clamps, h.low.j),
    omega (arith, ints, clamps, h.high.j),
  ),
  λ h. record {
    low = record { k = h.0.low.k; j = omega (arith, ints, clamps, h.0.low.j, h.1); i = h.0.low.i };
    high = record { k = h.0.high.k; j = omega (arith, ints, clamps, h.0.high.j, h.2); i = h.0.high.i };
  },
)
Holds-level K a b x = (
  λ h. (
    record {
      low = record { k = omega (arith, ints, clamps, h.low.k); j = h.low.j; i = h.low.i };
      high = record { k = omega (arith, ints, clamps, h.high.k); j = h.high.j; i = h.high.i };
    },
    omega (arith, ints, clamps, h.low.k),
    omega (arith, ints, clamps, h.high.k),
  ),
  λ h. record {
    low = record { k = omega (arith, ints, clamps, h.0.low.k, h.1); j = h.0.low.j; i = h.0.low.i };
    high = record { k = omega (arith, ints, clamps, h.0.high.k, h.2); j = h.0.high.j; i = h.0.high.i };
  },
)

-- the cells of a domain
pub Holds-whole : (d : Space) (x : IVec) → Holds (whole d) x ↔ ((axis : Axis) → (pos 0 ≤ℤ at axis x) × (at axis x <ℤ at axis d.size))
Holds-whole d x = (
  λ h axis. on_axis axis h,
  λ h. record {
    low = record { k = (h K).0; j = (h J).0; i = (h I).0 };
    high = record { k = omega (arith, ints, (h K).1); j = omega (arith, ints, (h J).1); i = omega (arith, ints, (h I).1) };
  },
)
  where
    on_axis : (axis : Axis) → Holds (whole d) x → (pos 0 ≤ℤ at axis x) × (at axis x <ℤ at axis d.size)
    on_axis I h = (h.low.i, omega (arith, ints, h.high.i))
    on_axis J h = (h.low.j, omega (arith, ints, h.high.j))
    on_axis K h = (h.low.k, omega (arith, ints, h.high.k))

-- the same of a value that equals the slab
pub Holds-below_at : (axis : Axis) (a b : Corners) → Meet a b → (r : Option Corners) → r ≡ below axis a b → (x : IVec) → IsSomeAnd r (λ s. Holds s x) ↔ (Holds a x × (at axis x <ℤ at axis b.lo))
Holds-below_at axis a b m r e x =
    subst (λ (o : Option Corners). IsSomeAnd o (λ s. Holds s x) ↔ (Holds a x × (at axis x <ℤ at axis b.lo))) (sym e) (Holds-below axis a b m x)

pub Holds-above_at : (axis : Axis) (a b : Corners) → Meet a b → (r : Option Corners) → r ≡ above axis a b → (x : IVec) → IsSomeAnd r (λ s. Holds s x) ↔ (Holds a x × (at axis b.hi <ℤ at axis x))
Holds-above_at axis a b m r e x =
    subst (λ (o : Option Corners). IsSomeAnd o (λ s. Holds s x) ↔ (Holds a x × (at axis b.hi <ℤ at axis x))) (sym e) (Holds-above axis a b m x)
