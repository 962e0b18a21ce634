-- Edges of buckets: the numbers of the buckets of a box, and which boxes have a cell in a bucket.
use Rattle.std.proofs.Common.{◌≡◌, ℕ, ◌+◌, ◌<◌, List, length, take, get_or, ap, ◌∙◌, Bool, true, false, ℤ, pos, negsuc, ◌≤ℤ◌, ◌<ℤ◌, refl, sym, arith}
use Rattle.std.proofs.lemmas.Int.{ints, clamps}
use Rattle.std.proofs.lemmas.List.Sums.{fold_more}
use Rattle.samr_box.specs.declared.vector.IVec.{IVec}
use Rattle.samr_box.specs.Vector.{alike, AtMost, greatest}
use Rattle.samr_box.specs.Corners.{Corners, IsBox, Holds, holds, meets}
use Rattle.samr_box.specs.Ratios.{coarse, coarsened}
use Rattle.samr_box.proofs.Floors.{floor-from_mul, mul-from_floor, floor-to_last, last-from_floor, floor-le, floor_low, floor_high}
use Rattle.samr_box.proofs.CellSets.{Holds-test, holds-from, Meet-test, meets-from}
use Rattle.samr_find.specs.Places.{IsEdge, bucket, edge_of, lengths}

above_zero : {n : ℤ} → pos 1 ≤ℤ n → pos 0 <ℤ n
above_zero h = omega (arith, ints)

pub coarse-order : {e x y : IVec} → IsEdge e → AtMost x y → AtMost (coarse x e) (coarse y e)
coarse-order {e} {x} {y} p h = record {
  k = floor-le e.k x.k y.k (above_zero p.low.k) h.k;
  j = floor-le e.j x.j y.j (above_zero p.low.j) h.j;
  i = floor-le e.i x.i y.i (above_zero p.low.i) h.i;
}

-- the numbers of the buckets of a box are a box
pub IsBox-numbers : {b : Corners} {e : IVec} → IsEdge e → IsBox b → IsBox (coarsened b e)
IsBox-numbers {b} {e} p h = record {
  low = record {
    k = floor_low b.lo.k e.k (negsuc 1073741823) (above_zero p.low.k) (omega (arith, ints)) h.low.k;
    j = floor_low b.lo.j e.j (negsuc 1073741823) (above_zero p.low.j) (omega (arith, ints)) h.low.j;
    i = floor_low b.lo.i e.i (negsuc 1073741823) (above_zero p.low.i) (omega (arith, ints)) h.low.i;
  };
  order = coarse-order p h.order;
  high = record {
    k = floor_high b.hi.k e.k (pos 1073741824) (above_zero p.low.k) (omega (arith, ints)) h.high.k;
    j = floor_high b.hi.j e.j (pos 1073741824) (above_zero p.low.j) (omega (arith, ints)) h.high.j;
    i = floor_high b.hi.i e.i (pos 1073741824) (above_zero p.low.i) (omega (arith, ints)) h.high.i;
  };
}

pub IsEdge-greatest : {a b : IVec} → IsEdge a → IsEdge b → IsEdge (greatest a b)
IsEdge-greatest p q = record {
  low = record { k = omega (arith, ints, clamps, p.low.k); j = omega (arith, ints, clamps, p.low.j); i = omega (arith, ints, clamps, p.low.i) };
  high = record { k = omega (arith, ints, clamps, p.high.k, q.high.k); j = omega (arith, ints, clamps, p.high.j, q.high.j); i = omega (arith, ints, clamps, p.high.i, q.high.i) };
}

same_test : (a b : Bool) → (a ≡ true → b ≡ true) → (b ≡ true → a ≡ true) → a ≡ b
same_test true b f g = sym (f refl)
same_test false true f g = g refl
same_test false false f g = refl

-- a box has a cell in a bucket exactly where the bucket's number is one of the box's
pub meets-bucket : (a : Corners) (e c : IVec) → IsEdge e → meets a (bucket e c) ≡ holds (coarsened a e) c
meets-bucket a e c p = same_test (meets a (bucket e c)) (holds (coarsened a e) c) to from
  where
    to : meets a (bucket e c) ≡ true → holds (coarsened a e) c ≡ true
    to t = let m = Meet-test t in holds-from (record {
      low = record {
        k = floor-to_last a.lo.k e.k c.k (above_zero p.low.k) m.low.k;
        j = floor-to_last a.lo.j e.j c.j (above_zero p.low.j) m.low.j;
        i = floor-to_last a.lo.i e.i c.i (above_zero p.low.i) m.low.i;
      };
      high = record {
        k = floor-from_mul a.hi.k e.k c.k (above_zero p.low.k) m.high.k;
        j = floor-from_mul a.hi.j e.j c.j (above_zero p.low.j) m.high.j;
        i = floor-from_mul a.hi.i e.i c.i (above_zero p.low.i) m.high.i;
      };
    })

    from : holds (coarsened a e) c ≡ true → meets a (bucket e c) ≡ true
    from t = let h = Holds-test t in meets-from (record {
      low = record {
        k = last-from_floor a.lo.k e.k c.k (above_zero p.low.k) h.low.k;
        j = last-from_floor a.lo.j e.j c.j (above_zero p.low.j) h.low.j;
        i = last-from_floor a.lo.i e.i c.i (above_zero p.low.i) h.low.i;
      };
      high = record {
        k = mul-from_floor a.hi.k e.k c.k (above_zero p.low.k) h.high.k;
        j = mul-from_floor a.hi.j e.j c.j (above_zero p.low.j) h.high.j;
        i = mul-from_floor a.hi.i e.i c.i (above_zero p.low.i) h.high.i;
      };
    })

-- the number of the bucket of a cell of a box is one of the box's
pub holds-number : {b : Corners} {e x : IVec} → IsEdge e → Holds b x → Holds (coarsened b e) (coarse x e)
holds-number p h = record { low = coarse-order p h.low; high = coarse-order p h.high }

-- the edge of one box more
pub edge-more : (boxes : List Corners) (n : ℕ) (d : Corners) (edge next length_of : IVec) → n < length boxes → edge ≡ edge_of (take n boxes) → length_of ≡ lengths (get_or boxes n d)
    → next ≡ greatest edge length_of → next ≡ edge_of (take (n + 1) boxes)
edge-more boxes n d edge next length_of below so_far is step =
    step ∙ ap (λ e. greatest e length_of) so_far ∙ ap (λ l. greatest (edge_of (take n boxes)) l) is
    ∙ sym (fold_more (λ e b. greatest e (lengths b)) (alike (pos 1)) boxes n d below)
