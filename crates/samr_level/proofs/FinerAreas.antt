-- The domain of a finer level is a domain: its parts lie in its frame, and no two have a common cell.
use Rattle.std.proofs.Common.{◌≡◌, ℕ, zero, suc, ◌<◌, refl, sym, subst, length, get_or, arith}
use Rattle.std.proofs.lemmas.Int.{ints}
use Rattle.std.proofs.lemmas.Bool.{and_from, and_parts}
use Rattle.std.proofs.lemmas.List.{length-map}
use Rattle.std.specs.Prelude.{ℤ, pos, ◌+ℤ◌, ◌-ℤ◌, ◌*ℤ◌, ◌≤ℤ◌, IsTrue, List, [], ◌∷◌, map}
use Rattle.std.specs.List.{All}
use Rattle.samr_box.specs.declared.vector.IVec.{IVec}
use Rattle.samr_box.specs.Vector.{alike, AtMost, at_most, IsRatio}
use Rattle.samr_box.specs.Corners.{Corners, IsBox, Meet, holds_box}
use Rattle.samr_box.specs.Ratios.{refined}
use Rattle.samr_box.specs.Space.{Space, IsSpace, whole, finer}
use Rattle.samr_box.specs.Lists.{Member}
use Rattle.samr_box.proofs.CellSets.{AtMost-test, at_most-from}
use Rattle.samr_box.proofs.Members.{All-from_members, member_of_All, Member-from_map}
use Rattle.samr_box.proofs.Products.{mul_le, mul-minus, mul-plus, mul_lt_back}
use Rattle.samr_boxlist.specs.Covers.{NoneMeet}
use Rattle.samr_level.specs.Regions.{Area, IsArea, finer_area}

-- on one axis
record IsInside (n r lo hi : ℤ) : Type 0 where
  low : pos 0 ≤ℤ (lo *ℤ r)
  order : (lo *ℤ r) ≤ℤ ((hi *ℤ r) +ℤ (r -ℤ pos 1))
  high : ((hi *ℤ r) +ℤ (r -ℤ pos 1)) ≤ℤ ((n *ℤ r) -ℤ pos 1)

inside_on : (n r lo hi : ℤ) → pos 1 ≤ℤ r → pos 0 ≤ℤ lo → lo ≤ℤ hi → hi ≤ℤ (n -ℤ pos 1) → IsInside n r lo hi
inside_on n r lo hi one low order high =
    let a = mul_le r (pos 0) lo (omega (arith, ints)) low in
    let b = mul_le r lo hi (omega (arith, ints)) order in
    let c = mul_le r hi (n -ℤ pos 1) (omega (arith, ints)) high in
    let d = mul-minus n (pos 1) r in
    record { low = omega (arith, ints, a); order = omega (arith, ints, b); high = omega (arith, ints, c, d) }

record IsPart (d : Space) (p : Corners) : Type 0 where
  low : AtMost (alike (pos 0)) p.lo
  high : AtMost p.hi (whole d).hi

part_of : (d : Space) (p : Corners) → IsTrue (holds_box (whole d) p) → IsPart d p
part_of d p t =
    let h = and_parts (at_most (alike (pos 0)) p.lo) (at_most p.hi (whole d).hi) t in
    record { low = AtMost-test h.0; high = AtMost-test h.1 }

pub refined-part : (d : Space) (p : Corners) (r : IVec) → IsSpace (finer d r) → IsRatio r → IsBox p → IsTrue (holds_box (whole d) p)
    → IsBox (refined p r) × IsTrue (holds_box (whole (finer d r)) (refined p r))
refined-part d p r s q b t =
    let h = part_of d p t in
    let k = inside_on d.size.k r.k p.lo.k p.hi.k q.low.k h.low.k b.order.k h.high.k in
    let j = inside_on d.size.j r.j p.lo.j p.hi.j q.low.j h.low.j b.order.j h.high.j in
    let i = inside_on d.size.i r.i p.lo.i p.hi.i q.low.i h.low.i b.order.i h.high.i in
    let low : AtMost (alike (pos 0)) (refined p r).lo = record { k = k.low; j = j.low; i = i.low } in
    let high : AtMost (refined p r).hi (whole (finer d r)).hi = record { k = k.high; j = j.high; i = i.high } in (
      record {
        low = record { k = omega (arith, ints, k.low); j = omega (arith, ints, j.low); i = omega (arith, ints, i.low) };
        order = record { k = k.order; j = j.order; i = i.order };
        high = record {
          k = omega (arith, ints, k.high, s.high.k);
          j = omega (arith, ints, j.high, s.high.j);
          i = omega (arith, ints, i.high, s.high.i);
        };
      },
      and_from (at_most (alike (pos 0)) (refined p r).lo) (at_most (refined p r).hi (whole (finer d r)).hi) (at_most-from low) (at_most-from high),
    )

-- refined boxes meet only where the boxes do
below_back : (r lo hi : ℤ) → pos 1 ≤ℤ r → (lo *ℤ r) ≤ℤ ((hi *ℤ r) +ℤ (r -ℤ pos 1)) → lo ≤ℤ hi
below_back r lo hi one h =
    let e = mul-plus hi (pos 1) r in
    let f = mul_lt_back r lo (hi +ℤ pos 1) (omega (arith, ints)) (omega (arith, ints, e, h)) in
    omega (arith, ints, f)

Meet-refined : (r : IVec) (a b : Corners) → IsRatio r → Meet (refined a r) (refined b r) → Meet a b
Meet-refined r a b q m = record {
  low = record {
    k = below_back r.k a.lo.k b.hi.k q.low.k m.low.k;
    j = below_back r.j a.lo.j b.hi.j q.low.j m.low.j;
    i = below_back r.i a.lo.i b.hi.i q.low.i m.low.i;
  };
  high = record {
    k = below_back r.k b.lo.k a.hi.k q.low.k m.high.k;
    j = below_back r.j b.lo.j a.hi.j q.low.j m.high.j;
    i = below_back r.i b.lo.i a.hi.i q.low.i m.high.i;
  };
}

get_or_map : (f : Corners → Corners) (xs : List Corners) (i : ℕ) (d : Corners) → i < length xs → get_or (map f xs) i d ≡ f (get_or xs i d)
get_or_map f [] i d below = absurd (omega (arith, below))
get_or_map f (x ∷ xs) zero d below = refl
get_or_map f (x ∷ xs) (suc i) d below = get_or_map f xs i d (omega (arith, below))

NoneMeet-refined : (r : IVec) (parts : List Corners) → IsRatio r → NoneMeet parts → NoneMeet (map (λ p. refined p r) parts)
NoneMeet-refined r parts q apart i j d less below m =
    let f : Corners → Corners = λ p. refined p r in
    let long = length-map parts f in
    let j_within : j < length parts = omega (arith, below, long) in
    let i_within : i < length parts = omega (arith, less, j_within) in
    let left = subst (λ (v : Corners). Meet v (get_or (map f parts) j d)) (get_or_map f parts i d i_within) m in
    let both = subst (λ (v : Corners). Meet (refined (get_or parts i d) r) v) (get_or_map f parts j d j_within) left in
    apart i j d less j_within (Meet-refined r (get_or parts i d) (get_or parts j d) q both)

pub all-refined : (a : Area) (r : IVec) → IsArea a → IsRatio r → IsSpace (finer a.frame r) → All (λ p. IsBox (refined p r)) a.parts
all-refined a r h q s =
    All-from_members (λ p. IsBox (refined p r)) a.parts
    (λ p m. (refined-part a.frame p r s q (member_of_All IsBox p a.parts h.boxes m) (member_of_All (λ p. IsTrue (holds_box (whole a.frame) p)) p a.parts h.inside m)).0)

pub IsArea-finer : (a : Area) (r : IVec) → IsArea a → IsRatio r → IsSpace (finer a.frame r) → IsArea (finer_area a r)
IsArea-finer a r h q s =
    let parts = map (λ p. refined p r) a.parts in
    let each = λ (p : Corners) (m : Member p a.parts).
    refined-part a.frame p r s q (member_of_All IsBox p a.parts h.boxes m) (member_of_All (λ p. IsTrue (holds_box (whole a.frame) p)) p a.parts h.inside m) in
    record {
      frame = s;
      boxes = All-from_members IsBox parts
          (λ v m. let o = Member-from_map (λ p. refined p r) v a.parts m in subst (λ (u : Corners). IsBox u) (sym o.2) (each o.0 o.1).0);
      inside = All-from_members (λ p. IsTrue (holds_box (whole (finer a.frame r)) p)) parts
          (λ v m. let o = Member-from_map (λ p. refined p r) v a.parts m in subst (λ (u : Corners). IsTrue (holds_box (whole (finer a.frame r)) u)) (sym o.2) (each o.0 o.1).1);
      apart = NoneMeet-refined r a.parts q h.apart;
    }
