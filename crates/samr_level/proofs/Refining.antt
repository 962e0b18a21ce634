-- A level in a finer index space: its cells, its domain, and that it is a level there.
use Rattle.std.proofs.Common.{◌≡◌, ℕ, ◌<◌, refl, sym, ap, subst, ◌∙◌, arith, length}
use Rattle.std.proofs.lemmas.Int.{ints}
use Rattle.std.proofs.lemmas.List.{length-map}
use Rattle.std.specs.Prelude.{ℤ, pos, ◌+ℤ◌, ◌-ℤ◌, ◌*ℤ◌, ◌≤ℤ◌, ◌<ℤ◌, Bool, true, false, cond, List, [], ◌∷◌, map, ◌↔◌, ◌==◌}
use Rattle.std.specs.Cmp.{int_ranks, int_cmp_is}
use Rattle.std.specs.Ordering.{int_cmp, nat_cmp, ordering_then, MatchOrdering}
use Rattle.std.specs.declared.cmp.Ordering.{Ordering}
use Rattle.std.specs.declared.cmp.Ordering.TheVariants.{Less, Equal, Greater}
use Rattle.samr_box.specs.declared.vector.IVec.{IVec}
use Rattle.samr_box.specs.Vector.{times, AtMost, IsRatio}
use Rattle.samr_box.specs.Corners.{Corners, Holds}
use Rattle.samr_box.specs.Orders.{cell_cmp, corner_cmp}
use Rattle.samr_box.specs.Ratios.{coarse, refined, last_child}
use Rattle.samr_box.specs.Space.{Space, whole, finer}
use Rattle.samr_box.specs.Lists.{Member}
use Rattle.samr_box.proofs.Vectors.{same_cell}
use Rattle.samr_box.proofs.Products.{mul-plus, mul-minus, mul_assoc, mul_one, mul_zero, mul_le, mul_lt}
use Rattle.samr_box.proofs.CellSets.{Holds-refined, Meet-cell, meets-means, meets-from}
use Rattle.samr_box.proofs.Members.{Member-map, Member-from_map}
use Rattle.samr_box.proofs.Totals.{same_corners}
use Rattle.samr_box.proofs.Ascending.{sorted-map}
use Rattle.samr_level.specs.Refs.{Owned}
use Rattle.samr_level.specs.RefOrders.{ref_cmp}
use Rattle.samr_level.specs.Regions.{Area, boxes_of, IsCellOf, finer_area}
use Rattle.samr_level.specs.Levels.{IsLevel, IsCellIn}
use Rattle.samr_level.specs.Refined.{refined_box, refined_level}

-- comparisons of numbers are those of their images by a map that keeps order
cmp_kept : (x y u v : ℤ) → (x <ℤ y → u <ℤ v) → (x ≡ y → u ≡ v) → (y <ℤ x → v <ℤ u) → int_cmp u v ≡ int_cmp x y
cmp_kept x y u v less same more = sym (int_cmp_is u v (int_cmp x y) (by (int_cmp x y) (int_ranks x y)))
  where
    by : (r : Ordering) → MatchOrdering r (x <ℤ y) (x ≡ y) (y <ℤ x) → MatchOrdering r (u <ℤ v) (u ≡ v) (v <ℤ u)
    by Less h = less h
    by Equal h = same h
    by Greater h = more h

cmp_times : (x y r : ℤ) → pos 1 ≤ℤ r → int_cmp (x *ℤ r) (y *ℤ r) ≡ int_cmp x y
cmp_times x y r one =
    cmp_kept x y (x *ℤ r) (y *ℤ r) (λ h. mul_lt r x y (omega (arith, ints)) h) (λ e. ap (λ (v : ℤ). v *ℤ r) e) (λ h. mul_lt r y x (omega (arith, ints)) h)

cmp_last : (x y r : ℤ) → pos 1 ≤ℤ r → int_cmp ((x *ℤ r) +ℤ (r -ℤ pos 1)) ((y *ℤ r) +ℤ (r -ℤ pos 1)) ≡ int_cmp x y
cmp_last x y r one =
    cmp_kept x y ((x *ℤ r) +ℤ (r -ℤ pos 1)) ((y *ℤ r) +ℤ (r -ℤ pos 1))
    (λ h. let m = mul_lt r x y (omega (arith, ints)) h in omega (arith, ints, m))
    (λ e. ap (λ (v : ℤ). (v *ℤ r) +ℤ (r -ℤ pos 1)) e)
    (λ h. let m = mul_lt r y x (omega (arith, ints)) h in omega (arith, ints, m))

cells_kept : (a b u v : IVec) → int_cmp u.k v.k ≡ int_cmp a.k b.k → int_cmp u.j v.j ≡ int_cmp a.j b.j → int_cmp u.i v.i ≡ int_cmp a.i b.i → cell_cmp u v ≡ cell_cmp a b
cells_kept a b u v k j i = rw (k, j, i) refl

corners_kept : (a b : Corners) (r : IVec) → IsRatio r → corner_cmp (refined a r) (refined b r) ≡ corner_cmp a b
corners_kept a b r q =
    let lo : cell_cmp (times a.lo r) (times b.lo r) ≡ cell_cmp a.lo b.lo =
    cells_kept a.lo b.lo (times a.lo r) (times b.lo r) (cmp_times a.lo.k b.lo.k r.k q.low.k) (cmp_times a.lo.j b.lo.j r.j q.low.j) (cmp_times a.lo.i b.lo.i r.i q.low.i) in
    let hi : cell_cmp (last_child a.hi r) (last_child b.hi r) ≡ cell_cmp a.hi b.hi =
    cells_kept a.hi b.hi (last_child a.hi r) (last_child b.hi r) (cmp_last a.hi.k b.hi.k r.k q.low.k) (cmp_last a.hi.j b.hi.j r.j q.low.j) (cmp_last a.hi.i b.hi.i r.i q.low.i) in
    ap (λ (o : Ordering). ordering_then o (cell_cmp (last_child a.hi r) (last_child b.hi r))) lo
    ∙ ap (λ (o : Ordering). ordering_then (cell_cmp a.lo b.lo) o) hi

pub order_kept : (r : IVec) (a b : Owned) → IsRatio r → ref_cmp (refined_box r a) (refined_box r b) ≡ ref_cmp a b
order_kept r a b q = ap (λ (o : Ordering). ordering_then (nat_cmp a.owner b.owner) o) (corners_kept a.bx b.bx r q)

-- a box that is not empty is not empty in a finer space
full_on : (lo hi r : ℤ) → pos 1 ≤ℤ r → lo ≤ℤ hi → (lo *ℤ r) ≤ℤ ((hi *ℤ r) +ℤ (r -ℤ pos 1))
full_on lo hi r one h = let m = mul_le r lo hi (omega (arith, ints)) h in omega (arith, ints, m)

pub refined_full : (b : Corners) (r : IVec) → IsRatio r → AtMost b.lo b.hi → AtMost (refined b r).lo (refined b r).hi
refined_full b r q h = record { k = full_on b.lo.k b.hi.k r.k q.low.k h.k; j = full_on b.lo.j b.hi.j r.j q.low.j h.j; i = full_on b.lo.i b.hi.i r.i q.low.i h.i }

-- the boxes of a finer domain are those of the domain, refined
size_on : (n r : ℤ) → (n *ℤ r) -ℤ pos 1 ≡ ((n -ℤ pos 1) *ℤ r) +ℤ (r -ℤ pos 1)
size_on n r = let e = mul-minus n (pos 1) r in let o = mul_one r in omega (arith, ints, e, o)

whole_refined : (d : Space) (r : IVec) → whole (finer d r) ≡ refined (whole d) r
whole_refined d r =
    same_corners
    (same_cell (sym (mul_zero r.k)) (sym (mul_zero r.j)) (sym (mul_zero r.i)))
    (same_cell (size_on d.size.k r.k) (size_on d.size.j r.j) (size_on d.size.i r.i))

pub boxes_refined : (a : Area) (r : IVec) → boxes_of (finer_area a r) ≡ map (λ p. refined p r) (boxes_of a)
boxes_refined a r =
    let f : Corners → Corners = λ p. refined p r in
    ap (λ (n : ℕ). cond (n == 0) (whole (finer a.frame r) ∷ []) (map f a.parts)) (length-map a.parts f)
    ∙ ap (λ (w : Corners). cond (length a.parts == 0) (w ∷ []) (map f a.parts)) (whole_refined a.frame r)
    ∙ by (length a.parts == 0)
  where
    by : (t : Bool) → cond t (refined (whole a.frame) r ∷ []) (map (λ p. refined p r) a.parts) ≡ map (λ p. refined p r) (cond t (whole a.frame ∷ []) a.parts)
    by true = refl
    by false = refl

pub cell_of_finer : (a : Area) (r x : IVec) → IsRatio r → IsCellOf (finer_area a r) x ↔ IsCellOf a (coarse x r)
cell_of_finer a r x q = (
  λ (p, m, h).
      let o = Member-from_map (λ p. refined p r) p (boxes_of a) (subst (λ (l : List Corners). Member p l) (boxes_refined a r) m) in
      (o.0, o.1, (Holds-refined o.0 r x q).0 (subst (λ (v : Corners). Holds v x) o.2 h)),
  λ (p, m, h). (
    refined p r,
    subst (λ (l : List Corners). Member (refined p r) l) (sym (boxes_refined a r)) (Member-map (λ p. refined p r) p (boxes_of a) m),
    (Holds-refined p r x q).1 h,
  ),
)

-- the cells of a refined level
pub refined_cells : (r x : IVec) (level : List Owned) → IsRatio r → IsCellIn (refined_level r level) x ↔ IsCellIn level (coarse x r)
refined_cells r x level q = (
  λ (b, m, h).
      let o = Member-from_map (refined_box r) b level m in
      let P : Owned → Type 0 = λ v. Holds v.bx x in
      (o.0, o.1, (Holds-refined o.0.bx r x q).0 (subst P o.2 h)),
  λ (b, m, h). (refined_box r b, Member-map (refined_box r) b level m, (Holds-refined b.bx r x q).1 h),
)

pub refined_is_level : (a : Area) (r : IVec) (ranks : ℕ) (level : List Owned) → IsRatio r → IsLevel a ranks level → IsLevel (finer_area a r) ranks (refined_level r level)
refined_is_level a r ranks level q is =
    let from = λ (b : Owned) (m : Member b (refined_level r level)). Member-from_map (refined_box r) b level m in
    let full : (b : Owned) → Member b (refined_level r level) → AtMost b.bx.lo b.bx.hi =
    λ b m. let o = from b m in subst (λ (v : Owned). AtMost v.bx.lo v.bx.hi) (sym o.2) (refined_full o.0.bx r q (is.not_empty o.0 o.1)) in
    record {
      in_order = sorted-map ref_cmp ref_cmp (refined_box r) level (λ a b e. order_kept r a b q ∙ e) is.in_order;
      not_empty = full;
      inside = λ b x m h.
          let o = from b m in
          let P : Owned → Type 0 = λ v. Holds v.bx x in
          (cell_of_finer a r x q).1 (is.inside o.0 (coarse x r) o.1 ((Holds-refined o.0.bx r x q).0 (subst P o.2 h)));
      disjoint = λ b c m n meet.
          let o = from b m in
          let u = from c n in
          let cell = (meets-means b.bx c.bx (full b m) (full c n)).0 (meets-from {a = b.bx} {b = c.bx} meet) in
          let P : Owned → Type 0 = λ v. Holds v.bx cell.0 in
          let h = (Holds-refined o.0.bx r cell.0 q).0 (subst P o.2 cell.1) in
          let k = (Holds-refined u.0.bx r cell.0 q).0 (subst P u.2 cell.2) in
          o.2 ∙ ap (refined_box r) (is.disjoint o.0 u.0 o.1 u.1 (Meet-cell h k)) ∙ sym u.2;
      owners = λ b m. let o = from b m in subst (λ (v : Owned). v.owner < ranks) (sym o.2) (is.owners o.0 o.1);
    }

-- a domain refined twice is refined by the product
last_twice : (h r s : ℤ) → (((h *ℤ r) +ℤ (r -ℤ pos 1)) *ℤ s) +ℤ (s -ℤ pos 1) ≡ (h *ℤ (r *ℤ s)) +ℤ ((r *ℤ s) -ℤ pos 1)
last_twice h r s =
    let a = mul-plus (h *ℤ r) (r -ℤ pos 1) s in
    let b = mul-minus r (pos 1) s in
    let c = mul_one s in
    let d = mul_assoc h r s in
    omega (arith, ints, a, b, c, d)

pub times_assoc : (a b c : IVec) → times (times a b) c ≡ times a (times b c)
times_assoc a b c = same_cell (mul_assoc a.k b.k c.k) (mul_assoc a.j b.j c.j) (mul_assoc a.i b.i c.i)

refined_twice : (b : Corners) (r s : IVec) → refined (refined b r) s ≡ refined b (times r s)
refined_twice b r s =
    same_corners (times_assoc b.lo r s)
    (same_cell (last_twice b.hi.k r.k s.k) (last_twice b.hi.j r.j s.j) (last_twice b.hi.i r.i s.i))

all_twice : (ps : List Corners) (r s : IVec) → map (λ p. refined p s) (map (λ p. refined p r) ps) ≡ map (λ p. refined p (times r s)) ps
all_twice [] r s = refl
all_twice (p ∷ ps) r s =
    ap (λ (b : Corners). b ∷ map (λ p. refined p s) (map (λ p. refined p r) ps)) (refined_twice p r s)
    ∙ ap (λ (l : List Corners). refined p (times r s) ∷ l) (all_twice ps r s)

pub finer_twice : (a : Area) (r s : IVec) → finer_area (finer_area a r) s ≡ finer_area a (times r s)
finer_twice a r s =
    ap (λ (n : IVec). let v : Area = record { frame = record { size = n; periodic = a.frame.periodic }; parts = map (λ p. refined p s) (map (λ p. refined p r) a.parts) } in v) (times_assoc a.frame.size r s)
    ∙ ap (λ (l : List Corners). let v : Area = record { frame = finer a.frame (times r s); parts = l } in v) (all_twice a.parts r s)
