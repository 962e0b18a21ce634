-- The regions of the parcels for a new level: they are small enough, and their cells have the old values.
use Rattle.std.proofs.Common.{◌≡◌, ℕ, zero, suc, ◌*◌, ◌<◌, ◌≤◌, refl, sym, subst, inl, inr, arith, length}
use Rattle.std.proofs.lemmas.Int.{ints, by_lt_z}
use Rattle.std.proofs.lemmas.Nat.{mul-le}
use Rattle.std.proofs.lemmas.Bool.{and_from, false≢true}
use Rattle.std.specs.Prelude.{ℤ, pos, ◌≤ℤ◌, ◌-ℤ◌, ◌+ℤ◌, unsigned_abs, ◌^◌, true, List, [], ◌∷◌, Some, slice_get}
use Rattle.samr_box.specs.declared.vector.Axis.TheVariants.{I, J, K}
use Rattle.samr_box.specs.declared.vector.IVec.{IVec}
use Rattle.samr_box.specs.Vector.{alike, minus, plus, AtMost, IsRatio, at_most}
use Rattle.samr_box.specs.Corners.{Corners, Holds, holds, met, grown, span, cells_of}
use Rattle.samr_box.specs.Ratios.{floor, coarse, coarsened}
use Rattle.samr_box.specs.Lists.{Member}
use Rattle.samr_box.proofs.CellSets.{at_most-from, holds-from, Holds-common, coarse-AtMost, order-common, Meet-test, holds_box-means}
use Rattle.samr_box.proofs.Floors.{floor-le, last-from_floor, mul-from_floor}
use Rattle.samr_box.proofs.Members.{member_of_All}
use Rattle.samr_box.proofs.Products.{mul-minus, mul_le, mul_comm, mul_one}
use Rattle.samr_level.specs.Refs.{Owned}
use Rattle.samr_level.specs.Levels.{IsCellIn}
use Rattle.samr_data.specs.Values.{value_in}
use Rattle.samr_data.proofs.Lists.{length-listed, value_in-listed}
use Rattle.samr_data.proofs.PlaceLaws.{part_cells}
use Rattle.samr_ops.specs.Rules.{IsRules}
use Rattle.samr_data.specs.declared.parcel.Parcel.{Parcel}
use Rattle.samr_values.specs.Patches.{has}
use Rattle.samr_values.specs.Parcels.{IsParcel}
use Rattle.samr_values.specs.Values.{Renewing, IsRenewing}
use Rattle.samr_values.proofs.Under.{any_is, met_some}
use Rattle.samr_values.proofs.ValuesRowLaws.{IsOld, IsCoarse, old_edge, coarse_edge}

-- a coarsened box has no more cells
narrower : (s low high : ℤ) → pos 1 ≤ℤ s → low ≤ℤ high → (floor high s -ℤ floor low s) ≤ℤ (high -ℤ low)
narrower s low high p h =
    let a = floor low s in
    let b = floor high s in
    by_lt_z a b
    (λ lt.
    let d = (b -ℤ a) -ℤ pos 1 in
    let under = last-from_floor low s a (omega (arith, ints, p)) (omega (arith, ints)) in
    let over = mul-from_floor high s b (omega (arith, ints, p)) (omega (arith, ints)) in
    let more = mul_le d (pos 1) s (omega (arith, ints, lt)) p in
    let one = mul_one d in
    let turned = mul_comm s d in
    let first = mul-minus (b -ℤ a) (pos 1) s in
    let second = mul-minus b a s in
    let third = mul_one s in
    omega (arith, ints, under, over, more, one, turned, first, second, third))
    (λ le. omega (arith, ints, le, h))

fewer_planes : (s low high : ℤ) → pos 1 ≤ℤ s → low ≤ℤ high → unsigned_abs ((floor high s -ℤ floor low s) +ℤ pos 1) ≤ unsigned_abs ((high -ℤ low) +ℤ pos 1)
fewer_planes s low high p h =
    let n = narrower s low high p h in
    let order = floor-le s low high (omega (arith, ints, p)) h in
    omega (arith, ints, n, order)

fewer_cells : (b : Corners) (s : IVec) → IsRatio s → AtMost b.lo b.hi → cells_of (coarsened b s) ≤ cells_of b
fewer_cells b s q full =
    let c = coarsened b s in
    mul-le (span I c * span J c) (span K c) (span I b * span J b) (span K b)
    (mul-le (span I c) (span J c) (span I b) (span J b) (fewer_planes s.i b.lo.i b.hi.i q.low.i full.i) (fewer_planes s.j b.lo.j b.hi.j q.low.j full.j))
    (fewer_planes s.k b.lo.k b.hi.k q.low.k full.k)

-- and a grown one has no fewer
grown_cells : (b : Corners) (width : IVec) → AtMost (alike (pos 0)) width → AtMost b.lo b.hi → cells_of b ≤ cells_of (grown b width)
grown_cells b width wide full =
    let low : AtMost (minus b.lo width) b.lo = record { k = omega (arith, ints, wide.k); j = omega (arith, ints, wide.j); i = omega (arith, ints, wide.i) } in
    let high : AtMost b.hi (plus b.hi width) = record { k = omega (arith, ints, wide.k); j = omega (arith, ints, wide.j); i = omega (arith, ints, wide.i) } in
    part_cells (grown b width) b
    (and_from (at_most (minus b.lo width) b.lo) (at_most b.hi (plus b.hi width))
    (at_most-from {a = minus b.lo width} {b = b.lo} low) (at_most-from {a = b.hi} {b = plus b.hi width} high)) full

-- what is common to two boxes that are not empty
common_is : (a b c : Corners) → AtMost a.lo a.hi → AtMost b.lo b.hi → met a b ≡ Some c → AtMost c.lo c.hi × ((x : IVec) → Holds c x → Holds a x × Holds b x)
common_is a b c p q e =
    let s = met_some a b c e in (
      subst (λ (d : Corners). AtMost d.lo d.hi) (sym s.0) (order-common {a = a} {b = b} p q (Meet-test {a = a} {b = b} s.1)),
      λ x h. (Holds-common a b x).0 (subst (λ (d : Corners). Holds d x) s.0 h),
    )

-- an item of a list, and the one at a place
some_item : {X : Type 0} (xs : List X) (i : ℕ) → i < length xs → (x : X) × Member x xs
some_item [] i below = absurd (omega (arith, below))
some_item (x ∷ xs) i below = (x, inl refl)

pub item_at : {X : Type 0} (xs : List X) (i : ℕ) (x : X) → slice_get xs i ≡ Some x → Member x xs
item_at [] i x e = cc
item_at (y ∷ ys) zero x e = inl cc
item_at (y ∷ ys) (suc i) x e = inr (item_at ys i x e)

module _ (w : Renewing) (t : IsRenewing w) where
  -- a new box has few cells
  few_cells : (b : Owned) (f : ℕ) → Member b w.news → f < length w.rules → cells_of b.bx < 2 ^ 62
  few_cells b f m below =
      let r = some_item w.rules f below in
      let wide = (member_of_All IsRules r.0 w.rules t.rules r.1).positive in
      let less = grown_cells b.bx r.0.width wide (t.news.not_empty b m) in
      let room = (t.room b r.0 m r.1).1 in
      omega (arith, less, room)

  -- the regions of parcels
  old_cells : (sender to : ℕ) (q : Parcel) (h : IsOld w sender to q) → AtMost h.region.lo h.region.hi
      × ((x : IVec) → Holds h.region x → Holds h.edge.base.bx x × Holds h.edge.head.bx x)
  old_cells sender to q h =
      let o = old_edge w sender to h.edge h.is_edge in
      common_is h.edge.base.bx h.edge.head.bx h.region (t.olds.not_empty h.edge.base o.is_base) (t.news.not_empty h.edge.head o.is_head) h.is_region

  coarse_order : (b : Owned) → Member b w.news → AtMost (coarse b.bx.lo w.step) (coarse b.bx.hi w.step)
  coarse_order b m = coarse-AtMost {r = w.step} {x = b.bx.lo} {y = b.bx.hi} t.step (t.news.not_empty b m)

  coarse_cells : (sender to : ℕ) (q : Parcel) (h : IsCoarse w sender to q) → AtMost h.region.lo h.region.hi
      × ((x : IVec) → Holds h.region x → Holds h.edge.base.bx x × Holds (coarsened h.edge.head.bx w.step) x)
  coarse_cells sender to q h =
      let o = coarse_edge w sender to h.edge h.is_edge in
      common_is h.edge.base.bx (coarsened h.edge.head.bx w.step) h.region
      (t.coarser.not_empty h.edge.base o.is_base) (coarse_order h.edge.head o.is_head) h.is_region

  pub old_is_parcel : (sender to : ℕ) (q : Parcel) → IsOld w sender to q → IsParcel q
  old_is_parcel sender to q h =
      let o = old_edge w sender to h.edge h.is_edge in
      let head = h.edge.head.bx in
      let c = old_cells sender to q h in
      let inside = (holds_box-means head h.region c.0).1 (λ x g. (c.1 x g).1) in
      let less = part_cells head h.region inside c.0 in
      let room = few_cells h.edge.head h.field o.is_head h.is_field in
      subst (λ (p : Parcel). IsParcel p) (sym h.is)
      (record { full = length-listed h.region (w.values h.field); few = omega (arith, less, room); inside = λ e. inside })

  pub coarse_is_parcel : (sender to : ℕ) (q : Parcel) → IsCoarse w sender to q → IsParcel q
  coarse_is_parcel sender to q h =
      let o = coarse_edge w sender to h.edge h.is_edge in
      let head = h.edge.head.bx in
      let c = coarse_cells sender to q h in
      let inside = (holds_box-means (coarsened head w.step) h.region c.0).1 (λ x g. (c.1 x g).1) in
      let less = part_cells (coarsened head w.step) h.region inside c.0 in
      let fewer = fewer_cells head w.step t.step (t.news.not_empty h.edge.head o.is_head) in
      let room = few_cells h.edge.head h.field o.is_head h.is_field in
      subst (λ (p : Parcel). IsParcel p) (sym h.is)
      (record { full = length-listed h.region (w.coarse_values h.field); few = omega (arith, less, fewer, room); inside = λ e. absurd (false≢true (sym e)) })

  -- their cells and values
  pub old_told : (sender to : ℕ) (q : Parcel) (x : IVec) (h : IsOld w sender to q) → Holds q.region x
      → (has w.olds x ≡ true) × (value_in q.region q.values x ≡ w.values h.field x)
  old_told sender to q x h g =
      let o = old_edge w sender to h.edge h.is_edge in
      let there : Holds h.region x = subst (λ (p : Parcel). Holds p.region x) h.is g in
      let both = (old_cells sender to q h).1 x there in (
        any_is (λ (b : Owned). holds b.bx x) h.edge.base w.olds o.is_base (holds-from {b = h.edge.base.bx} {x = x} both.0),
        subst (λ (p : Parcel). value_in p.region p.values x ≡ w.values h.field x) (sym h.is) (value_in-listed h.region (w.values h.field) x there),
      )

  pub coarse_told : (sender to : ℕ) (q : Parcel) (c : IVec) (h : IsCoarse w sender to q) → Holds q.region c
      → IsCellIn w.coarser c × (value_in q.region q.values c ≡ w.coarse_values h.field c)
  coarse_told sender to q c h g =
      let o = coarse_edge w sender to h.edge h.is_edge in
      let there : Holds h.region c = subst (λ (p : Parcel). Holds p.region c) h.is g in
      let both = (coarse_cells sender to q h).1 c there in (
        (h.edge.base, o.is_base, both.0),
        subst (λ (p : Parcel). value_in p.region p.values c ≡ w.coarse_values h.field c) (sym h.is) (value_in-listed h.region (w.coarse_values h.field) c there),
      )
