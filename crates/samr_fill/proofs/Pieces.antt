-- Parcels in patches: copied values at their place, and coarse ones under their cells.
use Rattle.std.proofs.Common.{◌≡◌, ℕ, refl, sym, ap, ◌∙◌, subst, arith}
use Rattle.std.proofs.lemmas.Int.{ints}
use Rattle.std.proofs.lemmas.Bool.{and_parts, and_from, false≢true}
use Rattle.std.specs.Prelude.{ℤ, pos, ◌+ℤ◌, ◌-ℤ◌, unsigned_abs, ◌*◌, ◌&&◌, ◌||◌, not, Bool, true, false, List, Option, Some, None, slice_index, if◌then◌else◌}
use Rattle.std.specs.List.{list_any}
use Rattle.samr_box.specs.declared.vector.IVec.{IVec}
use Rattle.samr_box.specs.Vector.{alike, AtMost, IsRatio, plus, minus, times, at_most}
use Rattle.samr_box.specs.Corners.{Corners, IsBox, Holds, holds, holds_box, cells_of, span, common, meets, met, grown}
use Rattle.samr_box.specs.declared.vector.Axis.TheVariants.{I, J, K}
use Rattle.samr_box.specs.Ratios.{coarse, refined}
use Rattle.samr_box.proofs.Vectors.{same_cell, AtMost-trans}
use Rattle.samr_box.proofs.Totals.{same_corners}
use Rattle.samr_box.proofs.CellSets.{AtMost-test, at_most-from, holds-from, Holds-test, Holds-common, Holds-refined}
use Rattle.samr_nest.proofs.Subtracting.{met_some}
use Rattle.samr_boxlist.specs.Covers.{held}
use Rattle.samr_data.specs.Places.{moved_back, place, place_at, offset}
use Rattle.samr_data.specs.Values.{value_in}
use Rattle.samr_data.specs.Grids.{Grid, over, value_at, grid_of, written, copied}
use Rattle.samr_data.proofs.Patches.{copies_region}
use Rattle.samr_ops.specs.declared.rules.Rules.{Rules}
use Rattle.samr_ops.specs.Rules.{refined_value}
use Rattle.samr_sched.specs.declared.plan.Plan.{Plan}
use Rattle.samr_data.specs.declared.parcel.Parcel.{Parcel}
use Rattle.samr_fill.specs.Fill.{child}
use Rattle.samr_fill.specs.Writing.{takes_from, any_takes_from, refined_at, takes, taken, target, AreOf, Fixes}
use Rattle.samr_fill.proofs.Corners.{met_is}
use Rattle.samr_fill.proofs.Fixing.{fixes_written, fixes_other, fixes_none}
use Rattle.samr_fill.proofs.Insides.{any_member, member_any}

-- a box grown by nothing
pub grown_none : (b : Corners) (w : IVec) → w ≡ alike (pos 0) → grown b w ≡ b
grown_none b w e =
    ap (grown b) e
    ∙ same_corners
    (same_cell (omega (arith, ints)) (omega (arith, ints)) (omega (arith, ints)))
    (same_cell (omega (arith, ints)) (omega (arith, ints)) (omega (arith, ints)))

pub IsBox-grown_none : (b : Corners) (w : IVec) → w ≡ alike (pos 0) → IsBox b → IsBox (grown b w)
IsBox-grown_none b w e p = subst (λ (c : Corners). IsBox c) (sym (grown_none b w e)) p

-- values unpacked into a new patch of a box
pub unpacked_over : (p q : Grid) (b : Corners) (w : IVec) (vs : List ℕ) → w ≡ alike (pos 0) → p ≡ grid_of b w (λ _. 0)
    → q ≡ written p (copied p b (value_in b vs)) → over q ≡ b
unpacked_over p q b w vs none made is = ap over is ∙ ap over made ∙ grown_none b w none

pub unpacked_value : (p q : Grid) (b : Corners) (w : IVec) (vs : List ℕ) → w ≡ alike (pos 0) → p ≡ grid_of b w (λ _. 0)
    → q ≡ written p (copied p b (value_in b vs)) → (y : IVec) → Holds b y → value_at q y ≡ value_in b vs y
unpacked_value p q b w vs none made is y h =
    ap (λ (g : Grid). value_at g y) is
    ∙ copies_region p b (value_in b vs) y (subst (λ (c : Corners). Holds c y) (sym (ap over made ∙ grown_none b w none)) h) h

-- parts of a box
pub IsBox-inside : (whole part : Corners) → IsBox whole → holds_box whole part ≡ true → AtMost part.lo part.hi → IsBox part
IsBox-inside whole part p t order =
    let s = and_parts (at_most whole.lo part.lo) (at_most part.hi whole.hi) t in
    record { low = AtMost-trans p.low (AtMost-test s.0); order = order; high = AtMost-trans (AtMost-test s.1) p.high }

pub holds_box-trans : (a b c : Corners) → holds_box a b ≡ true → holds_box b c ≡ true → holds_box a c ≡ true
holds_box-trans a b c t u =
    let s = and_parts (at_most a.lo b.lo) (at_most b.hi a.hi) t in
    let r = and_parts (at_most b.lo c.lo) (at_most c.hi b.hi) u in
    let low = AtMost-trans (AtMost-test {a = a.lo} {b = b.lo} s.0) (AtMost-test {a = b.lo} {b = c.lo} r.0) in
    let high = AtMost-trans (AtMost-test {a = c.hi} {b = b.hi} r.1) (AtMost-test {a = b.hi} {b = a.hi} s.1) in
    and_from (at_most a.lo c.lo) (at_most c.hi a.hi) (at_most-from {a = a.lo} {b = c.lo} low) (at_most-from {a = c.hi} {b = a.hi} high)

-- a box moved back has as many cells
span_on : (lo hi m : ℤ) → unsigned_abs (((hi -ℤ m) -ℤ (lo -ℤ m)) +ℤ pos 1) ≡ unsigned_abs ((hi -ℤ lo) +ℤ pos 1)
span_on lo hi m = let e : (hi -ℤ m) -ℤ (lo -ℤ m) ≡ hi -ℤ lo = omega (arith, ints) in ap (λ (z : ℤ). unsigned_abs (z +ℤ pos 1)) e

pub cells_moved : (b : Corners) (m : IVec) → cells_of (moved_back b m) ≡ cells_of b
cells_moved b m =
    ap (λ (n : ℕ). n * span J (moved_back b m) * span K (moved_back b m)) (span_on b.lo.i b.hi.i m.i)
    ∙ ap (λ (n : ℕ). span I b * n * span K (moved_back b m)) (span_on b.lo.j b.hi.j m.j)
    ∙ ap (λ (n : ℕ). span I b * span J b * n) (span_on b.lo.k b.hi.k m.k)

pub order_moved : (b : Corners) (m : IVec) → AtMost b.lo b.hi → AtMost (minus b.lo m) (minus b.hi m)
order_moved b m h = record { k = omega (arith, ints, h.k); j = omega (arith, ints, h.j); i = omega (arith, ints, h.i) }

-- a cell of a box moved back
pub moved_has : (b : Corners) (m x : IVec) → Holds b (plus x m) → Holds (moved_back b m) x
moved_has b m x h = record {
  low = record { k = omega (arith, ints, h.low.k); j = omega (arith, ints, h.low.j); i = omega (arith, ints, h.low.i) };
  high = record { k = omega (arith, ints, h.high.k); j = omega (arith, ints, h.high.j); i = omega (arith, ints, h.high.i) };
}

pub has_moved : (b : Corners) (m x : IVec) → Holds (moved_back b m) x → Holds b (plus x m)
has_moved b m x h = record {
  low = record { k = omega (arith, ints, h.low.k); j = omega (arith, ints, h.low.j); i = omega (arith, ints, h.low.i) };
  high = record { k = omega (arith, ints, h.high.k); j = omega (arith, ints, h.high.j); i = omega (arith, ints, h.high.i) };
}

-- the cells of a piece under a box of coarse cells
module _ (piece b : Corners) (step by : IVec) (ratio : IsRatio step) where
  pub under_from : (x : IVec) → takes_from b step by piece x ≡ true → Holds piece x × Holds (refined (moved_back b by) step) x
  under_from x t =
      let s = and_parts (holds piece x) (holds b (plus (coarse x step) by)) t in
      (Holds-test s.0, (Holds-refined (moved_back b by) step x ratio).1 (moved_has b by (coarse x step) (Holds-test s.1)))

  pub under_has : (x : IVec) → Holds (refined (moved_back b by) step) x → Holds b (plus (coarse x step) by)
  under_has x h = has_moved b by (coarse x step) ((Holds-refined (moved_back b by) step x ratio).0 h)

  pub region_has : (region : Corners) → met piece (refined (moved_back b by) step) ≡ Some region → (x : IVec) → Holds region x
      → Holds piece x × Holds (refined (moved_back b by) step) x
  region_has region e x h =
      (Holds-common piece (refined (moved_back b by) step) x).0
      (subst (λ (c : Corners). Holds c x) (met_is piece (refined (moved_back b by) step) region e).1 h)

  pub piece_fixes : (v f : IVec → ℕ) (old new : Grid) (region : Corners) → met piece (refined (moved_back b by) step) ≡ Some region
      → new ≡ written old (copied old region f) → ((x : IVec) → takes_from b step by piece x ≡ true → f x ≡ v x)
      → Fixes v (takes_from b step by piece) old new
  piece_fixes v f old new region e is each =
      fixes_other v (holds region) (takes_from b step by piece) old new
      (fixes_written v old new region f is
      (λ x h.
      let r = region_has region e x h in
      each x (and_from (holds piece x) (holds b (plus (coarse x step) by)) (holds-from r.0) (holds-from (under_has x r.1)))))
      (λ x here t.
      let u = under_from x t in
      holds-from
      (subst (λ (c : Corners). Holds c x) (sym (met_is piece (refined (moved_back b by) step) region e).1)
      ((Holds-common piece (refined (moved_back b by) step) x).1 u)))

  pub piece_none : (v : IVec → ℕ) (old : Grid) → met piece (refined (moved_back b by) step) ≡ None → Fixes v (takes_from b step by piece) old old
  piece_none v old e =
      fixes_none v (takes_from b step by piece) old
      (λ x here t.
      let u = under_from x t in
      differ (sym (met_some piece (refined (moved_back b by) step) x u.0 u.1) ∙ e))
    where
      differ : {c : Corners} → Some c ≡ None → ⊥
      differ q = cc

-- a value of a box moved back
place_moved : (b : Corners) (m x : IVec) → place (moved_back b m) x ≡ place b (plus x m)
unfolding place
place_moved b m x =
    let k : x.k -ℤ (b.lo.k -ℤ m.k) ≡ (x.k +ℤ m.k) -ℤ b.lo.k = omega (arith, ints) in
    let j : x.j -ℤ (b.lo.j -ℤ m.j) ≡ (x.j +ℤ m.j) -ℤ b.lo.j = omega (arith, ints) in
    let i : x.i -ℤ (b.lo.i -ℤ m.i) ≡ (x.i +ℤ m.i) -ℤ b.lo.i = omega (arith, ints) in
    ap (λ (z : ℤ). place_at (unsigned_abs z) (offset J (moved_back b m) x) (offset I (moved_back b m) x) (span J (moved_back b m)) (span I (moved_back b m))) k
    ∙ ap (λ (z : ℤ). place_at (offset K b (plus x m)) (unsigned_abs z) (offset I (moved_back b m) x) (span J (moved_back b m)) (span I (moved_back b m))) j
    ∙ ap (λ (z : ℤ). place_at (offset K b (plus x m)) (offset J b (plus x m)) (unsigned_abs z) (span J (moved_back b m)) (span I (moved_back b m))) i
    ∙ ap (λ (n : ℕ). place_at (offset K b (plus x m)) (offset J b (plus x m)) (offset I b (plus x m)) n (span I (moved_back b m))) (span_on b.lo.j b.hi.j m.j)
    ∙ ap (λ (n : ℕ). place_at (offset K b (plus x m)) (offset J b (plus x m)) (offset I b (plus x m)) (span J b) n) (span_on b.lo.i b.hi.i m.i)

value_moved : (b : Corners) (m : IVec) (vs : List ℕ) (x : IVec) → value_in (moved_back b m) vs x ≡ value_in b vs (plus x m)
value_moved b m vs x = ap (λ (n : ℕ). slice_index vs n) (place_moved b m x)

-- copied values fix their cells
pub copied_fixes : (plan : Plan) (r : Rules) (rest : List Corners) (p : Parcel) (v : IVec → ℕ) (old new : Grid) → p.is_coarse ≡ false
    → new ≡ written old (copied old (target plan.frame p) (value_in (target plan.frame p) p.values)) → AreOf v plan r rest p → Fixes v (takes plan rest p) old new
copied_fixes plan r rest p v old new copy is each =
    let m = times p.edge.shift plan.frame.size in
    let takes_is : (x : IVec) → takes plan rest p x ≡ holds p.region (plus x m) =
    λ x. ap (λ (t : Bool). (not t || held x rest) && holds p.region (if t then plus (coarse x plan.step) (times p.edge.shift plan.below.size) else plus x m)) copy in
    let taken_is : (x : IVec) → taken plan r p x ≡ value_in p.region p.values (plus x m) =
    λ x.
    let z : Bool → IVec = λ t. if t then plus (coarse x plan.step) (times p.edge.shift plan.below.size) else plus x m in
    ap (λ (t : Bool). if t then refined_value r (value_in p.region p.values (z t)) (child x plan.step) else value_in p.region p.values (z t)) copy in
    fixes_other v (holds (target plan.frame p)) (takes plan rest p) old new
    (fixes_written v old new (target plan.frame p) (value_in (target plan.frame p) p.values) is
    (λ x h.
    value_moved p.region m p.values x ∙ sym (taken_is x)
    ∙ each x (takes_is x ∙ holds-from (has_moved p.region m x h))))
    (λ x h t. holds-from (moved_has p.region m x (Holds-test (sym (takes_is x) ∙ t))))

-- one of the pieces and a test
any_and : (pieces : List Corners) (b : Corners) (x z : IVec) → list_any (λ c. holds c x && holds b z) pieces ≡ true → (held x pieces ≡ true) × (holds b z ≡ true)
any_and pieces b x z t =
    let r = member_any (λ (c : Corners). holds c x && holds b z) pieces t in
    let s = and_parts (holds r.0 x) (holds b z) r.2 in
    (any_member (λ (c : Corners). holds c x) r.0 pieces r.1 s.0, s.1)

and_any : (pieces : List Corners) (b : Corners) (x z : IVec) → held x pieces ≡ true → holds b z ≡ true → list_any (λ c. holds c x && holds b z) pieces ≡ true
and_any pieces b x z t u =
    let r = member_any (λ (c : Corners). holds c x) pieces t in
    any_member (λ (c : Corners). holds c x && holds b z) r.0 pieces r.1 (and_from (holds r.0 x) (holds b z) r.2 u)

-- and so do refined ones
pub coarse_fixes : (plan : Plan) (r : Rules) (rest : List Corners) (p : Parcel) (source : Grid) (offset : IVec) (v : IVec → ℕ) (old new : Grid) → p.is_coarse ≡ true
    → over source ≡ p.region → ((y : IVec) → Holds p.region y → value_at source y ≡ value_in p.region p.values y) → offset ≡ times p.edge.shift plan.below.size
    → (((x : IVec) → any_takes_from (over source) plan.step offset rest x ≡ true → refined_at r source plan.step offset x ≡ v x)
    → Fixes v (any_takes_from (over source) plan.step offset rest) old new)
    → AreOf v plan r rest p → Fixes v (takes plan rest p) old new
coarse_fixes plan r rest p source offset v old new is_coarse whole values step fixes each =
    let m = times p.edge.shift plan.below.size in
    let takes_is : (x : IVec) → takes plan rest p x ≡ (held x rest && holds p.region (plus (coarse x plan.step) m)) =
    λ x. ap (λ (t : Bool). (not t || held x rest) && holds p.region (if t then plus (coarse x plan.step) m else plus x (times p.edge.shift plan.frame.size))) is_coarse in
    let taken_is : (x : IVec) → taken plan r p x ≡ refined_value r (value_in p.region p.values (plus (coarse x plan.step) m)) (child x plan.step) =
    λ x.
    let z : Bool → IVec = λ t. if t then plus (coarse x plan.step) m else plus x (times p.edge.shift plan.frame.size) in
    ap (λ (t : Bool). if t then refined_value r (value_in p.region p.values (z t)) (child x plan.step) else value_in p.region p.values (z t)) is_coarse in
    let there : (x : IVec) → any_takes_from (over source) plan.step offset rest x ≡ true → (held x rest ≡ true) × (holds p.region (plus (coarse x plan.step) m) ≡ true) =
    λ x t.
    let s = any_and rest (over source) x (plus (coarse x plan.step) offset) t in
    (s.0, ap (λ (o : IVec). holds p.region (plus (coarse x plan.step) o)) (sym step) ∙ ap (λ (c : Corners). holds c (plus (coarse x plan.step) offset)) (sym whole) ∙ s.1) in
    fixes_other v (any_takes_from (over source) plan.step offset rest) (takes plan rest p) old new
    (fixes
    (λ x t.
    let s = there x t in
    let z = plus (coarse x plan.step) m in
    ap (λ (o : IVec). refined_value r (value_at source (plus (coarse x plan.step) o)) (child x plan.step)) step
    ∙ ap (λ (n : ℕ). refined_value r n (child x plan.step)) (values z (Holds-test s.1))
    ∙ sym (taken_is x)
    ∙ each x (takes_is x ∙ and_from (held x rest) (holds p.region z) s.0 s.1)))
    (λ x h t.
    let s = and_parts (held x rest) (holds p.region (plus (coarse x plan.step) m)) (sym (takes_is x) ∙ t) in
    and_any rest (over source) x (plus (coarse x plan.step) offset) s.0
    (ap (λ (c : Corners). holds c (plus (coarse x plan.step) offset)) whole ∙ ap (λ (o : IVec). holds p.region (plus (coarse x plan.step) o)) step ∙ s.1))
