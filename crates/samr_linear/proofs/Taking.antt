-- What a cell takes of a scratch patch, and of a parcel.
use Rattle.std.proofs.Common.{◌≡◌, ℕ, ◌<◌, refl, sym, ap, ◌∙◌, subst, arith}
use Rattle.std.proofs.lemmas.Int.{ints}
use Rattle.std.proofs.lemmas.Bool.{and_parts, and_from}
use Rattle.std.specs.Prelude.{ℤ, pos, ◌-ℤ◌, ◌*ℤ◌, ◌≤ℤ◌, ◌<ℤ◌, Bool, true, false, ◌&&◌, not, ◌||◌, List, [], ◌∷◌, map, if◌then◌else◌}
use Rattle.std.specs.List.{list_any}
use Rattle.samr_box.specs.declared.vector.Axis.{Axis}
use Rattle.samr_box.specs.declared.vector.Axis.TheVariants.{I, J, K}
use Rattle.samr_box.specs.declared.vector.IVec.{IVec}
use Rattle.samr_box.specs.Vector.{alike, plus, times, AtMost, InRange, IsRatio}
use Rattle.samr_box.specs.Corners.{Corners, IsBox, Holds, holds}
use Rattle.samr_box.specs.Ratios.{coarse, floor}
use Rattle.samr_box.specs.Space.{flag}
use Rattle.samr_box.proofs.CellSets.{Holds-test}
use Rattle.samr_box.proofs.Floors.{mul-from_floor, last-from_floor}
use Rattle.samr_boxlist.specs.Covers.{held}
use Rattle.samr_data.specs.Values.{value_in}
use Rattle.samr_data.specs.Grids.{Grid, over, value_at, written, copied}
use Rattle.samr_data.specs.declared.parcel.Parcel.{Parcel}
use Rattle.samr_sched.specs.declared.plan.Plan.{Plan}
use Rattle.samr_fill.specs.Fill.{child}
use Rattle.samr_ops.specs.declared.rules.RefineRule.TheVariants.{Same}
use Rattle.samr_ops.specs.declared.rules.Rule.TheVariants.{Clamp}
use Rattle.samr_ops.specs.declared.rules.Rules.{Rules}
use Rattle.samr_ops.specs.Rules.{refined_value}
use Rattle.samr_fill.specs.Writing.{any_takes_from, Fixes, target, takes as takes_plain, taken as taken_plain}
use Rattle.samr_fill.proofs.Pieces.{copied_fixes as copied_plainly}
use Rattle.samr_fill.proofs.Numbers.{InRange-held}
use Rattle.samr_fill.proofs.Insides.{any_member, member_any}
use Rattle.samr_fill.proofs.Fixing.{fixes_other}
use Rattle.samr_linear.specs.declared.linear.Linear.{Linear}
use Rattle.samr_linear.specs.Lin.{lin, IsPlace}
use Rattle.samr_linear.specs.Scratches.{lower, upper, side, lows, highs, HasSides, over_cell, linear_at, CanTake}
use Rattle.samr_linear.specs.LinearWriting.{inner, side_in, lin_in, takes, taken, IsSource, AreOf}
use Rattle.samr_linear.proofs.Rings.{inner_holds, lower_holds, upper_holds}

-- where a fine cell lies in its coarse cell
place_on : (x r : ℤ) → pos 1 ≤ℤ r → (pos 0 ≤ℤ (x -ℤ (floor x r *ℤ r))) × ((x -ℤ (floor x r *ℤ r)) <ℤ r)
place_on x r one =
    let low : (floor x r *ℤ r) ≤ℤ x = mul-from_floor x r (floor x r) (omega (arith, ints, one)) (omega (arith, ints)) in
    let high = last-from_floor x r (floor x r) (omega (arith, ints, one)) (omega (arith, ints)) in
    (omega (arith, ints, low), omega (arith, ints, high))

pub place_of : (x r : IVec) → IsRatio r → IsPlace r (child x r)
place_of x r h =
    let k = place_on x.k r.k h.low.k in
    let j = place_on x.j r.j h.low.j in
    let i = place_on x.i r.i h.low.i in
    record {
      low = elim [ I ↦ i.0 | J ↦ j.0 | K ↦ k.0 ];
      high = elim [ I ↦ i.1 | J ↦ j.1 | K ↦ k.1 ];
    }

pub can_take : (s : Linear) (p : Grid) (under : Corners) (step offset x : IVec) → IsBox under → InRange x → InRange offset → step ≡ s.ratio → AtMost step (alike (pos 4)) → IsRatio step
    → IsSource s p under → Holds under (over_cell step offset x) → CanTake s p step offset x
can_take s p under step offset x box cell fits same small ratio source h = record {
  cell = cell;
  offset_fits = fits;
  same_step = same;
  small = small;
  over = InRange-held under (over_cell step offset x) box h;
  sides = source.sides (over_cell step offset x) h;
  below = source.below (over_cell step offset x) h;
  place = subst (λ (r : IVec). IsPlace r (child x step)) same (place_of x step ratio);
}

-- a patch of the values of a region
pub source_is : (s : Linear) (p : Grid) (b : Corners) (vs : List ℕ) → over p ≡ b → ((y : IVec) → Holds b y → value_at p y ≡ value_in b vs y)
    → ((y : IVec) → Holds (inner s.real b) y → value_in b vs y < s.modulus) → IsSource s p (inner s.real b)
source_is s p b vs whole values small = record {
  sides = λ y h. record {
    cell = subst (λ (c : Corners). Holds c y) (sym whole) (inner_holds s.real b y h);
    low = λ axis e. subst (λ (c : Corners). Holds c (lower axis y)) (sym whole) (lower_holds s.real b y h axis e);
    high = λ axis e. subst (λ (c : Corners). Holds c (upper axis y)) (sym whole) (upper_holds s.real b y h axis e);
  };
  below = λ y h. subst (λ (n : ℕ). n < s.modulus) (sym (values y (inner_holds s.real b y h))) (small y h);
}

by_flag : (r : Bool) (v w : ℕ) → (r ≡ true → v ≡ w) → (if r then v else 0) ≡ (if r then w else 0)
by_flag true v w e = e refl
by_flag false v w e = refl

three : (a b c x y z : ℕ) → a ≡ x → b ≡ y → c ≡ z → (a ∷ b ∷ c ∷ []) ≡ (x ∷ y ∷ z ∷ [])
three a b c x y z p q r =
    ap (λ (n : ℕ). n ∷ b ∷ c ∷ []) p ∙ ap (λ (n : ℕ). x ∷ n ∷ c ∷ []) q ∙ ap (λ (n : ℕ). x ∷ y ∷ n ∷ []) r

lin_same : (s : Linear) (p : Grid) (b : Corners) (vs : List ℕ) (c o : IVec) → over p ≡ b → ((y : IVec) → Holds b y → value_at p y ≡ value_in b vs y) → HasSides p s.real c
    → lin s (value_at p c) (lows p s.real c) (highs p s.real c) o ≡ lin_in s b vs c o
lin_same s p b vs c o whole values sides =
    let at : (y : IVec) → Holds (over p) y → value_at p y ≡ value_in b vs y = λ y h. values y (subst (λ (d : Corners). Holds d y) whole h) in
    let low : (axis : Axis) → side p (flag axis s.real) (lower axis c) ≡ side_in (flag axis s.real) b vs (lower axis c) =
    λ axis. by_flag (flag axis s.real) (value_at p (lower axis c)) (value_in b vs (lower axis c)) (λ e. at (lower axis c) (sides.low axis e)) in
    let high : (axis : Axis) → side p (flag axis s.real) (upper axis c) ≡ side_in (flag axis s.real) b vs (upper axis c) =
    λ axis. by_flag (flag axis s.real) (value_at p (upper axis c)) (value_in b vs (upper axis c)) (λ e. at (upper axis c) (sides.high axis e)) in
    ap (λ (v : ℕ). lin s v (lows p s.real c) (highs p s.real c) o) (at c sides.cell)
    ∙ ap (λ (l : List ℕ). lin s (value_in b vs c) l (highs p s.real c) o) (three _ _ _ _ _ _ (low I) (low J) (low K))
    ∙ ap (λ (l : List ℕ). lin s (value_in b vs c) (map (λ axis. side_in (flag axis s.real) b vs (lower axis c)) (I ∷ J ∷ K ∷ [])) l o) (three _ _ _ _ _ _ (high I) (high J) (high K))

-- one of the pieces and a test
any_and : (pieces : List Corners) (b : Corners) (x z : IVec) → list_any (λ c. holds c x && holds b z) pieces ≡ true → (held x pieces ≡ true) × (holds b z ≡ true)
any_and pieces b x z t =
    let r = member_any (λ (c : Corners). holds c x && holds b z) pieces t in
    let s = and_parts (holds r.0 x) (holds b z) r.2 in
    (any_member (λ (c : Corners). holds c x) r.0 pieces r.1 s.0, s.1)

and_any : (pieces : List Corners) (b : Corners) (x z : IVec) → held x pieces ≡ true → holds b z ≡ true → list_any (λ c. holds c x && holds b z) pieces ≡ true
and_any pieces b x z t u =
    let r = member_any (λ (c : Corners). holds c x) pieces t in
    any_member (λ (c : Corners). holds c x && holds b z) r.0 pieces r.1 (and_from (holds r.0 x) (holds b z) r.2 u)

-- coarse values fix their cells
pub coarse_fixes : (plan : Plan) (s : Linear) (rest : List Corners) (p : Parcel) (source : Grid) (under : Corners) (offset : IVec) (v : IVec → ℕ) (old new : Grid) → p.is_coarse ≡ true
    → over source ≡ p.region → ((y : IVec) → Holds p.region y → value_at source y ≡ value_in p.region p.values y) → under ≡ inner s.real p.region → offset ≡ times p.edge.shift plan.below.size
    → IsSource s source under
    → (((x : IVec) → any_takes_from under plan.step offset rest x ≡ true → linear_at s source plan.step offset x ≡ v x)
    → Fixes v (any_takes_from under plan.step offset rest) old new)
    → AreOf v plan s rest p → Fixes v (takes plan s.real rest p) old new
coarse_fixes plan s rest p source under offset v old new is_coarse whole values under_is step is_source fixes each =
    let m = times p.edge.shift plan.below.size in
    let at : IVec → IVec = λ x. plus (coarse x plan.step) m in
    let takes_is : (x : IVec) → takes plan s.real rest p x ≡ (held x rest && holds (inner s.real p.region) (at x)) =
    λ x.
    ap (λ (t : Bool). (not t || held x rest) && holds (if t then inner s.real p.region else p.region) (if t then plus (coarse x plan.step) m else plus x (times p.edge.shift plan.frame.size))) is_coarse in
    let taken_is : (x : IVec) → taken plan s p x ≡ lin_in s p.region p.values (at x) (child x plan.step) =
    λ x.
    let z : Bool → IVec = λ t. if t then plus (coarse x plan.step) m else plus x (times p.edge.shift plan.frame.size) in
    ap (λ (t : Bool). if t then lin_in s p.region p.values (z t) (child x plan.step) else value_in p.region p.values (z t)) is_coarse in
    let place_is : (x : IVec) → holds under (plus (coarse x plan.step) offset) ≡ holds (inner s.real p.region) (at x) =
    λ x. ap (λ (c : Corners). holds c (plus (coarse x plan.step) offset)) under_is ∙ ap (λ (o : IVec). holds (inner s.real p.region) (plus (coarse x plan.step) o)) step in
    fixes_other v (any_takes_from under plan.step offset rest) (takes plan s.real rest p) old new
    (fixes
    (λ x t.
    let a = any_and rest under x (plus (coarse x plan.step) offset) t in
    lin_same s source p.region p.values (over_cell plan.step offset x) (child x plan.step) whole values (is_source.sides (over_cell plan.step offset x) (Holds-test a.1))
    ∙ ap (λ (o : IVec). lin_in s p.region p.values (plus (coarse x plan.step) o) (child x plan.step)) step
    ∙ sym (taken_is x)
    ∙ each x (takes_is x ∙ and_from (held x rest) (holds (inner s.real p.region) (at x)) a.0 (sym (place_is x) ∙ a.1))))
    (λ x h t.
    let a = and_parts (held x rest) (holds (inner s.real p.region) (at x)) (sym (takes_is x) ∙ t) in
    and_any rest under x (plus (coarse x plan.step) offset) a.0 (place_is x ∙ a.1))

-- copied values fix theirs: those are no matter of refinement
pub copied_fixes : (plan : Plan) (s : Linear) (rest : List Corners) (p : Parcel) (v : IVec → ℕ) (old new : Grid) → p.is_coarse ≡ false
    → new ≡ written old (copied old (target plan.frame p) (value_in (target plan.frame p) p.values)) → AreOf v plan s rest p → Fixes v (takes plan s.real rest p) old new
copied_fixes plan s rest p v old new copy is each =
    let none : Rules = record { modulus = 0; width = alike (pos 0); centre = 0; face = 0; refine = Same; boundary = record { i = Clamp; j = Clamp; k = Clamp } } in
    let m = times p.edge.shift plan.frame.size in
    let takes_is : (x : IVec) → takes plan s.real rest p x ≡ holds p.region (plus x m) =
    λ x. ap (λ (t : Bool). (not t || held x rest) && holds (if t then inner s.real p.region else p.region) (if t then plus (coarse x plan.step) (times p.edge.shift plan.below.size) else plus x m)) copy in
    let plain_is : (x : IVec) → takes_plain plan rest p x ≡ holds p.region (plus x m) =
    λ x. ap (λ (t : Bool). (not t || held x rest) && holds p.region (if t then plus (coarse x plan.step) (times p.edge.shift plan.below.size) else plus x m)) copy in
    let taken_is : (x : IVec) → taken plan s p x ≡ value_in p.region p.values (plus x m) =
    λ x.
    let z : Bool → IVec = λ t. if t then plus (coarse x plan.step) (times p.edge.shift plan.below.size) else plus x m in
    ap (λ (t : Bool). if t then lin_in s p.region p.values (z t) (child x plan.step) else value_in p.region p.values (z t)) copy in
    let plainly_is : (x : IVec) → taken_plain plan none p x ≡ value_in p.region p.values (plus x m) =
    λ x.
    let z : Bool → IVec = λ t. if t then plus (coarse x plan.step) (times p.edge.shift plan.below.size) else plus x m in
    ap (λ (t : Bool). if t then refined_value none (value_in p.region p.values (z t)) (child x plan.step) else value_in p.region p.values (z t)) copy in
    fixes_other v (takes_plain plan rest p) (takes plan s.real rest p) old new
    (copied_plainly plan none rest p v old new copy is (λ x t. plainly_is x ∙ sym (taken_is x) ∙ each x (takes_is x ∙ sym (plain_is x) ∙ t)))
    (λ x h t. plain_is x ∙ sym (takes_is x) ∙ t)
