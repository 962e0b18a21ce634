-- Every parcel fits its patch and has the values of its cells.
use Rattle.std.proofs.Common.{◌≡◌, ◌⊎◌, ℕ, ◌<◌, refl, sym, ap, ◌∙◌, subst, inl, inr, arith, length}
use Rattle.std.proofs.lemmas.Bool.{and_parts, false≢true, eqb-true, eq-eqb}
use Rattle.std.specs.Ordering.{is_eq}
use Rattle.std.specs.declared.cmp.Ordering.{Ordering}
use Rattle.std.specs.declared.cmp.Ordering.TheVariants.{Less, Equal, Greater}
use Rattle.std.specs.Prelude.{Bool, true, false, ◌&&◌, ◌||◌, not, List, [], ◌∷◌, map, filter, Option, Some, None, nat_eq, slice_get, IsTrue}
use Rattle.std.specs.List.{enumerate_from}
use Rattle.std.specs.Option.{option_map}
use Rattle.samr_box.specs.declared.vector.IVec.{IVec}
use Rattle.samr_box.specs.Vector.{plus, minus, times}
use Rattle.samr_box.specs.Corners.{Corners, Holds, holds, holds_box, cells_of, common, met, meets, grown}
use Rattle.samr_box.specs.Ratios.{coarse, coarsened}
use Rattle.samr_box.specs.Space.{Space, whole, image, opposite, wrapped}
use Rattle.samr_box.specs.Lists.{Member}
use Rattle.samr_box.proofs.CellSets.{Holds-common, Holds-test}
use Rattle.samr_box.proofs.Members.{Member-filter, Member-from_filter}
use Rattle.samr_boxlist.specs.Covers.{held}
use Rattle.samr_level.specs.Refs.{Owned, Link, turned}
use Rattle.samr_level.specs.RefOrders.{ref_cmp}
use Rattle.samr_level.specs.Levels.{own, IsCellIn}
use Rattle.samr_level.specs.Overlaps.{scale, shifts, IsTrueOverlap}
use Rattle.samr_level.proofs.RefLaws.{same_from_ref_cmp}
use Rattle.samr_level.proofs.Overlapping.{Member-from_overlaps, opposite-shifts}
use Rattle.samr_border.specs.Turns.{IsShiftOf}
use Rattle.samr_border.proofs.ImageCells.{holds_moved_back, image_home}
use Rattle.samr_nest.proofs.StayLaws.{shifts_are, cell_of_frame}
use Rattle.samr_data.specs.Places.{moved_back}
use Rattle.samr_data.specs.Values.{value_in, listed}
use Rattle.samr_data.proofs.Lists.{length-listed, value_in-listed}
use Rattle.samr_ops.specs.declared.rules.Rules.{Rules}
use Rattle.samr_ops.specs.Rules.{refined_value}
use Rattle.samr_sched.specs.declared.plan.Request.{Request}
use Rattle.samr_sched.specs.Ask.{Scheduling, IsScheduling, IsGhost, domain_of, coarse_domain, frame_of, coarse_frame, selves_of, downs_of}
use Rattle.samr_sched.specs.Plans.{copies, rest, request, requests, plan_of}
use Rattle.samr_data.specs.declared.parcel.Parcel.{Parcel}
use Rattle.samr_fill.specs.Fill.{Filling, IsFilling, child, value_of}
use Rattle.samr_fill.specs.FillRow.{copied_along, asked_region, answered, parcels}
use Rattle.samr_fill.specs.Writing.{is_for, takes, taken, target, IsFit, AreOf}
use Rattle.samr_fill.proofs.Corners.{met_is}
use Rattle.samr_fill.proofs.Pieces.{has_moved}
use Rattle.samr_fill.proofs.Insides.{rest_holds, rest_means, level_value, coarse_value}
use Rattle.samr_fill.proofs.FillRowLaws.{IsCopied, IsAnswer, IsRequested, from_requests, from_parcels}
use Rattle.samr_fill.proofs.Turning.{step_back, opposite_step, there_and_back, minus_plus, target_inside}
use Rattle.samr_fill.proofs.Numbered.{numbered_at, slice_get_map, get_member, some_same}

-- a parcel for a box and a field
pub same_by : (o : Ordering) → is_eq o ≡ true → o ≡ Equal
same_by Less t = absurd (false≢true t)
same_by Equal t = refl
same_by Greater t = absurd (false≢true t)

pub for_head : (b : Owned) (n : ℕ) (p : Parcel) → is_for b n p ≡ true → (p.edge.head ≡ b) × (p.field ≡ n)
for_head b n p t =
    let s = and_parts (is_eq (ref_cmp p.edge.head b)) (nat_eq p.field n) t in
    (same_from_ref_cmp p.edge.head b (same_by (ref_cmp p.edge.head b) s.0), eqb-true p.field n s.1)

-- a rank's own boxes
pub own_box : (r : ℕ) (level : List Owned) (b : Owned) → Member b (own r level) → Member b level × (b.owner ≡ r)
unfolding own
own_box r level b m = let f = Member-from_filter (λ (o : Owned). nat_eq o.owner r) b level m in (f.0, eqb-true b.owner r f.1)

pub in_own : (r : ℕ) (level : List Owned) (b : Owned) → Member b level → b.owner ≡ r → Member b (own r level)
unfolding own
in_own r level b m e = Member-filter (λ (o : Owned). nat_eq o.owner r) b level m (eq-eqb b.owner r e)

-- the ends of edges
pub record IsEdge (s : Scheduling) (start : Owned) (heads : List Owned) (e : Link) : Type 0 where
  pub base : e.base ≡ start
  pub head : Member e.head heads
  pub shift : Member e.shift (shifts (frame_of s).periodic)

only : (base b : Owned) → Member b (base ∷ []) → b ≡ base
only base b (inl e) = e
only base b (inr m) = absurd m

pub copy_edge : (s : Scheduling) (g : IVec) (base : Owned) (e : Link) → Member e (copies s g base) → IsEdge s base s.level e
unfolding copies
copy_edge s g base e m =
    let n = scale s.region.frame s.width s.ratio s.ratio in
    let there = (Member-from_filter (λ e. meets (image (frame_of s) e.head.bx e.shift) (grown base.bx g) && not (meets (image (frame_of s) e.head.bx e.shift) base.bx)) e (selves_of s base) m).0 in
    let f = Member-from_overlaps n (base ∷ []) s.level e there in
    record { base = only base e.base f.is_base; head = f.is_head; shift = f.is_shift }

pub copy_self : (s : Scheduling) (g : IVec) (base : Owned) (e : Link) → Member e (copies s g base) → Member e (selves_of s base)
unfolding copies
copy_self s g base e m =
    (Member-from_filter (λ e. meets (image (frame_of s) e.head.bx e.shift) (grown base.bx g) && not (meets (image (frame_of s) e.head.bx e.shift) base.bx)) e (selves_of s base) m).0

pub down_edge : (s : Scheduling) (base : Owned) (e : Link) → Member e (downs_of s base) → IsEdge s base s.coarser e
down_edge s base e m =
    let n = scale s.region.frame s.reach s.ratio s.below in
    let f = Member-from_overlaps n (base ∷ []) s.coarser e m in
    record { base = only base e.base f.is_base; head = f.is_head; shift = f.is_shift }

-- the width of a field
pub width_at : (w : Filling) → IsFilling w → (n : ℕ) (r : Rules) → slice_get w.rules n ≡ Some r → slice_get w.schedule.ghosts n ≡ Some r.width
width_at w is n r here =
    ap (λ (l : List IVec). slice_get l n) (sym is.widths) ∙ slice_get_map (λ (r : Rules). r.width) w.rules n ∙ ap (option_map (λ (r : Rules). r.width)) here

pub ghost_at : (w : Filling) → IsFilling w → (n : ℕ) (r : Rules) → slice_get w.rules n ≡ Some r → IsGhost w.schedule r.width
ghost_at w is n r here = is.schedule.ghosts r.width (get_member w.schedule.ghosts n r.width (width_at w is n r here))

field_width : (w : Filling) → IsFilling w → (n : ℕ) (r : Rules) → slice_get w.rules n ≡ Some r → (f : ℕ × IVec) → Member f (enumerate_from 0 w.schedule.ghosts) → f.0 ≡ n → f.1 ≡ r.width
field_width w is n r here f m same =
    let a = numbered_at 0 w.schedule.ghosts f m in
    let at : a.0 ≡ n = let e = a.1 in omega (arith, e, same) in
    some_same (sym a.2 ∙ ap (slice_get w.schedule.ghosts) at ∙ width_at w is n r here)

some_region : {X : Type 0} (make : Corners → X) (o : Option Corners) (p : X) → option_map make o ≡ Some p → (c : Corners) × (o ≡ Some c) × (p ≡ make c)
some_region make (Some c) p is = (c, refl, some_same (sym is))
some_region make None p is = cc

-- a copied parcel
unfoldable pub copy_parcel : Filling → ℕ → Link → Corners → Parcel
copy_parcel w k e c = record { edge = e; is_coarse = false; field = k; region = c; values = listed c (w.values k) }

-- the region of an answer is seen from the coarse box
pub region_in_head : (s : Scheduling) (rank from : ℕ) (q : Request) → IsRequested s rank from q → (z : IVec) → Holds (asked_region s q) z → Holds q.edge.head.bx z
region_in_head s rank from q k z h =
    let d = coarse_frame s in
    let step = times q.edge.shift d.size in
    let e = k.edge in
    let there = has_moved q.bx step z h in
    let in_region = subst (λ (v : Request). Holds v.bx (plus z step)) k.is there in
    let seen = ((Holds-common (coarsened k.piece s.step) (image d e.head.bx e.shift) (plus z step)).0
    (subst (λ (v : Corners). Holds v (plus z step)) (met_is (coarsened k.piece s.step) (image d e.head.bx e.shift) k.region k.its_region).1 in_region)).1 in
    let seen_by : Holds (image d q.edge.head.bx q.edge.shift) (plus z step) = subst (λ (v : Request). Holds (image d v.edge.head.bx v.edge.shift) (plus z step)) (sym k.is) seen in
    subst (λ (v : IVec). Holds q.edge.head.bx v) (minus_plus z step) ((holds_moved_back d q.edge.head.bx q.edge.shift (plus z step)).0 seen_by)

module _ (w : Filling) (is : IsFilling w) (rank from : ℕ) (b : Owned) (n : ℕ) (r : Rules) (here : slice_get w.rules n ≡ Some r) (mb : Member b w.schedule.level) where
  -- copied values
  copied_parts : (p : Parcel) (c : IsCopied w from rank p)
      → (region : Corners) × (met c.edge.base.bx (grown (image (frame_of w.schedule) c.edge.head.bx c.edge.shift) c.field.1) ≡ Some region)
      × (p ≡ copy_parcel w c.field.0 c.edge region)
  unfolding copy_parcel
  copied_parts p c = some_region (copy_parcel w c.field.0 c.edge) (met c.edge.base.bx (grown (image (frame_of w.schedule) c.edge.head.bx c.edge.shift) c.field.1)) p c.is

  copied_fit : (p : Parcel) → IsCopied w from rank p → is_for b n p ≡ true → IsFit (frame_of w.schedule) r (grown b.bx r.width) p
  unfolding copy_parcel
  copied_fit p c t =
      let parts = copied_parts p c in
      let region = parts.0 in
      let d = frame_of w.schedule in
      let own = for_head b n p t in
      let head : c.edge.head ≡ b = ap (λ (q : Parcel). q.edge.head) (sym parts.2) ∙ own.0 in
      let field : c.field.0 ≡ n = ap (λ (q : Parcel). q.field) (sym parts.2) ∙ own.1 in
      let width = field_width w is n r here c.field c.its_field field in
      let q = copy_parcel w c.field.0 c.edge region in
      let inside : holds_box (grown c.edge.head.bx c.field.1) (target d q) ≡ true =
      subst (λ (v : Corners). holds_box (grown c.edge.head.bx c.field.1) (moved_back v (times c.edge.shift d.size)) ≡ true)
      (sym (met_is c.edge.base.bx (grown (image d c.edge.head.bx c.edge.shift) c.field.1) region parts.1).1)
      (target_inside d c.edge.base.bx c.edge.head.bx c.edge.shift c.field.1) in
      subst (λ (v : Parcel). IsFit d r (grown b.bx r.width) v) (sym parts.2)
      (record {
        full = length-listed region (w.values c.field.0);
        into = λ _.
            subst (λ (o : Owned). holds_box (grown o.bx r.width) (target d q) ≡ true) head
            (subst (λ (g : IVec). holds_box (grown c.edge.head.bx g) (target d q) ≡ true) width inside);
        below = λ e. absurd (false≢true e);
      })

  copied_true : (p : Parcel) → IsCopied w from rank p → is_for b n p ≡ true → AreOf (value_of w (n, r)) (plan_of w.schedule rank) r (rest w.schedule r.width b) p
  unfolding copy_parcel
  copied_true p c t =
      let parts = copied_parts p c in
      let region = parts.0 in
      let s = w.schedule in
      let d = frame_of s in
      let own = for_head b n p t in
      let field : c.field.0 ≡ n = ap (λ (q : Parcel). q.field) (sym parts.2) ∙ own.1 in
      let edge = copy_edge s c.field.1 c.base c.edge c.its_edge in
      let mine = own_box from s.level c.base c.own_base in
      let at_level : Member c.edge.base s.level = subst (λ (o : Owned). Member o s.level) (sym edge.base) mine.0 in
      let back = opposite c.edge.shift in
      let shift : IsShiftOf d back = (shifts_are d back).0 (opposite-shifts d.periodic c.edge.shift edge.shift) in
      subst (λ (v : Parcel). AreOf (value_of w (n, r)) (plan_of s rank) r (rest s r.width b) v) (sym parts.2)
      (λ x u.
      let z = plus x (times c.edge.shift d.size) in
      let inside : Holds region z = Holds-test {b = region} {x = z} (and_parts (not false || held x (rest s r.width b)) (holds region z) u).1 in
      let in_base = ((Holds-common c.edge.base.bx (grown (image d c.edge.head.bx c.edge.shift) c.field.1) z).0
      (subst (λ (v : Corners). Holds v z) (met_is c.edge.base.bx (grown (image d c.edge.head.bx c.edge.shift) c.field.1) region parts.1).1 inside)).0 in
      let seen : Holds (image d c.edge.base.bx back) x =
      (holds_moved_back d c.edge.base.bx back x).1 (subst (λ (v : IVec). Holds c.edge.base.bx v) (step_back x c.edge.shift d.size) in_base) in
      let in_frame = λ (y : IVec) (h : Holds c.edge.base.bx y). cell_of_frame (domain_of s) y is.schedule.area (is.schedule.level.inside c.edge.base y at_level h) in
      let home : z ≡ wrapped d x = step_back x c.edge.shift d.size ∙ image_home d c.edge.base.bx back x is.schedule.area.frame in_frame shift seen in
      value_in-listed region (w.values c.field.0) z inside
      ∙ ap (λ (k : ℕ). w.values k z) field
      ∙ ap (w.values n) home
      ∙ sym (level_value w is (n, r) x (c.edge.base, at_level, subst (λ (v : IVec). Holds c.edge.base.bx v) home in_base)))

  -- the ends of the edge of a request
  asked_edge : (q : Request) → (k : IsRequested w.schedule rank from q) → IsEdge w.schedule k.base w.schedule.coarser q.edge
  asked_edge q k = subst (λ (v : Request). IsEdge w.schedule k.base w.schedule.coarser v.edge) (sym k.is) (down_edge w.schedule k.base k.edge k.its_edge)

  answer_fit : (p : Parcel) → IsAnswer w from rank p → is_for b n p ≡ true → IsFit (frame_of w.schedule) r (grown b.bx r.width) p
  answer_fit p a t =
      let s = w.schedule in
      let q = a.request in
      let k = from_requests s rank from q a.asked in
      let region = asked_region s q in
      let field : q.field ≡ n = ap (λ (v : Parcel). v.field) (sym a.is) ∙ (for_head b n p t).1 in
      subst (λ (v : Parcel). IsFit (frame_of s) r (grown b.bx r.width) v) (sym a.is)
      (record {
        full = length-listed region (w.coarse_values q.field);
        into = λ e. absurd (false≢true (sym e));
        below = λ e z h.
            subst (λ (v : ℕ). v < r.modulus)
            (sym (value_in-listed region (w.coarse_values q.field) z h ∙ ap (λ (j : ℕ). w.coarse_values j z) field))
            (is.coarse_fits n r z here (q.edge.head, (asked_edge q k).head, region_in_head s rank from q k z h));
      })

  answer_true : (p : Parcel) → IsAnswer w from rank p → is_for b n p ≡ true → AreOf (value_of w (n, r)) (plan_of w.schedule rank) r (rest w.schedule r.width b) p
  answer_true p a t =
      let s = w.schedule in
      let d = coarse_frame s in
      let q = a.request in
      let k = from_requests s rank from q a.asked in
      let region = asked_region s q in
      let field : q.field ≡ n = ap (λ (v : Parcel). v.field) (sym a.is) ∙ (for_head b n p t).1 in
      let edge = asked_edge q k in
      let shift : IsShiftOf d q.edge.shift = (shifts_are d q.edge.shift).0 edge.shift in
      let in_frame = λ (y : IVec) (h : Holds q.edge.head.bx y). cell_of_frame (coarse_domain s) y is.schedule.coarse_area (is.schedule.coarser.inside q.edge.head y edge.head h) in
      subst (λ (v : Parcel). AreOf (value_of w (n, r)) (plan_of s rank) r (rest s r.width b) v) (sym a.is)
      (λ x u.
      let y = coarse x s.step in
      let z = plus y (times (opposite q.edge.shift) d.size) in
      let tests = and_parts (not true || held x (rest s r.width b)) (holds region z) u in
      let inside : Holds region z = Holds-test {b = region} {x = z} tests.1 in
      let home_at : z ≡ minus y (times q.edge.shift d.size) = opposite_step y q.edge.shift d.size in
      let in_head : Holds q.edge.head.bx (minus y (times q.edge.shift d.size)) = subst (λ (v : IVec). Holds q.edge.head.bx v) home_at (region_in_head s rank from q k z inside) in
      let seen : Holds (image d q.edge.head.bx q.edge.shift) y = (holds_moved_back d q.edge.head.bx q.edge.shift y).1 in_head in
      let home : z ≡ wrapped d y = home_at ∙ image_home d q.edge.head.bx q.edge.shift y is.schedule.coarse_area.frame in_frame shift seen in
      let ghost = ghost_at w is n r here in
      let about = rest_holds s is.schedule b r.width mb ghost x tests.0 in
      let free = (rest_means s is.schedule b r.width mb ghost x about).0 tests.0 in
      ap (λ (v : ℕ). refined_value r v (child x s.step))
      (value_in-listed region (w.coarse_values q.field) z inside ∙ ap (λ (j : ℕ). w.coarse_values j z) field ∙ ap (w.coarse_values n) home)
      ∙ sym (coarse_value w is (n, r) x free.0 free.1))

  pub parcel_fit : (p : Parcel) → Member p (parcels w from rank) → is_for b n p ≡ true → IsFit (frame_of w.schedule) r (grown b.bx r.width) p
  parcel_fit p m t = elim (from_parcels w from rank p m) [
    | inl c ↦ copied_fit p c t
    | inr a ↦ answer_fit p a t
  ]

  pub parcel_true : (p : Parcel) → Member p (parcels w from rank) → is_for b n p ≡ true → AreOf (value_of w (n, r)) (plan_of w.schedule rank) r (rest w.schedule r.width b) p
  parcel_true p m t = elim (from_parcels w from rank p m) [
    | inl c ↦ copied_true p c t
    | inr a ↦ answer_true p a t
  ]
