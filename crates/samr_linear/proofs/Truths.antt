-- Every parcel of a linear fill fits its patch and has the values of its cells.
use Rattle.std.proofs.Common.{◌≡◌, ℕ, ◌<◌, refl, sym, ap, ◌∙◌, subst, inl, inr, arith}
use Rattle.std.proofs.lemmas.Int.{ints}
use Rattle.std.proofs.lemmas.Bool.{and_parts, false≢true}
use Rattle.std.specs.Prelude.{Bool, true, false, ◌||◌, not, map, Option, Some, None, slice_get, cond, if◌then◌else◌}
use Rattle.std.specs.Option.{option_map}
use Rattle.samr_box.specs.declared.vector.Axis.{Axis}
use Rattle.samr_box.specs.declared.vector.Axis.TheVariants.{I, J, K}
use Rattle.samr_box.specs.declared.vector.IVec.{IVec}
use Rattle.samr_box.specs.Vector.{plus, minus, times, AtMost}
use Rattle.samr_box.specs.Corners.{Corners, IsBox, Holds, holds, met, meets, common, grown}
use Rattle.samr_box.specs.Ratios.{coarse, coarsened}
use Rattle.samr_box.specs.Space.{Space, IsSpace, whole, image, opposite, wrapped, flag}
use Rattle.samr_box.specs.Lists.{Member}
use Rattle.samr_box.proofs.CellSets.{Holds-common, Holds-test, Holds-lo, Holds-hi, order-common, Meet-test, coarse-AtMost}
use Rattle.samr_boxlist.specs.Covers.{held}
use Rattle.samr_level.specs.Refs.{Owned}
use Rattle.samr_level.specs.Levels.{IsCellIn}
use Rattle.samr_level.proofs.Overlapping.{opposite-shifts}
use Rattle.samr_border.specs.Turns.{IsShiftOf}
use Rattle.samr_border.proofs.ImageCells.{holds_moved_back, image_home}
use Rattle.samr_nest.proofs.StayLaws.{shifts_are, cell_of_frame}
use Rattle.samr_nest.proofs.NestedBy.{holes_within}
use Rattle.samr_nest.proofs.Moved.{AtMost-plus}
use Rattle.samr_data.specs.Values.{value_in, listed}
use Rattle.samr_data.specs.declared.parcel.Parcel.{Parcel}
use Rattle.samr_data.proofs.Lists.{length-listed, value_in-listed}
use Rattle.samr_ops.specs.declared.rules.Rules.{Rules}
use Rattle.samr_sched.specs.declared.plan.Request.{Request}
use Rattle.samr_sched.specs.Ask.{Scheduling, domain_of, coarse_domain, frame_of, coarse_frame}
use Rattle.samr_sched.specs.Plans.{rest, plan_of}
use Rattle.samr_fill.specs.Fill.{Filling, IsFilling, child}
use Rattle.samr_fill.specs.FillRow.{asked_region}
use Rattle.samr_fill.specs.Writing.{is_for}
use Rattle.samr_fill.proofs.Corners.{met_is}
use Rattle.samr_fill.proofs.Pieces.{order_moved}
use Rattle.samr_fill.proofs.Insides.{rest_holds, rest_means}
use Rattle.samr_fill.proofs.FillRowLaws.{IsCopied, IsRequested, from_requests, in_copied}
use Rattle.samr_fill.proofs.Turning.{step_back, opposite_step}
use Rattle.samr_fill.proofs.Numbered.{numbered_at, get_member, some_same, none_some}
use Rattle.samr_fill.proofs.Truths.{IsEdge, copy_parcel, copy_edge, down_edge, for_head, own_box, ghost_at, region_in_head, parcel_fit as plain_fit}
use Rattle.samr_linear.specs.declared.linear.Linear.{Linear}
use Rattle.samr_linear.specs.Lin.{on, lin}
use Rattle.samr_linear.specs.LinVal.{axes, before, behind, linear_value}
use Rattle.samr_linear.specs.Scratches.{lower, upper}
use Rattle.samr_linear.specs.Around.{one_around}
use Rattle.samr_linear.specs.LinearFill.{LinearFilling, IsLinearFilling}
use Rattle.samr_linear.specs.LinearFillRow.{linear_parcels}
use Rattle.samr_linear.specs.LinearWriting.{inner, side_in, lin_in, IsFit, AreOf}
use Rattle.samr_linear.proofs.Remainders.{only_real_axes_count}
use Rattle.samr_linear.proofs.Insides.{level_value, coarse_value}
use Rattle.samr_linear.proofs.Rings.{inner_grown, inner_holds, lower_holds, upper_holds}
use Rattle.samr_linear.proofs.LinearFillRowLaws.{IsAround, from_linear}
use Rattle.samr_linear.proofs.Coverage.{not_coarse}

-- refinement of listed values is that of the values
real_side : (r : Bool) (v w : ℕ) → r ≡ true → v ≡ w → (if r then v else 0) ≡ w
real_side r v w e h = ap (λ (t : Bool). if t then v else 0) e ∙ h

lin_listed : (s : Linear) (b : Corners) (below : IVec → ℕ) (c o : IVec) → Holds (inner s.real b) c
    → lin_in s b (listed b below) c o ≡ lin s (below c) (map below (before c)) (map below (behind c)) o
lin_listed s b below c o h =
    let vs = listed b below in
    let low : (axis : Axis) → flag axis s.real ≡ true → on axis (map (λ axis. side_in (flag axis s.real) b vs (lower axis c)) axes) ≡ on axis (map below (before c)) = elim [
      | I ↦ λ e. real_side (flag I s.real) (value_in b vs (lower I c)) (below (lower I c)) e (value_in-listed b below (lower I c) (lower_holds s.real b c h I e))
      | J ↦ λ e. real_side (flag J s.real) (value_in b vs (lower J c)) (below (lower J c)) e (value_in-listed b below (lower J c) (lower_holds s.real b c h J e))
      | K ↦ λ e. real_side (flag K s.real) (value_in b vs (lower K c)) (below (lower K c)) e (value_in-listed b below (lower K c) (lower_holds s.real b c h K e))
    ] in
    let high : (axis : Axis) → flag axis s.real ≡ true → on axis (map (λ axis. side_in (flag axis s.real) b vs (upper axis c)) axes) ≡ on axis (map below (behind c)) = elim [
      | I ↦ λ e. real_side (flag I s.real) (value_in b vs (upper I c)) (below (upper I c)) e (value_in-listed b below (upper I c) (upper_holds s.real b c h I e))
      | J ↦ λ e. real_side (flag J s.real) (value_in b vs (upper J c)) (below (upper J c)) e (value_in-listed b below (upper J c) (upper_holds s.real b c h J e))
      | K ↦ λ e. real_side (flag K s.real) (value_in b vs (upper K c)) (below (upper K c)) e (value_in-listed b below (upper K c) (upper_holds s.real b c h K e))
    ] in
    let lows = map (λ axis. side_in (flag axis s.real) b vs (lower axis c)) axes in
    let highs = map (λ axis. side_in (flag axis s.real) b vs (upper axis c)) axes in
    ap (λ (v : ℕ). lin s v lows highs o) (value_in-listed b below c (inner_holds s.real b c h))
    ∙ only_real_axes_count s (below c) lows highs (map below (before c)) (map below (behind c)) o (λ axis e. (low axis e, high axis e))

-- a region of a space is a box
box_in : (d : Space) (b : Corners) → IsSpace d → AtMost b.lo b.hi → Holds (whole d) b.lo → Holds (whole d) b.hi → IsBox b
box_in d b is order lo hi = record {
  low = record { k = omega (arith, ints, lo.low.k); j = omega (arith, ints, lo.low.j); i = omega (arith, ints, lo.low.i) };
  order = order;
  high = record { k = omega (arith, ints, hi.high.k, is.high.k); j = omega (arith, ints, hi.high.j, is.high.j); i = omega (arith, ints, hi.high.i, is.high.i) };
}

some_region : (make : Corners → Parcel) (o : Option Corners) (p : Parcel) → option_map make o ≡ Some p → (c : Corners) × (o ≡ Some c) × (p ≡ make c)
some_region make (Some c) p is = (c, refl, some_same (sym is))
some_region make None p is = cc

part_cells : (a b c : Corners) → AtMost a.lo a.hi → AtMost b.lo b.hi → met a b ≡ Some c → AtMost c.lo c.hi
part_cells a b c p q e = by_case (meets a b) refl e
  where
    by_case : (t : Bool) → meets a b ≡ t → cond t (Some (common a b)) None ≡ Some c → AtMost c.lo c.hi
    by_case true t e =
        let same : common a b ≡ c = some_same e in
        subst (λ (v : Corners). AtMost v.lo v.hi) same (order-common {a = a} {b = b} p q (Meet-test {a = a} {b = b} t))
    by_case false t e = absurd (none_some e)

-- the ends of the edge of a request
asked_edge : (s : Scheduling) (rank from : ℕ) (q : Request) → (k : IsRequested s rank from q) → IsEdge s k.base s.coarser q.edge
asked_edge s rank from q k = subst (λ (v : Request). IsEdge s k.base s.coarser v.edge) (sym k.is) (down_edge s k.base k.edge k.its_edge)

-- what is asked for is not empty
pub region_order : (w : Filling) (is : IsFilling w) (rank from : ℕ) (q : Request) → IsRequested w.schedule rank from q → AtMost (asked_region w.schedule q).lo (asked_region w.schedule q).hi
region_order w is rank from q k =
    let s = w.schedule in
    let d = coarse_frame s in
    let item = numbered_at 0 s.ghosts k.field k.its_field in
    let ghost = is.schedule.ghosts k.field.1 (get_member s.ghosts item.0 k.field.1 item.2) in
    let mb = (own_box rank s.level k.base k.own_base).0 in
    let G = grown k.base.bx k.field.1 in
    let piece = (holes_within (domain_of s) s.level G is.schedule.area (ghost.room k.base mb).0 is.schedule.level.not_empty k.piece k.its_piece).box.order in
    let edge = down_edge s k.base k.edge k.its_edge in
    let there = AtMost-plus k.edge.head.bx.lo k.edge.head.bx.hi (times k.edge.shift d.size) (is.schedule.coarser.not_empty k.edge.head edge.head) in
    let part = part_cells (coarsened k.piece s.step) (image d k.edge.head.bx k.edge.shift) k.region (coarse-AtMost is.schedule.step piece) there k.its_region in
    let order : AtMost q.bx.lo q.bx.hi = subst (λ (v : Request). AtMost v.bx.lo v.bx.hi) (sym k.is) part in
    order_moved q.bx (times q.edge.shift d.size) order

module _ (w : LinearFilling) (is : IsLinearFilling w) (rank from : ℕ) (b : Owned) (r : Rules) (here : slice_get w.filling.rules 0 ≡ Some r) (one : w.stencil.modulus ≡ r.modulus)
    (mb : Member b w.filling.schedule.level) where
  abbrev s : Scheduling
  s = w.filling.schedule

  abbrev v : IVec → ℕ
  v = linear_value w.filling r w.stencil w.below

  -- copied values
  copied_fit : (p : Parcel) → IsCopied w.filling from rank p → is_for b 0 p ≡ true → IsFit (frame_of s) w.stencil (grown b.bx r.width) p
  copied_fit p c t =
      let there = in_copied w.filling from rank p c.base c.field c.edge c.own_base c.its_field c.its_edge c.its_head c.is in
      let plain = plain_fit w.filling is.is rank from b 0 r here mb p there t in
      let flat = not_coarse w from rank p c in
      record {
        full = plain.full;
        into = plain.into;
        solid = λ e. absurd (false≢true (sym flat ∙ e));
        below = λ e. absurd (false≢true (sym flat ∙ e));
      }

  copied_true : (p : Parcel) → IsCopied w.filling from rank p → is_for b 0 p ≡ true → AreOf (linear_value w.filling r w.stencil w.below) (plan_of s rank) w.stencil (rest s r.width b) p
  unfolding copy_parcel
  copied_true p c t =
      let f = w.filling in
      let sch = is.is.schedule in
      let d = frame_of s in
      let parts = some_region (copy_parcel f c.field.0 c.edge) (met c.edge.base.bx (grown (image d c.edge.head.bx c.edge.shift) c.field.1)) p c.is in
      let region = parts.0 in
      let own = for_head b 0 p t in
      let field : c.field.0 ≡ 0 = ap (λ (q : Parcel). q.field) (sym parts.2) ∙ own.1 in
      let edge = copy_edge s c.field.1 c.base c.edge c.its_edge in
      let mine = own_box from s.level c.base c.own_base in
      let at_level : Member c.edge.base s.level = subst (λ (o : Owned). Member o s.level) (sym edge.base) mine.0 in
      let back = opposite c.edge.shift in
      let shift : IsShiftOf d back = (shifts_are d back).0 (opposite-shifts d.periodic c.edge.shift edge.shift) in
      subst (λ (q : Parcel). AreOf (linear_value w.filling r w.stencil w.below) (plan_of s rank) w.stencil (rest s r.width b) q) (sym parts.2)
      (λ x u.
      let z = plus x (times c.edge.shift d.size) in
      let inside : Holds region z = Holds-test {b = region} {x = z} (and_parts (not false || held x (rest s r.width b)) (holds region z) u).1 in
      let in_base = ((Holds-common c.edge.base.bx (grown (image d c.edge.head.bx c.edge.shift) c.field.1) z).0
      (subst (λ (e : Corners). Holds e z) (met_is c.edge.base.bx (grown (image d c.edge.head.bx c.edge.shift) c.field.1) region parts.1).1 inside)).0 in
      let seen : Holds (image d c.edge.base.bx back) x =
      (holds_moved_back d c.edge.base.bx back x).1 (subst (λ (e : IVec). Holds c.edge.base.bx e) (step_back x c.edge.shift d.size) in_base) in
      let in_frame = λ (y : IVec) (h : Holds c.edge.base.bx y). cell_of_frame (domain_of s) y sch.area (sch.level.inside c.edge.base y at_level h) in
      let home : z ≡ wrapped d x = step_back x c.edge.shift d.size ∙ image_home d c.edge.base.bx back x sch.area.frame in_frame shift seen in
      value_in-listed region (f.values c.field.0) z inside
      ∙ ap (λ (k : ℕ). f.values k z) field
      ∙ ap (f.values 0) home
      ∙ sym (level_value f is.is r w.stencil w.below x (c.edge.base, at_level, subst (λ (e : IVec). Holds c.edge.base.bx e) home in_base)))

  -- the values of the level below
  below_is : (q : Request) → IsRequested s rank from q → (z : IVec) → Holds (asked_region s q) z → IsCellIn s.coarser z
  below_is q k z h = (q.edge.head, (asked_edge s rank from q k).head, region_in_head s rank from q k z h)

  region_box : (q : Request) → IsRequested s rank from q → IsBox (asked_region s q)
  region_box q k =
      let sch = is.is.schedule in
      let order = region_order w.filling is.is rank from q k in
      let edge = asked_edge s rank from q k in
      let in_frame = λ (y : IVec) (h : Holds (asked_region s q) y).
      cell_of_frame (coarse_domain s) y sch.coarse_area (sch.coarser.inside q.edge.head y edge.head (region_in_head s rank from q k y h)) in
      box_in (coarse_frame s) (asked_region s q) sch.coarse_area.frame order
      (in_frame (asked_region s q).lo (Holds-lo order)) (in_frame (asked_region s q).hi (Holds-hi order))

  answer_fit : (p : Parcel) → IsAround w from rank p → is_for b 0 p ≡ true → IsFit (frame_of s) w.stencil (grown b.bx r.width) p
  answer_fit p a t =
      let q = a.request in
      let k = from_requests s rank from q a.asked in
      let R = asked_region s q in
      let region = grown R (one_around w.stencil.real) in
      let back = inner_grown w.stencil.real R in
      subst (λ (e : Parcel). IsFit (frame_of s) w.stencil (grown b.bx r.width) e) (sym a.is)
      (record {
        full = length-listed region w.below;
        into = λ e. absurd (false≢true (sym e));
        solid = λ e. subst (λ (c : Corners). IsBox c) (sym back) (region_box q k);
        below = λ e z h.
            let in_region = subst (λ (c : Corners). Holds c z) back h in
            let cell = below_is q k z in_region in
            subst (λ (n : ℕ). n < w.stencil.modulus)
            (sym (value_in-listed region w.below z (inner_holds w.stencil.real region z h) ∙ is.keeps z cell))
            (subst (λ (m : ℕ). w.filling.coarse_values 0 z < m) (sym one) (is.is.coarse_fits 0 r z here cell));
      })

  answer_true : (p : Parcel) → IsAround w from rank p → is_for b 0 p ≡ true → AreOf (linear_value w.filling r w.stencil w.below) (plan_of s rank) w.stencil (rest s r.width b) p
  answer_true p a t =
      let f = w.filling in
      let sch = is.is.schedule in
      let d = coarse_frame s in
      let q = a.request in
      let k = from_requests s rank from q a.asked in
      let R = asked_region s q in
      let region = grown R (one_around w.stencil.real) in
      let edge = asked_edge s rank from q k in
      let shift : IsShiftOf d q.edge.shift = (shifts_are d q.edge.shift).0 edge.shift in
      let in_frame = λ (y : IVec) (h : Holds q.edge.head.bx y). cell_of_frame (coarse_domain s) y sch.coarse_area (sch.coarser.inside q.edge.head y edge.head h) in
      subst (λ (e : Parcel). AreOf (linear_value w.filling r w.stencil w.below) (plan_of s rank) w.stencil (rest s r.width b) e) (sym a.is)
      (λ x u.
      let y = coarse x s.step in
      let z = plus y (times (opposite q.edge.shift) d.size) in
      let tests = and_parts (not true || held x (rest s r.width b)) (holds (inner w.stencil.real region) z) u in
      let within : Holds (inner w.stencil.real region) z = Holds-test {b = inner w.stencil.real region} {x = z} tests.1 in
      let inside : Holds R z = subst (λ (c : Corners). Holds c z) (inner_grown w.stencil.real R) within in
      let home_at : z ≡ minus y (times q.edge.shift d.size) = opposite_step y q.edge.shift d.size in
      let in_head : Holds q.edge.head.bx (minus y (times q.edge.shift d.size)) = subst (λ (e : IVec). Holds q.edge.head.bx e) home_at (region_in_head s rank from q k z inside) in
      let seen : Holds (image d q.edge.head.bx q.edge.shift) y = (holds_moved_back d q.edge.head.bx q.edge.shift y).1 in_head in
      let home : z ≡ wrapped d y = home_at ∙ image_home d q.edge.head.bx q.edge.shift y sch.coarse_area.frame in_frame shift seen in
      let ghost = ghost_at f is.is 0 r here in
      let about = rest_holds s sch b r.width mb ghost x tests.0 in
      let free = (rest_means s sch b r.width mb ghost x about).0 tests.0 in
      let o = child x s.step in
      let cell : IsCellIn s.coarser (wrapped d y) = subst (λ (e : IVec). IsCellIn s.coarser e) home (below_is q k z inside) in
      lin_listed w.stencil region w.below z o within
      ∙ ap (λ (c : IVec). lin w.stencil (w.below c) (map w.below (before c)) (map w.below (behind c)) o) home
      ∙ ap (λ (n : ℕ). lin w.stencil n (map w.below (before (wrapped d y))) (map w.below (behind (wrapped d y))) o) (is.keeps (wrapped d y) cell)
      ∙ sym (coarse_value f is.is r w.stencil w.below x free.0 free.1))

  pub parcel_fit : (p : Parcel) → Member p (linear_parcels w from rank) → is_for b 0 p ≡ true → IsFit (frame_of w.filling.schedule) w.stencil (grown b.bx r.width) p
  parcel_fit p m t = elim (from_linear w from rank p m) [
    | inl c ↦ copied_fit p c t
    | inr a ↦ answer_fit p a t
  ]

  pub parcel_true : (p : Parcel) → Member p (linear_parcels w from rank) → is_for b 0 p ≡ true
      → AreOf (linear_value w.filling r w.stencil w.below) (plan_of w.filling.schedule rank) w.stencil (rest w.filling.schedule r.width b) p
  parcel_true p m t = elim (from_linear w from rank p m) [
    | inl c ↦ copied_true p c t
    | inr a ↦ answer_true p a t
  ]
