-- Each cell of the domain about a box takes a value of a parcel, unless it is the box's own.
use Rattle.std.proofs.Common.{◌≡◌, ◌⊎◌, ℕ, ◌+◌, ◌<◌, refl, sym, ap, ◌∙◌, subst, inl, inr, arith, length}
use Rattle.std.proofs.lemmas.Int.{ints}
use Rattle.std.proofs.lemmas.Bool.{and_from, false≢true, false_from_ne_true, eq-eqb}
use Rattle.std.specs.Ordering.{is_eq}
use Rattle.std.proofs.lemmas.Cmp.{eq_by_cmp_equiv}
use Rattle.std.specs.Prelude.{Bool, true, false, ◌&&◌, ◌||◌, not, List, [], ◌∷◌, map, filter, Option, Some, None, nat_eq, slice_get, IsTrue, ℤ, pos, ◌+ℤ◌, ◌-ℤ◌, ◌*ℤ◌}
use Rattle.std.specs.List.{enumerate_from, list_any}
use Rattle.std.specs.Option.{option_map}
use Rattle.samr_box.specs.declared.vector.IVec.{IVec}
use Rattle.samr_box.specs.Vector.{alike, AtMost, plus, minus, times}
use Rattle.samr_box.specs.Corners.{Corners, Holds, holds, Meet, common, met, meets, grown}
use Rattle.samr_box.specs.Ratios.{coarse, coarsened, refined}
use Rattle.samr_box.specs.Space.{Space, IsSpace, whole, finer, image, opposite, wrapped}
use Rattle.samr_box.specs.Lists.{Member}
use Rattle.samr_box.proofs.Vectors.{same_cell}
use Rattle.samr_box.proofs.Products.{mul_zero, mul_assoc}
use Rattle.samr_box.proofs.CellSets.{Holds-common, Holds-test, holds-from, Holds-grown, Holds-refined, coarse-AtMost, Meet-cell, meets-from, meets-means}
use Rattle.samr_box.proofs.Members.{Member-filter, Member-from_filter}
use Rattle.samr_boxlist.specs.Covers.{held}
use Rattle.samr_level.specs.Refs.{Owned, Link, link, turned}
use Rattle.samr_level.specs.RefOrders.{ref_cmp}
use Rattle.samr_level.specs.Regions.{IsInside}
use Rattle.samr_level.specs.Levels.{own, IsCellIn}
use Rattle.samr_level.specs.Overlaps.{scale, shifts, near as near_at, IsTrueOverlap}
use Rattle.samr_level.proofs.RefLaws.{ref_total}
use Rattle.samr_level.proofs.Domains.{member-held}
use Rattle.samr_level.proofs.Overlapping.{Member-overlaps, opposite-shifts, zero_shift}
use Rattle.samr_border.specs.Turns.{turns, IsShiftOf, IsNearFrame}
use Rattle.samr_border.proofs.TurnLaws.{turns_shift, turns_home, turns_coarse, wrapped_coarse, wrapped_stays}
use Rattle.samr_border.proofs.ImageCells.{holds_moved_back, image_home, image_wrapped, image_turns, image_by_turns}
use Rattle.samr_nest.proofs.StayLaws.{shifts_are, cell_of_frame}
use Rattle.samr_nest.proofs.Moved.{AtMost-plus}
use Rattle.samr_nest.proofs.Subtracting.{met_some}
use Rattle.samr_data.specs.Places.{moved_back}
use Rattle.samr_ops.specs.declared.rules.Rules.{Rules}
use Rattle.samr_sched.specs.Ask.{Scheduling, IsScheduling, IsGhost, domain_of, coarse_domain, frame_of, coarse_frame, selves_of, downs_of}
use Rattle.samr_sched.specs.Plans.{copies, rest, request, requests, plan_of}
use Rattle.samr_data.specs.declared.parcel.Parcel.{Parcel}
use Rattle.samr_fill.specs.Fill.{Filling, IsFilling, has}
use Rattle.samr_fill.specs.FillRow.{copied_along, asked_region, answered, parcels}
use Rattle.samr_fill.specs.Writing.{is_for, takes, any_takes}
use Rattle.samr_fill.proofs.Fixing.{by_test}
use Rattle.samr_fill.proofs.Pieces.{moved_has}
use Rattle.samr_fill.proofs.Scales.{self_near, down_near, near_coarse}
use Rattle.samr_fill.proofs.Insides.{any_member, member_any, near_frame, rest_means}
use Rattle.samr_fill.proofs.FillRowLaws.{in_requests, in_copied, in_answers}
use Rattle.samr_fill.proofs.Turning.{step_back, opposite_step, there_and_back, near_moved, image_moved, grown_moved}
use Rattle.samr_fill.proofs.Numbered.{numbered_has, get_member}
use Rattle.samr_fill.proofs.Truths.{copy_parcel, width_at, ghost_at}

-- an image of a box that meets another box of the level is that box itself, where it stands
module _ (s : Scheduling) (h : IsScheduling s) (a b : Owned) (ma : Member a s.level) (mb : Member b s.level) where
  frame_cells : (o : Owned) → Member o s.level → (y : IVec) → Holds o.bx y → Holds (whole (frame_of s)) y
  frame_cells o m y q = cell_of_frame (domain_of s) y h.area (h.level.inside o y m q)

  zero_on : (x n : ℤ) → x -ℤ (pos 0 *ℤ n) ≡ x
  zero_on x n = let e = mul_zero n in omega (arith, ints, e)

  no_step : (x n : IVec) → minus x (times (alike (pos 0)) n) ≡ x
  no_step x n = same_cell (zero_on x.k n.k) (zero_on x.j n.j) (zero_on x.i n.i)

  pub itself : (t : IVec) → IsShiftOf (frame_of s) t → meets (image (frame_of s) b.bx t) a.bx ≡ true → (a ≡ b) × (t ≡ alike (pos 0))
  itself t shift met =
      let d = frame_of s in
      let m = times t d.size in
      let cell = (meets-means (image d b.bx t) a.bx (AtMost-plus b.bx.lo b.bx.hi m (h.level.not_empty b mb)) (h.level.not_empty a ma)).0 met in
      let y = cell.0 in
      let wraps = image_wrapped d b.bx t y h.area.frame (frame_cells b mb) shift cell.1 in
      let stays = wrapped_stays d y h.area.frame (frame_cells a ma y cell.2) in
      let in_b : Holds b.bx y = subst (λ (v : IVec). Holds b.bx v) stays wraps in
      let by = image_turns d b.bx t y h.area.frame (frame_cells b mb) shift cell.1 in
      let still : IsShiftOf d (alike (pos 0)) = (shifts_are d (alike (pos 0))).0 (zero_shift d.periodic) in
      let zero = image_turns d b.bx (alike (pos 0)) y h.area.frame (frame_cells b mb) still
      ((holds_moved_back d b.bx (alike (pos 0)) y).1 (subst (λ (v : IVec). Holds b.bx v) (sym (no_step y d.size)) in_b)) in
      (h.level.disjoint a b ma mb (Meet-cell {a = a.bx} {b = b.bx} {x = y} cell.2 in_b), by ∙ sym zero)

-- a step of no lengths
nothing_on : (x n : ℤ) → x +ℤ (pos 0 *ℤ n) ≡ x
nothing_on x n = let e = mul_zero n in omega (arith, ints, e)

plus_nothing : (x n : IVec) → plus x (times (alike (pos 0)) n) ≡ x
plus_nothing x n = same_cell (nothing_on x.k n.k) (nothing_on x.j n.j) (nothing_on x.i n.i)

-- the frame of the level is that of the one below it, refined
fine_frame : (s : Scheduling) → IsScheduling s → finer (coarse_frame s) s.step ≡ frame_of s
fine_frame s h =
    let f = s.region.frame in
    let size : times (times f.size s.below) s.step ≡ times f.size s.ratio =
    same_cell (mul_assoc f.size.k s.below.k s.step.k) (mul_assoc f.size.j s.below.j s.step.j) (mul_assoc f.size.i s.below.i s.step.i)
    ∙ ap (times f.size) h.product in
    ap (λ (v : IVec). let d : Space = record { size = v; periodic = f.periodic } in d) size

-- a parcel for this box and field
self_eq : (b : Owned) → is_eq (ref_cmp b b) ≡ true
self_eq b = (eq_by_cmp_equiv ref_total).refl b

is_for_own : (b : Owned) (n : ℕ) (p : Parcel) → p.edge.head ≡ b → p.field ≡ n → is_for b n p ≡ true
is_for_own b n p head field =
    and_from (is_eq (ref_cmp p.edge.head b)) (nat_eq p.field n) (ap (λ (o : Owned). is_eq (ref_cmp o b)) head ∙ self_eq b) (eq-eqb p.field n field)

module _ (w : Filling) (is : IsFilling w) (rank : ℕ) (b : Owned) (n : ℕ) (r : Rules) (here : slice_get w.rules n ≡ Some r) (mb : Member b w.schedule.level)
    (mine : b.owner ≡ rank) (all : List Parcel) (come : (from : ℕ) (p : Parcel) → from < w.schedule.ranks → Member p (parcels w from rank) → Member p all) where
  ghost : IsGhost w.schedule r.width
  ghost = ghost_at w is n r here

  field : Member (n, r.width) (enumerate_from 0 w.schedule.ghosts)
  field =
      let P : ℕ → Type 0 = λ k. Member (k, r.width) (enumerate_from 0 w.schedule.ghosts) in
      subst P (zero_plus n) (numbered_has 0 w.schedule.ghosts n r.width (width_at w is n r here))
    where
      zero_plus : (k : ℕ) → 0 + k ≡ k
      zero_plus k = omega arith

  own_of : (o : Owned) (k : ℕ) (level : List Owned) → Member o level → o.owner ≡ k → Member o (own k level)
  unfolding own
  own_of o k level m e = Member-filter (λ (v : Owned). nat_eq v.owner k) o level m (eq-eqb o.owner k e)

  taken_of : (p : Parcel) (x : IVec) → Member p all → p.edge.head ≡ b → p.field ≡ n → takes (plan_of w.schedule rank) (rest w.schedule r.width b) p x ≡ true
      → any_takes (plan_of w.schedule rank) (rest w.schedule r.width b) (filter (λ q. is_for b n q) all) x ≡ true
  taken_of p x m head same t =
      any_member (λ (p : Parcel). takes (plan_of w.schedule rank) (rest w.schedule r.width b) p x) p (filter (λ q. is_for b n q) all)
      (Member-filter (λ q. is_for b n q) p all m (is_for_own b n p head same)) t

  module _ (x : IVec) (about : Holds (grown b.bx r.width) x) (inside : IsInside (domain_of w.schedule) x) (ghostly : holds b.bx x ≡ false) where
    near : IsNearFrame (frame_of w.schedule) x
    near = near_frame w.schedule is.schedule b r.width mb ghost x about

    -- a cell of the level
    copy_there : (h : Owned) → Member h w.schedule.level → Holds h.bx (wrapped (frame_of w.schedule) x)
        → any_takes (plan_of w.schedule rank) (rest w.schedule r.width b) (filter (λ q. is_for b n q) all) x ≡ true
    unfolding copies copy_parcel
    copy_there h mh has_it =
        let s = w.schedule in
        let d = frame_of s in
        let t = turns d x in
        let m = times t d.size in
        let back = opposite t in
        let e : Link = link h b back in
        let u = minus x m in
        let home : u ≡ wrapped d x = turns_home d x is.schedule.area.frame near in
        let at_home : Holds h.bx u = subst (λ (v : IVec). Holds h.bx v) (sym home) has_it in
        let y = (Holds-grown b.bx r.width (is.schedule.level.not_empty b mb) ghost.low x).0 about in
        let z = minus y.0 m in
        let z_image : Holds (image d b.bx back) z = image_moved d b.bx t y.0 y.1 in
        let z_wide : Holds (grown h.bx s.width) z = near_moved h.bx x y.0 m r.width s.width at_home y.2 ghost.wide in
        let z_near : Holds (grown h.bx r.width) z = near_moved h.bx x y.0 m r.width r.width at_home y.2 (AtMost-self r.width) in
        let scale_of = scale s.region.frame s.width s.ratio s.ratio in
        let shift : Member back (shifts d.periodic) = (shifts_are d back).1 (turned_shift d x) in
        let is_edge : IsTrueOverlap scale_of (h ∷ []) s.level e =
        record { is_base = inl refl; is_head = mb; is_shift = shift; is_near = self_near s.region.frame s.width s.ratio h.bx b.bx back z is.schedule.ratio z_wide z_image } in
        let test : Link → Bool = λ e. meets (image d e.head.bx e.shift) (grown h.bx r.width) && not (meets (image d e.head.bx e.shift) h.bx) in
        let apart : meets (image d b.bx back) h.bx ≡ false =
        false_from_ne_true (meets (image d b.bx back) h.bx) (λ met. not_own h mh (turned_shift d x) met at_home) in
        let edge : Member e (copies s r.width h) =
        Member-filter test e (selves_of s h) (Member-overlaps scale_of (h ∷ []) s.level e is_edge)
        (and_from (meets (image d b.bx back) (grown h.bx r.width)) (not (meets (image d b.bx back) h.bx))
        (meets-from (Meet-cell {a = image d b.bx back} {b = grown h.bx r.width} {x = z} z_image z_near)) (ap not apart)) in
        let region = common h.bx (grown (image d b.bx back) r.width) in
        let is_some = met_some h.bx (grown (image d b.bx back) r.width) u at_home (grown_moved d b.bx t r.width x about) in
        let p = copy_parcel w n e region in
        let made : copied_along w n r.width e ≡ Some p = ap (option_map (copy_parcel w n e)) is_some in
        let sent = in_copied w h.owner rank p h (n, r.width) e (own_of h h.owner s.level mh refl) field edge mine made in
        let in_region : Holds region u = (Holds-common h.bx (grown (image d b.bx back) r.width) u).1 (at_home, grown_moved d b.bx t r.width x about) in
        taken_of p x (come h.owner p (is.schedule.level.owners h mh) sent) refl refl
        (and_from (not false || held x (rest s r.width b)) (holds region (plus x (times back d.size))) refl
        (holds-from (subst (λ (v : IVec). Holds region v) (sym (opposite_step x t d.size)) in_region)))
      where
        AtMost-self : (g : IVec) → AtMost g g
        AtMost-self g = record { k = omega (arith, ints); j = omega (arith, ints); i = omega (arith, ints) }

        turned_shift : (d : Space) (x : IVec) → IsShiftOf d (opposite (turns d x))
        turned_shift d x = (shifts_are d (opposite (turns d x))).0 (opposite-shifts d.periodic (turns d x) ((shifts_are d (turns d x)).1 (turns_shift d x)))

        not_own : (h : Owned) → Member h w.schedule.level → IsShiftOf (frame_of w.schedule) (opposite (turns (frame_of w.schedule) x))
            → meets (image (frame_of w.schedule) b.bx (opposite (turns (frame_of w.schedule) x))) h.bx ≡ true
            → Holds h.bx (minus x (times (turns (frame_of w.schedule) x) (frame_of w.schedule).size)) → ⊥
        not_own h mh shift met at_home =
            let d = frame_of w.schedule in
            let t = turns d x in
            let same = itself w.schedule is.schedule h b mh mb (opposite t) shift met in
            let stays : minus x (times t d.size) ≡ x = sym (opposite_step x t d.size) ∙ ap (λ (v : IVec). plus x (times v d.size)) same.1 ∙ plus_nothing x d.size in
            let held_here : Holds b.bx x = subst (λ (o : Owned). Holds o.bx x) same.0 (subst (λ (v : IVec). Holds h.bx v) stays at_home) in
            false≢true (sym ghostly ∙ holds-from held_here)

    -- a cell that the level does not have, and the level below has
    under_there : (h : Owned) → Member h w.schedule.coarser → Holds h.bx (wrapped (coarse_frame w.schedule) (coarse x w.schedule.step))
        → (IsCellIn w.schedule.level (wrapped (frame_of w.schedule) x) → ⊥) → any_takes (plan_of w.schedule rank) (rest w.schedule r.width b) (filter (λ q. is_for b n q) all) x ≡ true
    under_there h mh has_it none =
        let s = w.schedule in
        let d = coarse_frame s in
        let y = coarse x s.step in
        let t = turns d y in
        let e : Link = link b h t in
        let same_frame = fine_frame s is.schedule in
        let fine_near : IsNearFrame (finer d s.step) x = subst (λ (f : Space). IsNearFrame f x) (sym same_frame) near in
        let y_near = near_coarse d s.step x is.schedule.step fine_near in
        let seen : Holds (image d h.bx t) y = image_by_turns d h.bx y is.schedule.coarse_area.frame y_near has_it in
        let fine_has : Holds (refined h.bx s.step) (wrapped (finer d s.step) x) =
        (Holds-refined h.bx s.step (wrapped (finer d s.step) x) is.schedule.step).1
        (subst (λ (v : IVec). Holds h.bx v) (sym (wrapped_coarse d s.step x is.schedule.coarse_area.frame is.schedule.step)) has_it) in
        let fine_space : IsSpace (finer d s.step) = subst (λ (f : Space). IsSpace f) (sym same_frame) is.schedule.area.frame in
        let fine_seen = image_by_turns (finer d s.step) (refined h.bx s.step) x fine_space fine_near fine_has in
        let seen_at : Holds (image (finer s.region.frame (times s.below s.step)) (refined h.bx s.step) t) x =
        subst (λ (f : Space). Holds (image f (refined h.bx s.step) t) x) (same_frame ∙ ap (λ (q : IVec). finer s.region.frame q) (sym is.schedule.product))
        (subst (λ (v : IVec). Holds (image (finer d s.step) (refined h.bx s.step) v) x) (turns_coarse d s.step x is.schedule.step) fine_seen) in
        let close : near_at (scale s.region.frame s.reach s.ratio s.below) b.bx h.bx t ≡ true =
        subst (λ (q : IVec). near_at (scale s.region.frame s.reach q s.below) b.bx h.bx t ≡ true) is.schedule.product
        (down_near s.region.frame s.reach s.below s.step r.width b.bx h.bx t x is.schedule.below is.schedule.step ghost.reach about seen_at) in
        let scale_of = scale s.region.frame s.reach s.ratio s.below in
        let is_edge : IsTrueOverlap scale_of (b ∷ []) s.coarser e =
        record { is_base = inl refl; is_head = mh; is_shift = (shifts_are d t).1 (turns_shift d y); is_near = close } in
        let edge = Member-overlaps scale_of (b ∷ []) s.coarser e is_edge in
        let free = (rest_means s is.schedule b r.width mb ghost x about).1 (inside, none) in
        let piece = member-held x (rest s r.width b) free in
        let over_piece : Holds (coarsened piece.0 s.step) y =
        record { low = coarse-AtMost is.schedule.step piece.2.low; high = coarse-AtMost is.schedule.step piece.2.high } in
        let region = common (coarsened piece.0 s.step) (image d h.bx t) in
        let is_some = met_some (coarsened piece.0 s.step) (image d h.bx t) y over_piece seen in
        let q = request e n region in
        let asked = in_requests s rank h.owner b (n, r.width) e piece.0 region (own_of b rank s.level mb mine) field edge refl piece.1 is_some in
        let sent = in_answers w h.owner rank q asked in
        let in_region : Holds region y = (Holds-common (coarsened piece.0 s.step) (image d h.bx t) y).1 (over_piece, seen) in
        let z = plus y (times (opposite t) d.size) in
        let in_moved : Holds (moved_back region (times t d.size)) z =
        moved_has region (times t d.size) z (subst (λ (v : IVec). Holds region v) (sym (there_and_back y t d.size)) in_region) in
        taken_of (answered w q) x (come h.owner (answered w q) (is.schedule.coarser.owners h mh) sent) refl refl
        (and_from (not true || held x (rest s r.width b)) (holds (moved_back region (times t d.size)) z) free (holds-from in_moved))

    pub covered : any_takes (plan_of w.schedule rank) (rest w.schedule r.width b) (filter (λ q. is_for b n q) all) x ≡ true
    covered =
        let s = w.schedule in
        let y = wrapped (frame_of s) x in
        by_test (has s.level y)
        (λ t. let c = member_any (λ (o : Owned). holds o.bx y) s.level t in copy_there c.0 c.1 (Holds-test c.2))
        (λ f.
        let none : IsCellIn s.level y → ⊥ = λ c. false≢true (sym f ∙ any_member (λ (o : Owned). holds o.bx y) c.0 s.level c.1 (holds-from c.2)) in
        elim (is.sourced b r.width x mb (get_member s.ghosts n r.width (width_at w is n r here)) about inside) [
          | inl c ↦ copy_there c.0 c.1 c.2
          | inr c ↦ under_there c.0 c.1 c.2 none
        ])
