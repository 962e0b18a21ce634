-- What a patch has in the end.
use Rattle.std.proofs.Common.{◌≡◌, ℕ, suc, refl, sym, ap, ◌∙◌, subst, inl, inr, arith, length}
use Rattle.std.proofs.lemmas.Int.{ints}
use Rattle.std.proofs.lemmas.Bool.{false≢true, false_from_ne_true}
use Rattle.std.proofs.lemmas.Bool.Decides.{nat_tests}
use Rattle.std.specs.Prelude.{pos, ◌≤ℤ◌, Bool, true, false, not, ◌&&◌, nat_lt, List, [], ◌∷◌, map, Result, Ok, Err, Some, slice_get, slice_index, if◌then◌else◌}
use Rattle.samr_box.specs.declared.vector.IVec.{IVec}
use Rattle.samr_box.specs.Vector.{alike, AtMost}
use Rattle.samr_box.specs.Corners.{Corners, Holds, grown}
use Rattle.samr_box.specs.Ratios.{refined}
use Rattle.samr_box.specs.Space.{whole}
use Rattle.samr_box.specs.Lists.{Member}
use Rattle.samr_box.proofs.CellSets.{Holds-lo, Holds-hi}
use Rattle.samr_boxlist.specs.Covers.{held}
use Rattle.samr_level.specs.Refs.{Owned}
use Rattle.samr_level.specs.Regions.{IsInside, is_inside}
use Rattle.samr_level.proofs.Domains.{is_inside-means}
use Rattle.samr_border.proofs.TurnLaws.{wrapped_stays}
use Rattle.samr_nest.specs.Starts.{needed}
use Rattle.samr_data.specs.Grids.{Grid, over, value_at, grid_of, written}
use Rattle.samr_data.proofs.Lists.{listed_same}
use Rattle.samr_ops.specs.declared.rules.Rules.{Rules}
use Rattle.samr_ops.specs.Walks.{walked, IsNear}
use Rattle.samr_ops.proofs.WalkLaws.{grown_cells_are_near, walks_end_inside}
use Rattle.samr_sched.specs.Ask.{IsGhost, domain_of, frame_of}
use Rattle.samr_sched.specs.Plans.{plan_of}
use Rattle.samr_fill.specs.Fill.{Filling, IsFilling, walked_value, value_of}
use Rattle.samr_fill.specs.Ending.{walk_in, ended_at, CanEnd}
use Rattle.samr_fill.proofs.Fixing.{by_test}
use Rattle.samr_fill.proofs.Insides.{home, inside_means, value_inside, level_value}
use Rattle.samr_fill.proofs.Truths.{ghost_at}
use Rattle.samr_fill.proofs.WalkEnds.{walk_stays, wraps_inside, plain_inside}

length_map : {X Y : Type 0} (f : X → Y) (xs : List X) → length (map f xs) ≡ length xs
length_map f [] = refl
length_map f (x ∷ xs) = ap suc (length_map f xs)

module _ (w : Filling) (is : IsFilling w) (rank : ℕ) (b : Owned) (n : ℕ) (r : Rules) (here : slice_get w.rules n ≡ Some r) (mb : Member b w.schedule.level) where
  ghost : IsGhost w.schedule r.width
  ghost = ghost_at w is n r here

  in_frame : (y : IVec) → Holds b.bx y → Holds (whole (frame_of w.schedule)) y
  in_frame = home w.schedule is.schedule b r.width mb ghost

  order : AtMost b.bx.lo b.bx.hi
  order = is.schedule.level.not_empty b mb

  pub near_walk : (x : IVec) → Holds (grown b.bx r.width) x → IsNear r (frame_of w.schedule) x
  near_walk x h =
      let lo = in_frame b.bx.lo (Holds-lo order) in
      let hi = in_frame b.bx.hi (Holds-hi order) in
      grown_cells_are_near r (frame_of w.schedule) x
      (record {
        low = record { k = omega (arith, ints, h.low.k, lo.low.k); j = omega (arith, ints, h.low.j, lo.low.j); i = omega (arith, ints, h.low.i, lo.low.i) };
        high = record { k = omega (arith, ints, h.high.k, hi.high.k); j = omega (arith, ints, h.high.j, hi.high.j); i = omega (arith, ints, h.high.i, hi.high.i) };
      })

  pub walk_about : (x y : IVec) → Holds (grown b.bx r.width) x → walked r (frame_of w.schedule) x ≡ Ok y → Holds (grown b.bx r.width) y
  walk_about x y h e =
      walk_stays r (frame_of w.schedule) b.bx r.width x y is.schedule.area.frame (in_frame b.bx.lo (Holds-lo order)) (in_frame b.bx.hi (Holds-hi order)) order h e

  pub can_end : (p : Grid) → over p ≡ grown b.bx r.width → (x : IVec) → Holds (over p) x → CanEnd (plan_of w.schedule rank) r p x
  can_end p whole x h =
      let about = subst (λ (c : Corners). Holds c x) whole h in
      record {
        here = h;
        near = near_walk x about;
        there = λ y e. subst (λ (c : Corners). Holds c y) (sym whole) (walk_about x y about e);
      }

  -- the box's own cells
  pub own_value : (x : IVec) → Holds b.bx x → value_of w (n, r) x ≡ w.values n x
  own_value x h =
      let stays = wrapped_stays (frame_of w.schedule) x is.schedule.area.frame (in_frame x h) in
      level_value w is (n, r) x (b, mb, subst (λ (v : IVec). Holds b.bx v) (sym stays) h) ∙ ap (w.values n) stays

  module _ (p : Grid) (right : (x : IVec) → Holds (grown b.bx r.width) x → IsInside (domain_of w.schedule) x → value_at p x ≡ value_of w (n, r) x) where
    -- where the walk of a cell ends
    by_walk : (x : IVec) → Holds (grown b.bx r.width) x → length w.schedule.region.parts ≡ 0 → (o : Result IVec ℕ) → walked r (frame_of w.schedule) x ≡ o
        → walk_in p o ≡ walked_value w (n, r) o
    by_walk x h none (Err v) e = refl
    by_walk x h none (Ok y) e =
        let s = w.schedule in
        let d = frame_of s in
        let inside_all = walks_end_inside r d x y is.schedule.area.frame (near_walk x h) ghost.short e in
        let inside = plain_inside (domain_of s) y (length_map (λ q. refined q s.ratio) s.region.parts ∙ none) (wraps_inside d y is.schedule.area.frame inside_all) in
        right y (walk_about x y h e) inside ∙ value_inside w is (n, r) y inside

    beyond : (x : IVec) → Holds (grown b.bx r.width) x → held x (needed (domain_of w.schedule) (grown b.bx r.width)) ≡ false → is_inside (domain_of w.schedule) x ≡ false
    beyond x h f =
        false_from_ne_true (is_inside (domain_of w.schedule) x)
        (λ t.
        let i = (is_inside-means (domain_of w.schedule) x).0 t in
        false≢true (sym f ∙ (inside_means w.schedule is.schedule b r.width mb ghost x h).1 i))

    pub ended_right : (x : IVec) → Holds (grown b.bx r.width) x
        → ended_at (plan_of w.schedule rank) (needed (domain_of w.schedule) (grown b.bx r.width)) n r p x ≡ value_of w (n, r) x
    unfolding ended_at value_of
    ended_right x h =
        let s = w.schedule in
        let d = frame_of s in
        let a = domain_of s in
        let inside = needed a (grown b.bx r.width) in
        let walk = walk_in p (walked r d x) in
        let fixed = slice_index s.fixed n in
        let there = if nat_lt 0 (length s.fixed) then fixed else walk in
        let value = walked_value w (n, r) (walked r d x) in
        by_test (held x inside)
        (λ t.
        ap (λ (v : Bool). if v then value_at p x else there) t
        ∙ right x h ((inside_means s is.schedule b r.width mb ghost x h).0 t))
        (λ f.
        let out = beyond x h f in
        ap (λ (v : Bool). if v then value_at p x else there) f
        ∙ by_test (nat_lt 0 (length s.region.parts))
        (λ t.
        ap (λ (v : Bool). if v then fixed else walk) (sym is.fixed ∙ t)
        ∙ sym
        (ap (λ (v : Bool). if v && not (is_inside a x) then fixed else value) t
        ∙ ap (λ (v : Bool). if true && not v then fixed else value) out))
        (λ e.
        let none : length s.region.parts ≡ 0 = no_parts (length s.region.parts) e in
        ap (λ (v : Bool). if v then fixed else walk) (sym is.fixed ∙ e)
        ∙ by_walk x h none (walked r d x) refl
        ∙ sym (ap (λ (v : Bool). if v && not (is_inside a x) then fixed else value) e)))
      where
        no_parts : (k : ℕ) → nat_lt 0 k ≡ false → k ≡ 0
        no_parts k e = grind (arith, nat_tests, e)

    pub patch_ends : (q : Grid) → p.bx ≡ b.bx → p.width ≡ r.width
        → q ≡ written p (ended_at (plan_of w.schedule rank) (needed (domain_of w.schedule) (grown b.bx r.width)) n r p)
        → q ≡ grid_of b.bx r.width (value_of w (n, r))
    patch_ends q bx width made =
        let f = ended_at (plan_of w.schedule rank) (needed (domain_of w.schedule) (grown b.bx r.width)) n r p in
        made
        ∙ ap (λ (c : Corners). grid_of c p.width f) bx
        ∙ ap (λ (g : IVec). grid_of b.bx g f) width
        ∙ ap (λ (l : List ℕ). let g : Grid = record { bx = b.bx; width = r.width; values = l } in g)
        (listed_same (grown b.bx r.width) f (value_of w (n, r)) (grown_order b.bx r.width order ghost.low) ended_right)
      where
        grown_order : (c : Corners) (g : IVec) → AtMost c.lo c.hi → AtMost (alike (pos 0)) g → AtMost (grown c g).lo (grown c g).hi
        grown_order c g o l = record { k = omega (arith, ints, o.k, l.k); j = omega (arith, ints, o.j, l.j); i = omega (arith, ints, o.i, l.i) }
