-- What a patch has in the end.
use Rattle.std.proofs.Common.{◌≡◌, ℕ, suc, refl, sym, ap, ◌∙◌, subst, arith, length}
use Rattle.std.proofs.lemmas.Int.{ints}
use Rattle.std.proofs.lemmas.Bool.{false≢true, false_from_ne_true}
use Rattle.std.proofs.lemmas.Bool.Decides.{nat_tests}
use Rattle.std.specs.Prelude.{pos, Bool, true, false, not, ◌&&◌, nat_lt, List, [], ◌∷◌, map, Result, Ok, Err, Some, slice_get, slice_index, if◌then◌else◌}
use Rattle.samr_box.specs.declared.vector.IVec.{IVec}
use Rattle.samr_box.specs.Vector.{alike, AtMost}
use Rattle.samr_box.specs.Corners.{Corners, Holds, grown}
use Rattle.samr_box.specs.Ratios.{refined}
use Rattle.samr_box.specs.Space.{whole}
use Rattle.samr_box.specs.Lists.{Member}
use Rattle.samr_boxlist.specs.Covers.{held}
use Rattle.samr_level.specs.Refs.{Owned}
use Rattle.samr_level.specs.Regions.{IsInside, is_inside}
use Rattle.samr_level.proofs.Domains.{is_inside-means}
use Rattle.samr_border.proofs.TurnLaws.{wrapped_stays}
use Rattle.samr_nest.specs.Starts.{needed}
use Rattle.samr_data.specs.Grids.{Grid, value_at, grid_of, written}
use Rattle.samr_data.proofs.Lists.{listed_same}
use Rattle.samr_ops.specs.declared.rules.Rules.{Rules}
use Rattle.samr_ops.specs.Walks.{walked}
use Rattle.samr_ops.proofs.WalkLaws.{walks_end_inside}
use Rattle.samr_sched.specs.Ask.{IsGhost, domain_of, frame_of}
use Rattle.samr_sched.specs.Plans.{plan_of}
use Rattle.samr_fill.specs.Fill.{Filling, IsFilling}
use Rattle.samr_fill.specs.Ending.{walk_in, ended_at}
use Rattle.samr_fill.proofs.Fixing.{by_test}
use Rattle.samr_fill.proofs.Insides.{home, inside_means}
use Rattle.samr_fill.proofs.Ends.{near_walk, walk_about}
use Rattle.samr_linear.specs.declared.linear.Linear.{Linear}
use Rattle.samr_linear.specs.LinVal.{linear_walked, linear_value}
use Rattle.samr_linear.proofs.Insides.{value_inside, level_value}
use Rattle.samr_fill.proofs.Truths.{ghost_at}
use Rattle.samr_fill.proofs.WalkEnds.{wraps_inside, plain_inside}

length_map : {X Y : Type 0} (f : X → Y) (xs : List X) → length (map f xs) ≡ length xs
length_map f [] = refl
length_map f (x ∷ xs) = ap suc (length_map f xs)

module _ (w : Filling) (is : IsFilling w) (rank : ℕ) (b : Owned) (r : Rules) (s : Linear) (below : IVec → ℕ) (here : slice_get w.rules 0 ≡ Some r) (mb : Member b w.schedule.level) where
  ghost : IsGhost w.schedule r.width
  ghost = ghost_at w is 0 r here

  in_frame : (y : IVec) → Holds b.bx y → Holds (whole (frame_of w.schedule)) y
  in_frame = home w.schedule is.schedule b r.width mb ghost

  order : AtMost b.bx.lo b.bx.hi
  order = is.schedule.level.not_empty b mb

  walk_there : (x y : IVec) → Holds (grown b.bx r.width) x → walked r (frame_of w.schedule) x ≡ Ok y → Holds (grown b.bx r.width) y
  walk_there = walk_about w is rank b 0 r here mb

  -- the box's own cells
  pub own_value : (x : IVec) → Holds b.bx x → linear_value w r s below x ≡ w.values 0 x
  own_value x h =
      let stays = wrapped_stays (frame_of w.schedule) x is.schedule.area.frame (in_frame x h) in
      level_value w is r s below x (b, mb, subst (λ (v : IVec). Holds b.bx v) (sym stays) h) ∙ ap (w.values 0) stays

  module _ (p : Grid) (right : (x : IVec) → Holds (grown b.bx r.width) x → IsInside (domain_of w.schedule) x → value_at p x ≡ linear_value w r s below x) where
    -- where the walk of a cell ends
    by_walk : (x : IVec) → Holds (grown b.bx r.width) x → length w.schedule.region.parts ≡ 0 → (o : Result IVec ℕ) → walked r (frame_of w.schedule) x ≡ o
        → walk_in p o ≡ linear_walked w s below o
    by_walk x h none (Err v) e = refl
    by_walk x h none (Ok y) e =
        let c = w.schedule in
        let d = frame_of c in
        let inside_all = walks_end_inside r d x y is.schedule.area.frame (near_walk w is rank b 0 r here mb x h) ghost.short e in
        let inside = plain_inside (domain_of c) y (length_map (λ q. refined q c.ratio) c.region.parts ∙ none) (wraps_inside d y is.schedule.area.frame inside_all) in
        right y (walk_there x y h e) inside ∙ value_inside w is r s below y inside

    beyond : (x : IVec) → Holds (grown b.bx r.width) x → held x (needed (domain_of w.schedule) (grown b.bx r.width)) ≡ false → is_inside (domain_of w.schedule) x ≡ false
    beyond x h f =
        false_from_ne_true (is_inside (domain_of w.schedule) x)
        (λ t.
        let i = (is_inside-means (domain_of w.schedule) x).0 t in
        false≢true (sym f ∙ (inside_means w.schedule is.schedule b r.width mb ghost x h).1 i))

    pub ended_right : (x : IVec) → Holds (grown b.bx r.width) x
        → ended_at (plan_of w.schedule rank) (needed (domain_of w.schedule) (grown b.bx r.width)) 0 r p x ≡ linear_value w r s below x
    unfolding ended_at linear_value
    ended_right x h =
        let c = w.schedule in
        let d = frame_of c in
        let a = domain_of c in
        let inside = needed a (grown b.bx r.width) in
        let walk = walk_in p (walked r d x) in
        let fixed = slice_index c.fixed 0 in
        let there = if nat_lt 0 (length c.fixed) then fixed else walk in
        let value = linear_walked w s below (walked r d x) in
        by_test (held x inside)
        (λ t.
        ap (λ (v : Bool). if v then value_at p x else there) t
        ∙ right x h ((inside_means c is.schedule b r.width mb ghost x h).0 t))
        (λ f.
        let out = beyond x h f in
        ap (λ (v : Bool). if v then value_at p x else there) f
        ∙ by_test (nat_lt 0 (length c.region.parts))
        (λ t.
        ap (λ (v : Bool). if v then fixed else walk) (sym is.fixed ∙ t)
        ∙ sym
        (ap (λ (v : Bool). if v && not (is_inside a x) then fixed else value) t
        ∙ ap (λ (v : Bool). if true && not v then fixed else value) out))
        (λ e.
        let none : length c.region.parts ≡ 0 = no_parts (length c.region.parts) e in
        ap (λ (v : Bool). if v then fixed else walk) (sym is.fixed ∙ e)
        ∙ by_walk x h none (walked r d x) refl
        ∙ sym (ap (λ (v : Bool). if v && not (is_inside a x) then fixed else value) e)))
      where
        no_parts : (k : ℕ) → nat_lt 0 k ≡ false → k ≡ 0
        no_parts k e = grind (arith, nat_tests, e)

    pub patch_ends : (q : Grid) → p.bx ≡ b.bx → p.width ≡ r.width
        → q ≡ written p (ended_at (plan_of w.schedule rank) (needed (domain_of w.schedule) (grown b.bx r.width)) 0 r p)
        → q ≡ grid_of b.bx r.width (linear_value w r s below)
    patch_ends q bx width made =
        let f = ended_at (plan_of w.schedule rank) (needed (domain_of w.schedule) (grown b.bx r.width)) 0 r p in
        made
        ∙ ap (λ (c : Corners). grid_of c p.width f) bx
        ∙ ap (λ (g : IVec). grid_of b.bx g f) width
        ∙ ap (λ (l : List ℕ). let g : Grid = record { bx = b.bx; width = r.width; values = l } in g)
        (listed_same (grown b.bx r.width) f (linear_value w r s below) (grown_order b.bx r.width order ghost.low) ended_right)
      where
        grown_order : (c : Corners) (g : IVec) → AtMost c.lo c.hi → AtMost (alike (pos 0)) g → AtMost (grown c g).lo (grown c g).hi
        grown_order c g o l = record { k = omega (arith, ints, o.k, l.k); j = omega (arith, ints, o.j, l.j); i = omega (arith, ints, o.i, l.i) }
