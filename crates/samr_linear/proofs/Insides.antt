-- What linear refinement gives in cells of the domain.
use Rattle.std.proofs.Common.{◌≡◌, ℕ, sym, ap, ◌∙◌, subst, length}
use Rattle.std.proofs.lemmas.Bool.{false_from_ne_true}
use Rattle.std.specs.Prelude.{Bool, ◌&&◌, not, nat_lt, map, slice_index, if◌then◌else◌}
use Rattle.samr_box.specs.declared.vector.IVec.{IVec}
use Rattle.samr_box.specs.Corners.{Holds, holds}
use Rattle.samr_box.specs.Space.{wrapped}
use Rattle.samr_box.proofs.CellSets.{holds-from, Holds-test}
use Rattle.samr_boxlist.proofs.Covering.{and_false}
use Rattle.samr_border.proofs.TurnLaws.{wrapped_stays}
use Rattle.samr_level.specs.Refs.{Owned}
use Rattle.samr_level.specs.Regions.{IsInside}
use Rattle.samr_level.specs.Levels.{IsCellIn}
use Rattle.samr_level.proofs.Domains.{is_inside-means}
use Rattle.samr_nest.proofs.StayLaws.{cell_of_frame}
use Rattle.samr_ops.specs.declared.rules.Rules.{Rules}
use Rattle.samr_ops.specs.Walks.{walked}
use Rattle.samr_ops.proofs.WalkLaws.{walks_stay_inside}
use Rattle.samr_data.specs.Grids.{Grid, grid_of, value_at}
use Rattle.samr_sched.specs.Ask.{domain_of, frame_of}
use Rattle.samr_fill.specs.Fill.{Filling, IsFilling, has, child}
use Rattle.samr_fill.proofs.Insides.{any_member, member_any, not_outside}
use Rattle.samr_linear.specs.declared.linear.Linear.{Linear}
use Rattle.samr_linear.specs.Lin.{lin}
use Rattle.samr_linear.specs.LinVal.{before, behind, under, refined_between, linear_inner, linear_walked, linear_value}
use Rattle.samr_linear.specs.Scratches.{lows, highs}
use Rattle.samr_linear.specs.Laws.{TheLevelKeepsItsValues, ScratchGivesTheValue}
use Rattle.samr_linear.proofs.ScratchLaws.{scratch_is_enough}

module _ (w : Filling) (is : IsFilling w) (r : Rules) (s : Linear) (below : IVec → ℕ) where
  pub value_inside : (x : IVec) → IsInside (domain_of w.schedule) x → linear_value w r s below x ≡ linear_inner w s below x
  unfolding linear_value
  value_inside x i =
      let a = domain_of w.schedule in
      let parts = nat_lt 0 (length w.schedule.region.parts) in
      let fixed = slice_index w.schedule.fixed 0 in
      let rest = linear_walked w s below (walked r (frame_of w.schedule) x) in
      ap (λ (t : Bool). if parts && not t then fixed else rest) ((is_inside-means a x).1 i)
      ∙ ap (λ (t : Bool). if t then fixed else rest) (and_false parts)
      ∙ ap (linear_walked w s below) (walks_stay_inside r (frame_of w.schedule) x (not_outside (frame_of w.schedule) x (cell_of_frame a (wrapped a.frame x) is.schedule.area i)))

  level_inside : (x : IVec) → IsCellIn w.schedule.level (wrapped (frame_of w.schedule) x) → IsInside (domain_of w.schedule) x
  level_inside x c = is.schedule.level.inside c.0 (wrapped (frame_of w.schedule) x) c.1 c.2

  pub level_value : (x : IVec) → IsCellIn w.schedule.level (wrapped (frame_of w.schedule) x) → linear_value w r s below x ≡ w.values 0 (wrapped (frame_of w.schedule) x)
  level_value x c =
      let y = wrapped (frame_of w.schedule) x in
      value_inside x (level_inside x c)
      ∙ ap (λ (t : Bool). if t then w.values 0 y else refined_between w s below x) (any_member (λ (b : Owned). holds b.bx y) c.0 w.schedule.level c.1 (holds-from c.2))

  pub coarse_value : (x : IVec) → IsInside (domain_of w.schedule) x → (IsCellIn w.schedule.level (wrapped (frame_of w.schedule) x) → ⊥) → linear_value w r s below x ≡ refined_between w s below x
  coarse_value x i none =
      let y = wrapped (frame_of w.schedule) x in
      value_inside x i
      ∙ ap (λ (t : Bool). if t then w.values 0 y else refined_between w s below x)
      (false_from_ne_true (has w.schedule.level y) (λ t. let q = member_any (λ (b : Owned). holds b.bx y) w.schedule.level t in none (q.0, q.1, Holds-test q.2)))

pub the_level_keeps_its_values : TheLevelKeepsItsValues
the_level_keeps_its_values w r s below h x is mh q =
    let d = frame_of w.schedule in
    let stays = wrapped_stays d x is.schedule.area.frame (cell_of_frame (domain_of w.schedule) x is.schedule.area (is.schedule.level.inside h x mh q)) in
    level_value w is r s below x (h, mh, subst (λ (v : IVec). Holds h.bx v) (sym stays) q) ∙ ap (w.values 0) stays

pub scratch_gives_the_value : ScratchGivesTheValue
scratch_gives_the_value w r s below b width offset x is inside none over sides same =
    let p : Grid = grid_of b width below in
    let o = child x w.schedule.step in
    ap (λ (c : IVec). lin s (value_at p c) (lows p s.real c) (highs p s.real c) o) over
    ∙ scratch_is_enough s b width below (under w x) o sides
    ∙ ap (λ (v : ℕ). lin s v (map below (before (under w x))) (map below (behind (under w x))) o) same
    ∙ sym (coarse_value w is r s below x inside none)
