-- What is known of the patch of a box while it is filled.
use Rattle.std.proofs.Common.{◌≡◌, ℕ, ◌<◌, refl, sym, ap, ◌∙◌, subst, length, get_or}
use Rattle.std.proofs.lemmas.Bool.{and_from, eqb-true}
use Rattle.std.specs.Prelude.{pos, Bool, false, IsTrue, List, Some, slice_get, filter, nat_eq}
use Rattle.std.specs.List.{All}
use Rattle.samr_box.specs.declared.vector.IVec.{IVec}
use Rattle.samr_box.specs.Vector.{alike, AtMost, at_most}
use Rattle.samr_box.specs.Corners.{Corners, Holds, holds, holds_box, grown}
use Rattle.samr_box.specs.Lists.{Member}
use Rattle.samr_box.proofs.CellSets.{at_most-from, Holds-test}
use Rattle.samr_box.proofs.Members.{Member-from_filter, All-from_members}
use Rattle.samr_level.specs.Refs.{Owned}
use Rattle.samr_level.specs.Regions.{IsInside}
use Rattle.samr_level.specs.Levels.{own}
use Rattle.samr_nest.specs.Starts.{needed}
use Rattle.samr_nest.proofs.NestedBy.{holes_within}
use Rattle.samr_data.specs.Grids.{Grid, over, value_at, grid_of, written}
use Rattle.samr_ops.specs.declared.rules.Rules.{Rules}
use Rattle.samr_sched.specs.declared.plan.Plan.{Plan}
use Rattle.samr_sched.specs.declared.plan.FieldPlan.{FieldPlan}
use Rattle.samr_sched.specs.Ask.{domain_of}
use Rattle.samr_sched.specs.Plans.{rest, plan_of}
use Rattle.samr_data.specs.declared.parcel.Parcel.{Parcel}
use Rattle.samr_fill.specs.Fill.{Filling, value_of}
use Rattle.samr_fill.specs.FillRow.{parcels}
use Rattle.samr_fill.specs.Writing.{is_for, any_takes, IsFit, AreOf, Fixes}
use Rattle.samr_fill.specs.Ending.{ended_at, CanEnd}
use Rattle.samr_fill.specs.FilledSoFar.{HasParcels, IsPatch, IsPatchOf, IsCopyOf}
use Rattle.samr_fill.proofs.Fixing.{by_test, fixes_over}
use Rattle.samr_fill.proofs.Truths.{own_box, ghost_at, parcel_fit, parcel_true}
use Rattle.samr_fill.proofs.Coverage.{covered}
use Rattle.samr_fill.proofs.Ends.{can_end, own_value, patch_ends}

module _ (plan : Plan) (all : List Parcel) (n : ℕ) (r : Rules) (b : Owned) (fp : FieldPlan) (patch : Grid) (w : Filling) (rank : ℕ)
    (h : IsPatchOf plan all n r b fp patch w rank) where
  member : Member b w.schedule.level
  member = (own_box rank w.schedule.level b h.own_box).0

  abbrev v : IVec → ℕ
  v = value_of w (n, r)

  whole_of : (copy : Grid) → IsCopyOf patch copy → over copy ≡ grown b.bx r.width
  whole_of copy k =
      ap (λ (c : Corners). grown c copy.width) (k.same_box ∙ h.patch.same_box)
      ∙ ap (grown b.bx) (k.same_width ∙ h.patch.same_width)

  pub rest_fits : (copy : Grid) → IsCopyOf patch copy → (l : List Corners) → l ≡ fp.rest → All (λ c. IsTrue (holds_box (over copy) c)) l
  rest_fits copy k l e =
      let s = w.schedule in
      let is = h.has.is.schedule in
      let G = grown b.bx r.width in
      let ghost = ghost_at w h.has.is n r h.same_rules in
      let all_within = holes_within (domain_of s) s.level G is.area (ghost.room b member).0 is.level.not_empty in
      subst (λ (c : Corners). All (λ p. IsTrue (holds_box c p)) l) (sym (whole_of copy k))
      (All-from_members (λ p. IsTrue (holds_box G p)) l
      (λ p m.
      let q = all_within p (subst (λ (xs : List Corners). Member p xs) (e ∙ ap (λ (f : FieldPlan). f.rest) h.same_plan) m) in
      and_from (at_most G.lo p.lo) (at_most p.hi G.hi) (at_most-from {a = G.lo} {b = p.lo} q.low) (at_most-from {a = p.hi} {b = G.hi} q.high)))

  pub small_step : AtMost plan.step (alike (pos 4))
  small_step = subst (λ (p : Plan). AtMost p.step (alike (pos 4))) (sym h.has.same_plan) h.has.is.step

  pub all_fit : (copy : Grid) → IsCopyOf patch copy → (mine : List Parcel) → mine ≡ filter (λ q. is_for b n q) all → (p : Parcel) → Member p mine → IsFit plan.frame r (over copy) p
  all_fit copy k mine are p m =
      let found = Member-from_filter (λ q. is_for b n q) p all (subst (λ (ps : List Parcel). Member p ps) are m) in
      let from = h.has.known p found.0 in
      subst (λ (q : Plan). IsFit q.frame r (over copy) p) (sym h.has.same_plan)
      (subst (λ (c : Corners). IsFit (plan_of w.schedule rank).frame r c p) (sym (whole_of copy k))
      (parcel_fit w h.has.is rank from.0 b n r h.same_rules member p from.1 found.1))

  pub all_true : (l : List Corners) → l ≡ fp.rest → (mine : List Parcel) → mine ≡ filter (λ q. is_for b n q) all → (p : Parcel) → Member p mine → AreOf (value_of w (n, r)) plan r l p
  all_true l e mine are p m =
      let found = Member-from_filter (λ q. is_for b n q) p all (subst (λ (ps : List Parcel). Member p ps) are m) in
      let from = h.has.known p found.0 in
      subst (λ (q : Plan). AreOf v q r l p) (sym h.has.same_plan)
      (subst (λ (xs : List Corners). AreOf v (plan_of w.schedule rank) r xs p) (sym (e ∙ ap (λ (f : FieldPlan). f.rest) h.same_plan))
      (parcel_true w h.has.is rank from.0 b n r h.same_rules member p from.1 found.1))

  pub can : (copy new : Grid) (wrote : IVec → Bool) → IsCopyOf patch copy → Fixes (value_of w (n, r)) wrote copy new → (x : IVec) → Holds (over new) x → CanEnd plan r new x
  can copy new wrote k f x q =
      subst (λ (p : Plan). CanEnd p r new x) (sym h.has.same_plan)
      (can_end w h.has.is rank b n r h.same_rules member new (fixes_over v wrote copy new f ∙ whole_of copy k) x q)

  pub done : (copy new q : Grid) (l inside : List Corners) → l ≡ fp.rest → inside ≡ fp.inside → IsCopyOf patch copy
      → (mine : List Parcel) → mine ≡ filter (λ q. is_for b n q) all → Fixes (value_of w (n, r)) (any_takes plan l mine) copy new → q ≡ written new (ended_at plan inside n r new)
      → q ≡ grid_of b.bx r.width (value_of w (n, r))
  done copy new q l inside e i k mine are f made =
      let s = w.schedule in
      let p = plan_of s rank in
      let takes : IVec → Bool = any_takes plan l mine in
      let takes_is : (x : IVec) → takes x ≡ any_takes p (rest s r.width b) (filter (λ q. is_for b n q) all) x =
      λ x.
      ap (λ (q : Plan). any_takes q l mine x) h.has.same_plan
      ∙ ap (λ (xs : List Corners). any_takes p xs mine x) (e ∙ ap (λ (f : FieldPlan). f.rest) h.same_plan)
      ∙ ap (λ (ps : List Parcel). any_takes p (rest s r.width b) ps x) are in
      let right : (x : IVec) → Holds (grown b.bx r.width) x → IsInside (domain_of s) x → value_at new x ≡ v x =
      λ x about there.
      let here = subst (λ (c : Corners). Holds c x) (sym (whole_of copy k)) about in
      by_test (holds b.bx x)
      (λ t.
      let own = Holds-test {b = b.bx} {x = x} t in
      f.kept x here
      (k.values x (subst (λ (c : Corners). Holds c x) (sym h.patch.same_box) own) ∙ h.patch.values x own
      ∙ sym (own_value w h.has.is rank b n r h.same_rules member x own)))
      (λ t.
      f.right x here
      (takes_is x
      ∙ covered w h.has.is rank b n r h.same_rules member (own_box rank s.level b h.own_box).1 all h.has.come x about there t)) in
      patch_ends w h.has.is rank b n r h.same_rules member new right q
      (f.same_box ∙ k.same_box ∙ h.patch.same_box) (f.same_width ∙ k.same_width ∙ h.patch.same_width)
      (made
      ∙ ap (λ (q : Plan). written new (ended_at q inside n r new)) h.has.same_plan
      ∙ ap (λ (xs : List Corners). written new (ended_at p xs n r new)) (i ∙ ap (λ (f : FieldPlan). f.inside) h.same_plan))
