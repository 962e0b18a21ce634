-- What is known of the patch of a box while it is filled.
use Rattle.std.proofs.Common.{◌≡◌, ℕ, sym, ap, ◌∙◌, subst}
use Rattle.std.proofs.lemmas.Bool.{and_from}
use Rattle.std.specs.Prelude.{pos, Bool, IsTrue, List, Some, slice_get, filter}
use Rattle.std.specs.List.{All}
use Rattle.samr_box.specs.declared.vector.IVec.{IVec}
use Rattle.samr_box.specs.Vector.{alike, AtMost, at_most}
use Rattle.samr_box.specs.Corners.{Corners, Holds, holds, holds_box, grown}
use Rattle.samr_box.specs.Lists.{Member}
use Rattle.samr_box.proofs.CellSets.{at_most-from, Holds-test}
use Rattle.samr_box.proofs.Members.{Member-from_filter, All-from_members}
use Rattle.samr_level.specs.Refs.{Owned}
use Rattle.samr_level.specs.Regions.{IsInside}
use Rattle.samr_nest.proofs.NestedBy.{holes_within}
use Rattle.samr_data.specs.Grids.{Grid, over, value_at, grid_of, written}
use Rattle.samr_ops.specs.declared.rules.Rules.{Rules}
use Rattle.samr_sched.specs.declared.plan.Plan.{Plan}
use Rattle.samr_sched.specs.declared.plan.FieldPlan.{FieldPlan}
use Rattle.samr_sched.specs.Ask.{domain_of}
use Rattle.samr_sched.specs.Plans.{rest, plan_of}
use Rattle.samr_data.specs.declared.parcel.Parcel.{Parcel}
use Rattle.samr_fill.specs.Writing.{is_for, Fixes}
use Rattle.samr_fill.specs.Ending.{ended_at, CanEnd}
use Rattle.samr_fill.specs.FilledSoFar.{IsCopyOf}
use Rattle.samr_fill.proofs.Fixing.{by_test, fixes_over}
use Rattle.samr_fill.proofs.Truths.{own_box, ghost_at}
use Rattle.samr_fill.proofs.Ends.{can_end}
use Rattle.samr_linear.specs.declared.linear.Linear.{Linear}
use Rattle.samr_linear.specs.LinVal.{linear_value}
use Rattle.samr_linear.specs.LinearFill.{LinearFilling, value_of}
use Rattle.samr_linear.specs.LinearWriting.{any_takes, IsFit, AreOf}
use Rattle.samr_linear.specs.FilledSoFar.{IsPatchOf}
use Rattle.samr_linear.proofs.Truths.{parcel_fit, parcel_true}
use Rattle.samr_linear.proofs.Coverage.{covered}
use Rattle.samr_linear.proofs.Ends.{own_value, patch_ends}

module _ (plan : Plan) (all : List Parcel) (r : Rules) (t : Linear) (b : Owned) (fp : FieldPlan) (patch : Grid) (w : LinearFilling) (rank : ℕ)
    (h : IsPatchOf plan all r t b fp patch w rank) where
  member : Member b w.filling.schedule.level
  member = (own_box rank w.filling.schedule.level b h.own_box).0

  here : slice_get w.filling.rules 0 ≡ Some r
  here = ap (λ (l : List Rules). slice_get l 0) h.has.is.one ∙ ap (λ (v : Rules). Some v) (sym h.has.same_rules)

  modulus : w.stencil.modulus ≡ r.modulus
  modulus = h.has.is.modulus ∙ ap (λ (v : Rules). v.modulus) (sym h.has.same_rules)

  abbrev v : IVec → ℕ
  v = linear_value w.filling r w.stencil w.below

  whole_of : (copy : Grid) → IsCopyOf patch copy → over copy ≡ grown b.bx r.width
  whole_of copy k =
      ap (λ (c : Corners). grown c copy.width) (k.same_box ∙ h.patch.same_box)
      ∙ ap (grown b.bx) (k.same_width ∙ h.patch.same_width)

  pub rest_fits : (copy : Grid) → IsCopyOf patch copy → (l : List Corners) → l ≡ fp.rest → All (λ c. IsTrue (holds_box (over copy) c)) l
  rest_fits copy k l e =
      let s = w.filling.schedule in
      let is = h.has.is.is.schedule in
      let G = grown b.bx r.width in
      let ghost = ghost_at w.filling h.has.is.is 0 r here in
      let all_within = holes_within (domain_of s) s.level G is.area (ghost.room b member).0 is.level.not_empty in
      subst (λ (c : Corners). All (λ p. IsTrue (holds_box c p)) l) (sym (whole_of copy k))
      (All-from_members (λ p. IsTrue (holds_box G p)) l
      (λ p m.
      let q = all_within p (subst (λ (xs : List Corners). Member p xs) (e ∙ ap (λ (f : FieldPlan). f.rest) h.same_plan) m) in
      and_from (at_most G.lo p.lo) (at_most p.hi G.hi) (at_most-from {a = G.lo} {b = p.lo} q.low) (at_most-from {a = p.hi} {b = G.hi} q.high)))

  pub small_step : AtMost plan.step (alike (pos 4))
  small_step = subst (λ (p : Plan). AtMost p.step (alike (pos 4))) (sym h.has.same_plan) h.has.is.is.step

  pub same_step : plan.step ≡ t.ratio
  same_step = ap (λ (p : Plan). p.step) h.has.same_plan ∙ h.has.is.ratio ∙ ap (λ (s : Linear). s.ratio) (sym h.has.same_stencil)

  pub whole_value : (q : Grid) → q ≡ grid_of b.bx r.width (linear_value w.filling r w.stencil w.below) → q ≡ grid_of b.bx w.rules.width (value_of w)
  whole_value q e = e ∙ ap (λ (v : Rules). grid_of b.bx v.width (linear_value w.filling v w.stencil w.below)) h.has.same_rules

  pub all_fit : (copy : Grid) → IsCopyOf patch copy → (mine : List Parcel) → mine ≡ filter (λ q. is_for b 0 q) all → (p : Parcel) → Member p mine → IsFit plan.frame t (over copy) p
  all_fit copy k mine are p m =
      let found = Member-from_filter (λ q. is_for b 0 q) p all (subst (λ (ps : List Parcel). Member p ps) are m) in
      let from = h.has.known p found.0 in
      subst (λ (s : Linear). IsFit plan.frame s (over copy) p) (sym h.has.same_stencil)
      (subst (λ (q : Plan). IsFit q.frame w.stencil (over copy) p) (sym h.has.same_plan)
      (subst (λ (c : Corners). IsFit (plan_of w.filling.schedule rank).frame w.stencil c p) (sym (whole_of copy k))
      (parcel_fit w h.has.is rank from.0 b r here modulus member p from.1 found.1)))

  pub all_true : (l : List Corners) → l ≡ fp.rest → (mine : List Parcel) → mine ≡ filter (λ q. is_for b 0 q) all → (p : Parcel) → Member p mine → AreOf (linear_value w.filling r w.stencil w.below) plan t l p
  all_true l e mine are p m =
      let found = Member-from_filter (λ q. is_for b 0 q) p all (subst (λ (ps : List Parcel). Member p ps) are m) in
      let from = h.has.known p found.0 in
      subst (λ (s : Linear). AreOf v plan s l p) (sym h.has.same_stencil)
      (subst (λ (q : Plan). AreOf v q w.stencil l p) (sym h.has.same_plan)
      (subst (λ (xs : List Corners). AreOf v (plan_of w.filling.schedule rank) w.stencil xs p) (sym (e ∙ ap (λ (f : FieldPlan). f.rest) h.same_plan))
      (parcel_true w h.has.is rank from.0 b r here modulus member p from.1 found.1)))

  pub can : (copy new : Grid) (wrote : IVec → Bool) → IsCopyOf patch copy → Fixes (linear_value w.filling r w.stencil w.below) wrote copy new → (x : IVec) → Holds (over new) x → CanEnd plan r new x
  can copy new wrote k f x q =
      subst (λ (p : Plan). CanEnd p r new x) (sym h.has.same_plan)
      (can_end w.filling h.has.is.is rank b 0 r here member new (fixes_over v wrote copy new f ∙ whole_of copy k) x q)

  pub done : (copy new q : Grid) (l inside : List Corners) → l ≡ fp.rest → inside ≡ fp.inside → IsCopyOf patch copy
      → (mine : List Parcel) → mine ≡ filter (λ q. is_for b 0 q) all → Fixes (linear_value w.filling r w.stencil w.below) (any_takes plan t.real l mine) copy new → q ≡ written new (ended_at plan inside 0 r new)
      → q ≡ grid_of b.bx r.width (linear_value w.filling r w.stencil w.below)
  done copy new q l inside e i k mine are f made =
      let s = w.filling.schedule in
      let p = plan_of s rank in
      let takes : IVec → Bool = any_takes plan t.real l mine in
      let takes_is : (x : IVec) → takes x ≡ any_takes p w.stencil.real (rest s r.width b) (filter (λ q. is_for b 0 q) all) x =
      λ x.
      ap (λ (q : Plan). any_takes q t.real l mine x) h.has.same_plan
      ∙ ap (λ (y : Linear). any_takes p y.real l mine x) h.has.same_stencil
      ∙ ap (λ (xs : List Corners). any_takes p w.stencil.real xs mine x) (e ∙ ap (λ (f : FieldPlan). f.rest) h.same_plan)
      ∙ ap (λ (ps : List Parcel). any_takes p w.stencil.real (rest s r.width b) ps x) are in
      let right : (x : IVec) → Holds (grown b.bx r.width) x → IsInside (domain_of s) x → value_at new x ≡ v x =
      λ x about there.
      let spot = subst (λ (c : Corners). Holds c x) (sym (whole_of copy k)) about in
      by_test (holds b.bx x)
      (λ u.
      let own = Holds-test {b = b.bx} {x = x} u in
      f.kept x spot
      (k.values x (subst (λ (c : Corners). Holds c x) (sym h.patch.same_box) own) ∙ h.patch.values x own
      ∙ sym (own_value w.filling h.has.is.is rank b r w.stencil w.below here member x own)))
      (λ u.
      f.right x spot
      (takes_is x
      ∙ covered w h.has.is rank b r here member (own_box rank s.level b h.own_box).1 all h.has.come x about there u)) in
      patch_ends w.filling h.has.is.is rank b r w.stencil w.below here member new right q
      (f.same_box ∙ k.same_box ∙ h.patch.same_box) (f.same_width ∙ k.same_width ∙ h.patch.same_width)
      (made
      ∙ ap (λ (q : Plan). written new (ended_at q inside 0 r new)) h.has.same_plan
      ∙ ap (λ (xs : List Corners). written new (ended_at p xs 0 r new)) (i ∙ ap (λ (f : FieldPlan). f.inside) h.same_plan))
