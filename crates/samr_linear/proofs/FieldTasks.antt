-- What is known of the boxes of a rank while they are filled.
use Rattle.std.proofs.Common.{◌≡◌, ℕ, ◌<◌, sym, ap, ◌∙◌, arith, length, get_or}
use Rattle.std.proofs.lemmas.Option.{slice_get-get_or, get_or_from_slice_get}
use Rattle.std.specs.Prelude.{List, map, Some, slice_get}
use Rattle.std.specs.List.{enumerate_from}
use Rattle.std.specs.Option.{option_map}
use Rattle.samr_box.specs.declared.vector.IVec.{IVec}
use Rattle.samr_level.specs.Refs.{Owned}
use Rattle.samr_level.specs.Levels.{own}
use Rattle.samr_data.specs.Grids.{Grid}
use Rattle.samr_data.specs.declared.parcel.Parcel.{Parcel}
use Rattle.samr_ops.specs.declared.rules.Rules.{Rules}
use Rattle.samr_sched.specs.declared.plan.Plan.{Plan}
use Rattle.samr_sched.specs.declared.plan.FieldPlan.{FieldPlan}
use Rattle.samr_sched.specs.declared.plan.BoxPlan.{BoxPlan}
use Rattle.samr_sched.specs.Plans.{field_plan, box_plan, box_plans}
use Rattle.samr_fill.proofs.FieldTasks.{length_map, there_below, there_at, slice_get_numbered}
use Rattle.samr_fill.proofs.Numbered.{slice_get_map, get_member, some_same}
use Rattle.samr_fill.proofs.Truths.{width_at}
use Rattle.samr_linear.specs.declared.linear.Linear.{Linear}
use Rattle.samr_linear.specs.LinearFill.{LinearFilling}
use Rattle.samr_linear.specs.FilledSoFar.{IsPatchOf, IsBoxOf, IsField}

module _ (plan : Plan) (all : List Parcel) (r : Rules) (t : Linear) (bp : BoxPlan) (patch : Grid) (w : LinearFilling) (rank : ℕ)
    (h : IsBoxOf plan all r t bp patch w rank) where
  here : slice_get w.filling.rules 0 ≡ Some r
  here = ap (λ (l : List Rules). slice_get l 0) h.has.is.one ∙ ap (λ (v : Rules). Some v) (sym h.has.same_rules)

  fields_are : (l : List FieldPlan) → l ≡ bp.fields → l ≡ map (λ f. field_plan w.filling.schedule bp.base f) (enumerate_from 0 w.filling.schedule.ghosts)
  fields_are l e = e ∙ ap (λ (p : BoxPlan). p.fields) h.same_plan

  field_there : (l : List FieldPlan) → l ≡ bp.fields → slice_get l 0 ≡ Some (field_plan w.filling.schedule bp.base (0, r.width))
  field_there l e =
      let make : ℕ × IVec → FieldPlan = λ f. field_plan w.filling.schedule bp.base f in
      ap (λ (xs : List FieldPlan). slice_get xs 0) (fields_are l e)
      ∙ slice_get_map make (enumerate_from 0 w.filling.schedule.ghosts) 0
      ∙ ap (option_map make) (slice_get_numbered w.filling.schedule.ghosts 0 r.width (width_at w.filling h.has.is.is 0 r here))

  pub field_below : (l : List FieldPlan) → l ≡ bp.fields → 0 < length l
  field_below l e = there_below l 0 (field_plan w.filling.schedule bp.base (0, r.width)) (field_there l e)

  pub patch_task : (l : List FieldPlan) → l ≡ bp.fields → (fp : FieldPlan) → fp ≡ get_or l 0 fp → IsPatchOf plan all r t bp.base fp patch w rank
  patch_task l e fp is = record {
    has = h.has;
    own_box = h.own_box;
    same_plan = is ∙ get_or_from_slice_get l 0 (field_plan w.filling.schedule bp.base (0, r.width)) fp (field_there l e);
    patch = h.patch;
  }

module _ (plan : Plan) (all : List Parcel) (r : Rules) (t : Linear) (patches : List Grid) (w : LinearFilling) (rank : ℕ) (h : IsField plan all r t patches w rank) where
  boxes_are : (l : List BoxPlan) → l ≡ plan.boxes → l ≡ map (λ b. box_plan w.filling.schedule b) (own rank w.filling.schedule.level)
  unfolding box_plans
  boxes_are l e = e ∙ ap (λ (p : Plan). p.boxes) h.has.same_plan

  pub as_many : (l : List BoxPlan) → l ≡ plan.boxes → length l ≡ length (own rank w.filling.schedule.level)
  as_many l e = ap (λ (xs : List BoxPlan). length xs) (boxes_are l e) ∙ length_map (λ b. box_plan w.filling.schedule b) (own rank w.filling.schedule.level)

  pub patch_below : (l : List BoxPlan) → l ≡ plan.boxes → (place : ℕ) → place < length l → place < length patches
  patch_below l e place below = let a = as_many l e in let b = h.full in omega (arith, a, b, below)

  -- the box at a place
  pub box_at : (l : List BoxPlan) → l ≡ plan.boxes → (place : ℕ) (bp : BoxPlan) → place < length l → bp ≡ get_or l place bp
      → (bp ≡ box_plan w.filling.schedule bp.base) × (slice_get (own rank w.filling.schedule.level) place ≡ Some bp.base)
  box_at l e place bp below is =
      let boxes = own rank w.filling.schedule.level in
      let make : Owned → BoxPlan = λ b. box_plan w.filling.schedule b in
      let there = slice_get-get_or boxes place bp.base (let a = as_many l e in omega (arith, a, below)) in
      let b = get_or boxes place bp.base in
      let same : bp ≡ make b =
      some_same (sym (there_at l place bp below is) ∙ ap (λ (xs : List BoxPlan). slice_get xs place) (boxes_are l e) ∙ slice_get_map make boxes place ∙ ap (option_map make) there) in
      let base : bp.base ≡ b = ap (λ (p : BoxPlan). p.base) same in
      (same ∙ ap make (sym base), there ∙ ap (λ (o : Owned). Some o) (sym base))

  pub box_task : (l : List BoxPlan) → l ≡ plan.boxes → (place : ℕ) (bp : BoxPlan) (p : Grid) → place < length l → bp ≡ get_or l place bp → p ≡ get_or patches place p
      → IsBoxOf plan all r t bp p w rank
  box_task l e place bp p below is at =
      let b = box_at l e place bp below is in
      record {
        has = h.has;
        own_box = get_member (own rank w.filling.schedule.level) place bp.base b.1;
        same_plan = b.0;
        patch = h.patch place p bp.base (there_at patches place p (patch_below l e place below) at) b.1;
      }
