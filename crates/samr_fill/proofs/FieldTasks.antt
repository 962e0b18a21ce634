-- What is known of the boxes of a field, and of all fields, while they are filled.
use Rattle.std.proofs.Common.{◌≡◌, ℕ, suc, ◌<◌, ◌+◌, refl, sym, ap, ◌∙◌, subst, inl, inr, arith, length, get_or, take}
use Rattle.std.proofs.lemmas.Option.{slice_get_cases, slice_get-get_or, get_or_from_slice_get}
use Rattle.std.proofs.lemmas.List.FromFn.{length-enumerate_from, get_or-enumerate_from}
use Rattle.std.specs.Prelude.{List, [], ◌∷◌, map, Some, None, slice_get, Option}
use Rattle.std.specs.List.{enumerate_from}
use Rattle.std.specs.Option.{option_map}
use Rattle.samr_box.specs.declared.vector.IVec.{IVec}
use Rattle.samr_box.specs.Lists.{Member}
use Rattle.samr_level.specs.Refs.{Owned}
use Rattle.samr_level.specs.Levels.{own}
use Rattle.samr_data.specs.Grids.{Grid}
use Rattle.samr_ops.specs.declared.rules.Rules.{Rules}
use Rattle.samr_sched.specs.declared.plan.Plan.{Plan}
use Rattle.samr_sched.specs.declared.plan.BoxPlan.{BoxPlan}
use Rattle.samr_sched.specs.declared.plan.FieldPlan.{FieldPlan}
use Rattle.samr_sched.specs.Plans.{field_plan, box_plan, box_plans}
use Rattle.samr_data.specs.declared.parcel.Parcel.{Parcel}
use Rattle.samr_fill.specs.Fill.{Filling}
use Rattle.samr_fill.specs.FilledSoFar.{HasParcels, IsPatchOf, IsBoxOf, IsField, AreFields}
use Rattle.samr_fill.proofs.Numbered.{slice_get_map, get_member, some_same}
use Rattle.samr_fill.proofs.Truths.{width_at}

pub length_map : {X Y : Type 0} (f : X → Y) (xs : List X) → length (map f xs) ≡ length xs
length_map f [] = refl
length_map f (x ∷ xs) = ap suc (length_map f xs)

pub there_below : {X : Type 0} (xs : List X) (i : ℕ) (x : X) → slice_get xs i ≡ Some x → i < length xs
there_below {X} xs i x e =
    elim (slice_get_cases xs i).1 [
      | inl f ↦ f.1
      | inr g ↦ absurd (differ (sym g.1 ∙ e))
    ]
  where
    differ : {y : X} → None ≡ Some y → ⊥
    differ q = cc

pub there_at : {X : Type 0} (xs : List X) (i : ℕ) (x : X) → i < length xs → x ≡ get_or xs i x → slice_get xs i ≡ Some x
there_at {X} xs i x more is = slice_get-get_or xs i x more ∙ ap (λ (v : X). Some v) (sym is)

-- the item with a number
pub slice_get_numbered : {X : Type 0} (xs : List X) (i : ℕ) (x : X) → slice_get xs i ≡ Some x → slice_get (enumerate_from 0 xs) i ≡ Some (i, x)
slice_get_numbered {X} xs i x e =
    let below = there_below xs i x e in
    let more : i < length (enumerate_from 0 xs) = let n = length-enumerate_from 0 xs in omega (arith, n, below) in
    slice_get-get_or (enumerate_from 0 xs) i (i, x) more
    ∙ ap (λ (p : ℕ × X). Some p) (get_or-enumerate_from 0 xs i (i, x) below ∙ ap (λ (k : ℕ). (k, get_or xs i x)) (zero_plus i) ∙ ap (λ (v : X). (i, v)) (get_or_from_slice_get xs i x x e))
  where
    zero_plus : (k : ℕ) → 0 + k ≡ k
    zero_plus k = omega arith

module _ (plan : Plan) (all : List Parcel) (n : ℕ) (r : Rules) (bp : BoxPlan) (patch : Grid) (w : Filling) (rank : ℕ)
    (h : IsBoxOf plan all n r bp patch w rank) where
  fields_are : (l : List FieldPlan) → l ≡ bp.fields → l ≡ map (λ f. field_plan w.schedule bp.base f) (enumerate_from 0 w.schedule.ghosts)
  fields_are l e = e ∙ ap (λ (p : BoxPlan). p.fields) h.same_plan

  field_there : (l : List FieldPlan) → l ≡ bp.fields → slice_get l n ≡ Some (field_plan w.schedule bp.base (n, r.width))
  field_there l e =
      let make : ℕ × IVec → FieldPlan = λ f. field_plan w.schedule bp.base f in
      ap (λ (xs : List FieldPlan). slice_get xs n) (fields_are l e)
      ∙ slice_get_map make (enumerate_from 0 w.schedule.ghosts) n
      ∙ ap (option_map make) (slice_get_numbered w.schedule.ghosts n r.width (width_at w h.has.is n r h.same_rules))

  pub field_below : (l : List FieldPlan) → l ≡ bp.fields → n < length l
  field_below l e = there_below l n (field_plan w.schedule bp.base (n, r.width)) (field_there l e)

  pub patch_task : (l : List FieldPlan) → l ≡ bp.fields → (fp : FieldPlan) → fp ≡ get_or l n fp → IsPatchOf plan all n r bp.base fp patch w rank
  patch_task l e fp is = record {
    has = h.has;
    same_rules = h.same_rules;
    own_box = h.own_box;
    same_plan = is ∙ get_or_from_slice_get l n (field_plan w.schedule bp.base (n, r.width)) fp (field_there l e);
    patch = h.patch;
  }

module _ (plan : Plan) (all : List Parcel) (n : ℕ) (r : Rules) (patches : List Grid) (w : Filling) (rank : ℕ) (h : IsField plan all n r patches w rank) where
  boxes_are : (l : List BoxPlan) → l ≡ plan.boxes → l ≡ map (λ b. box_plan w.schedule b) (own rank w.schedule.level)
  unfolding box_plans
  boxes_are l e = e ∙ ap (λ (p : Plan). p.boxes) h.has.same_plan

  pub as_many : (l : List BoxPlan) → l ≡ plan.boxes → length l ≡ length (own rank w.schedule.level)
  as_many l e = ap (λ (xs : List BoxPlan). length xs) (boxes_are l e) ∙ length_map (λ b. box_plan w.schedule b) (own rank w.schedule.level)

  pub patch_below : (l : List BoxPlan) → l ≡ plan.boxes → (place : ℕ) → place < length l → place < length patches
  patch_below l e place below = let a = as_many l e in let b = h.full in omega (arith, a, b, below)

  -- the box at a place
  pub box_at : (l : List BoxPlan) → l ≡ plan.boxes → (place : ℕ) (bp : BoxPlan) → place < length l → bp ≡ get_or l place bp
      → (bp ≡ box_plan w.schedule bp.base) × (slice_get (own rank w.schedule.level) place ≡ Some bp.base)
  box_at l e place bp below is =
      let boxes = own rank w.schedule.level in
      let make : Owned → BoxPlan = λ b. box_plan w.schedule b in
      let there = slice_get-get_or boxes place bp.base (let a = as_many l e in omega (arith, a, below)) in
      let b = get_or boxes place bp.base in
      let same : bp ≡ make b =
      some_same (sym (there_at l place bp below is) ∙ ap (λ (xs : List BoxPlan). slice_get xs place) (boxes_are l e) ∙ slice_get_map make boxes place ∙ ap (option_map make) there) in
      let base : bp.base ≡ b = ap (λ (p : BoxPlan). p.base) same in
      (same ∙ ap make (sym base), there ∙ ap (λ (o : Owned). Some o) (sym base))

  pub box_task : (l : List BoxPlan) → l ≡ plan.boxes → (place : ℕ) (bp : BoxPlan) (p : Grid) → place < length l → bp ≡ get_or l place bp → p ≡ get_or patches place p
      → IsBoxOf plan all n r bp p w rank
  box_task l e place bp p below is at =
      let b = box_at l e place bp below is in
      record {
        has = h.has;
        same_rules = h.same_rules;
        own_box = get_member (own rank w.schedule.level) place bp.base b.1;
        same_plan = b.0;
        patch = h.patch place p bp.base (there_at patches place p (patch_below l e place below) at) b.1;
      }

pub patches_below : (plan : Plan) (all : List Parcel) (rules : List Rules) (patches : List (List Grid)) (w : Filling) (rank : ℕ) → AreFields plan all rules patches w rank
    → (f : ℕ) → f < length rules → f < length patches
patches_below plan all rules patches w rank h f below = let full = h.full in omega (arith, full, below)
