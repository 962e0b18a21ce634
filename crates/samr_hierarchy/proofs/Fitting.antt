-- Values stay below the moduli, from step to step.
use Rattle.std.proofs.Common.{◌≡◌, ℕ, zero, suc, ◌-◌, ◌<◌, refl, sym, ap, ◌∙◌, subst, inl, inr, arith, length, Some, slice_get}
use Rattle.std.proofs.lemmas.Int.{ints}
use Rattle.std.proofs.lemmas.Nat.{mod_below}
use Rattle.std.specs.Prelude.{Bool, true, false, ◌==◌, if◌then◌else◌, List, [], ◌∷◌, map, Option}
use Rattle.std.specs.List.{range_with_len}
use Rattle.samr_box.specs.declared.vector.IVec.{IVec}
use Rattle.samr_box.specs.Vector.{times, IsRatio}
use Rattle.samr_box.specs.Corners.{Corners, Holds, holds, cells_of}
use Rattle.samr_box.specs.Ratios.{coarse, refined}
use Rattle.samr_box.specs.Lists.{Member}
use Rattle.samr_box.proofs.Floors.{floor-mul}
use Rattle.samr_box.proofs.CellSets.{Holds-test, Holds-refined}
use Rattle.samr_box.proofs.Members.{All-from_members, Member-from_map}
use Rattle.samr_box.proofs.Vectors.{same_cell, AtMost-antisymm}
use Rattle.samr_level.specs.Refs.{Owned}
use Rattle.samr_level.specs.Levels.{IsCellIn}
use Rattle.samr_data.specs.Places.{one_cell, cells_in, cell_at}
use Rattle.samr_data.proofs.PlaceLaws.{cell_at_holds}
use Rattle.samr_ops.specs.declared.rules.Rules.{Rules}
use Rattle.samr_ops.proofs.Fitting.{updated_values_fit, coarsened_values_fit}
use Rattle.samr_fill.proofs.Insides.{member_any}
use Rattle.samr_values.specs.Patches.{has}
use Rattle.samr_values.specs.Values.{Renewing, new_value, IsRenewing}
use Rattle.samr_values.specs.Coarsen.{Coarsening, IsRefinement, is_under, children, merged}
use Rattle.samr_level.proofs.BlockCells.{Member-from_range}
use Rattle.samr_values.proofs.Merges.{one_full}
use Rattle.samr_values.proofs.ValueLaws.{new_values_fit}
use Rattle.samr_problem.specs.declared.field.Field.{Field}
use Rattle.samr_problem.specs.Fields.{Fields}
use Rattle.samr_mesh.specs.Domains.{step_of, area_at}
use Rattle.samr_mesh.specs.Meshes.{level_at, is_due}
use Rattle.samr_mesh.specs.Soundness.{IsMesh, IsRemade}
use Rattle.samr_mesh.proofs.MeshForms.{no_level}
use Rattle.samr_hierarchy.specs.Scales.{rules_of, all_rules}
use Rattle.samr_hierarchy.specs.Grounds.{IsGround}
use Rattle.samr_hierarchy.specs.Hierarchies.{Hierarchy, Values, for_field, filling, renewing, coarsening}
use Rattle.samr_hierarchy.specs.Passes.{first_value, renewed, first_values, renewing_at, renewed_values, begun, value_after, updated_values, updated, merged_values, with_values, coarsened_values, after}
use Rattle.samr_hierarchy.specs.Laws.{Fits, FirstRenewalsHold, FirstValuesFit, StepsFit, EachStepIsSound}
use Rattle.samr_hierarchy.proofs.Schedules.{any_level, has_cells}
use Rattle.samr_hierarchy.proofs.Fills.{at_mapped, renewal_is, over_below, renewals_hold}

-- a field that there is
pub the_field : (fields : List Field) (f : ℕ) (r : Field) (of : Field → ℕ) → slice_get fields f ≡ Some r → for_field (slice_get fields f) of ≡ of r
the_field fields f r of e = ap (λ (o : Option Field). for_field o of) e

below_by : (v w m : ℕ) → v ≡ w → w < m → v < m
below_by v w m e h = omega (arith, e, h)

get_in : (fields : List Field) (f : ℕ) (r : Field) → slice_get fields f ≡ Some r → Member r fields
get_in [] f r e = cc
get_in (x ∷ xs) zero r e = inl cc
get_in (x ∷ xs) (suc f) r e = inr (get_in xs f r e)

-- the values of new levels
pub renewed_fit : (p : Fields) (w : Renewing) (f : ℕ) (r : Field) (x : IVec) → w.rules ≡ all_rules p → IsRenewing w → slice_get p.fields f ≡ Some r → IsCellIn w.news x
    → (IsCellIn w.olds x → w.values f x < r.modulus) → renewed p w f x < r.modulus
renewed_fit p w f r x same is here cell old =
    below_by (renewed p w f x) (new_value w (f, rules_of r) x) r.modulus
    (the_field p.fields f r (λ r. new_value w (f, rules_of r) x) here)
    (new_values_fit w f (rules_of r) x is (ap (λ (l : List Rules). slice_get l f) same ∙ at_mapped rules_of p.fields f r here) cell old)

-- the cells over a coarse cell lie in the fine level, if one of them does
pub child_of : (step x y : IVec) → IsRatio step → Member y (cells_in (refined (one_cell x) step)) → coarse y step ≡ x
unfolding cells_in
child_of step x y q m =
    let b = refined (one_cell x) step in
    let k = Member-from_map (cell_at b) y (range_with_len 0 (cells_of b)) m in
    let below = (Member-from_range k.0 0 (cells_of b) k.1).1 in
    let there = cell_at_holds b k.0 (one_full x step q) (omega (arith, below)) in
    let here = (Holds-refined (one_cell x) step y q).0 (subst (λ (v : IVec). Holds b v) (sym k.2) there) in
    AtMost-antisymm here.high here.low

pub over_all : (fine : List Owned) (step x y : IVec) → IsRatio step → ((b : Owned) → Member b fine → IsRefinement step b.bx) → has fine (times x step) ≡ true
    → coarse y step ≡ x → IsCellIn fine y
over_all fine step x y q refinements under e =
    let b = member_any (λ (o : Owned). holds o.bx (times x step)) fine under in
    let c = refinements b.0 b.1 in
    let first : coarse (times x step) step ≡ x =
    same_cell (floor-mul step.k x.k (omega (arith, ints, q.low.k))) (floor-mul step.j x.j (omega (arith, ints, q.low.j))) (floor-mul step.i x.i (omega (arith, ints, q.low.i))) in
    let corner = subst (λ (v : Corners). Holds v (times x step)) c.2 (Holds-test {b = b.0.bx} {x = times x step} b.2) in
    let here = (Holds-refined c.0 step (times x step) q).0 corner in
    let there = (Holds-refined c.0 step y q).1 (subst (λ (v : IVec). Holds c.0 v) (first ∙ sym e) here) in
    (b.0, b.1, subst (λ (v : Corners). Holds v y) (sym c.2) there)

module _ (p : Fields) (ranks : ℕ) (n : IsGround p) where
  module _ (levels : List (List Owned)) (mesh : IsMesh p ranks levels) where
    first_fit : (l f : ℕ) (r : Field) (x : IVec) → slice_get p.fields f ≡ Some r → IsCellIn (level_at levels l) x → first_values p ranks levels l f x < r.modulus
    first_fit zero f r x here cell =
        let some = (n.fields r (get_in p.fields f r here)).rules.some in
        below_by (first_values p ranks levels 0 f x) (first_value r x) r.modulus (the_field p.fields f r (λ r. first_value r x) here)
        (mod_below _ r.modulus (omega (arith, some)))
    first_fit (suc l) f r x here cell =
        let less = has_cells p ranks levels n mesh (suc l) x cell in
        renewed_fit p (renewing p ranks l (level_at levels (suc l)) [] (level_at levels l) (λ f x. 0) (first_values p ranks levels l)) f r x refl
        (renewal_is p ranks levels n mesh l less [] (level_at levels l) (λ f x. 0) (first_values p ranks levels l)
        (no_level (area_at p (suc l)) ranks) (any_level p ranks levels n mesh l) (over_below p ranks levels n mesh l less) (first_fit l))
        here cell (λ none. absurd none.1)

  -- the levels of a later regrid
  module _ (h : Hierarchy) (news : List (List Owned)) (old_mesh : IsMesh p ranks h.levels) (mesh : IsMesh p ranks news) (fits : Fits p h) where
    renewed_all : IsRemade p h.levels news → (l f : ℕ) (r : Field) (x : IVec) → slice_get p.fields f ≡ Some r → IsCellIn (level_at news l) x
        → renewed_values p ranks h news l f x < r.modulus
    renewed_all remade zero f r x here cell = fits 0 f r x here (subst (λ (l : List Owned). IsCellIn l x) remade.same cell)
    renewed_all remade (suc l) f r x here cell =
        renewed_fit p (renewing_at p ranks h news l) f r x refl
        (renewals_hold p ranks l h news n old_mesh mesh remade fits (has_cells p ranks news n mesh (suc l) x cell))
        here cell (λ old. fits (suc l) f r x here old)

    begun_fit : (t : ℕ) → (is_due p t ≡ true → IsRemade p h.levels news) → (is_due p t ≡ false → news ≡ h.levels) → Fits p (begun p ranks h news t)
    begun_fit t remade kept l f r x here cell = by (is_due p t) refl
      where
        by : (u : Bool) → is_due p t ≡ u → (if u then renewed_values p ranks h news else h.values) l f x < r.modulus
        by true e = renewed_all (remade e) l f r x here cell
        by false e = fits l f r x here (subst (λ (v : List (List Owned)). IsCellIn (level_at v l) x) (kept e) cell)

  -- the update gives values below the moduli, whatever they were
  updated_fit : (h : Hierarchy) → Fits p (updated p ranks h)
  updated_fit h l f r x here cell =
      below_by (updated_values p ranks h l f x) (value_after p.dim (filling p ranks h l) (f, rules_of r) x) r.modulus
      (the_field p.fields f r (λ r. value_after p.dim (filling p ranks h l) (f, rules_of r) x) here)
      (updated_values_fit (rules_of r) (h.values l f x) _ (n.fields r (get_in p.fields f r here)).rules)

  module _ (h : Hierarchy) (mesh : IsMesh p ranks h.levels) where
    merged_fit : (v : Values) → Fits p (with_values h v) → (l f : ℕ) (r : Field) (x : IVec) → slice_get p.fields f ≡ Some r → IsCellIn (level_at h.levels l) x
        → merged_values p ranks (with_values h v) l f x < r.modulus
    merged_fit v fits l f r x here cell = by (is_under w x) refl
      where
        w : Coarsening
        w = coarsening p ranks (with_values h v) l

        some : 0 < r.modulus
        some = let two = (n.fields r (get_in p.fields f r here)).rules.some in omega (arith, two)

        fine : (y : IVec) → is_under w x ≡ true → Member y (children w x) → v (suc l) f y < r.modulus
        fine y under m =
            let b = member_any (λ (o : Owned). holds o.bx (times x (step_of p l))) (level_at h.levels (suc l)) under in
            let less = has_cells p ranks h.levels n mesh (suc l) (times x (step_of p l)) (b.0, b.1, Holds-test {b = b.0.bx} {x = times x (step_of p l)} b.2) in
            fits (suc l) f r y here
            (over_all (level_at h.levels (suc l)) (step_of p l) x y (n.step l) (mesh.refinements l less) under (child_of (step_of p l) x y (n.step l) m))

        by : (t : Bool) → is_under w x ≡ t
            → (if t then for_field (slice_get p.fields f) (λ r. merged w (f, (r.coarsen, r.modulus)) x) else v l f x) < r.modulus
        by false e = fits l f r x here cell
        by true e =
            below_by (for_field (slice_get p.fields f) (λ r. merged w (f, (r.coarsen, r.modulus)) x)) (merged w (f, (r.coarsen, r.modulus)) x) r.modulus
            (the_field p.fields f r (λ r. merged w (f, (r.coarsen, r.modulus)) x) here)
            (coarsened_values_fit r.coarsen r.modulus (map (v (suc l) f) (children w x)) some
            (All-from_members (λ (u : ℕ). u < r.modulus) (map (v (suc l) f) (children w x))
            (λ u k. let y = Member-from_map (v (suc l) f) u (children w x) k in let b = fine y.0 e y.1 in let same = y.2 in omega (arith, b, same))))

    coarsened_fit : Fits p h → (k : ℕ) → Fits p (with_values h (coarsened_values p ranks h k))
    coarsened_fit fits zero l f r x here cell = fits l f r x here cell
    coarsened_fit fits (suc k) l f r x here cell = by (coarsened_fit fits k) (l == length h.levels - 2 - k)
      where
        by : Fits p (with_values h (coarsened_values p ranks h k)) → (t : Bool) → (if t then merged_values p ranks (with_values h (coarsened_values p ranks h k)) l else coarsened_values p ranks h k l) f x < r.modulus
        by rest true = merged_fit (coarsened_values p ranks h k) rest l f r x here cell
        by rest false = rest l f r x here cell

pub first_renewals_hold : FirstRenewalsHold
first_renewals_hold p ranks l levels n mesh less =
    renewal_is p ranks levels n mesh l less [] (level_at levels l) (λ f x. 0) (first_values p ranks levels l)
    (no_level (area_at p (suc l)) ranks) (any_level p ranks levels n mesh l) (over_below p ranks levels n mesh l less) (first_fit p ranks n levels mesh l)

pub first_values_fit : FirstValuesFit
first_values_fit p ranks levels n mesh = first_fit p ranks n levels mesh

pub steps_fit : StepsFit
steps_fit p ranks t h news n old_mesh mesh remade kept fits = (
  begun_fit p ranks n h news old_mesh mesh fits t remade kept,
  coarsened_fit p ranks n (updated p ranks (begun p ranks h news t)) mesh (updated_fit p ranks n (begun p ranks h news t)) (length news - 1),
)

pub each_step_is_sound : EachStepIsSound
each_step_is_sound p ranks zero mesh n are = record { levels = refl; fits = first_values_fit p ranks (mesh 0) n (are.each 0) }
each_step_is_sound p ranks (suc t) mesh n are =
    let before = each_step_is_sound p ranks t mesh n are in
    let olds = sym before.levels in
    record {
      levels = refl;
      fits = (steps_fit p ranks (suc t) (after p ranks mesh t) (mesh (suc t)) n
          (subst (λ (v : List (List Owned)). IsMesh p ranks v) olds (are.each t)) (are.each (suc t))
          (λ e. subst (λ (v : List (List Owned)). IsRemade p v (mesh (suc t))) olds (are.remade t e))
          (λ e. are.kept t e ∙ olds)
          before.fits).1;
    }
