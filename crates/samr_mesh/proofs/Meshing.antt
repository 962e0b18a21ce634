-- From a mesh all later ones are meshes.
use Rattle.std.proofs.Common.{◌≡◌, ℕ, zero, suc, ◌+◌, ◌-◌, ◌<◌, ◌≤◌, Bool, true, false, cond, List, [], ◌∷◌, length, take, refl, sym, subst, inl, inr, arith}
use Rattle.std.specs.Prelude.{◌⊎◌}
use Rattle.samr_box.specs.declared.vector.IVec.{IVec}
use Rattle.samr_box.specs.Ratios.{coarse}
use Rattle.samr_box.specs.Lists.{Member}
use Rattle.samr_level.specs.Refs.{Owned}
use Rattle.samr_level.specs.Regions.{Area}
use Rattle.samr_level.specs.Levels.{IsLevel, IsNested, IsCellIn}
use Rattle.samr_level.specs.Blocks.{level0}
use Rattle.samr_level.proofs.Level0Laws.{IsLevel-level0}
use Rattle.samr_problem.specs.Fields.{Fields}
use Rattle.samr_problem.specs.Problems.{IsProblem}
use Rattle.samr_nest.specs.CutLevels.{IsDeep}
use Rattle.samr_mesh.specs.Domains.{area_of, level0_of, step_of, area_at}
use Rattle.samr_mesh.specs.Grounds.{CanPass}
use Rattle.samr_mesh.specs.Meshes.{stacked, lowest, grown_over, renewed_over, regridded, is_due, stepped, mesh_from, first_mesh, mesh}
use Rattle.samr_mesh.specs.Passes.{Pass, tags_in, new_level}
use Rattle.samr_mesh.specs.Soundness.{CanRun, IsOver}
use Rattle.samr_mesh.proofs.Covers.{keeps_nesting, has_box}
use Rattle.samr_mesh.proofs.Grounding.{can_pass}
use Rattle.samr_mesh.proofs.Passing.{passed}
use Rattle.samr_mesh.proofs.Regions.{has_level0}
use Rattle.samr_mesh.proofs.Scaling.{area_zero}
use Rattle.samr_mesh.proofs.Stacks.{AreOver, IsStacked}

-- the new level nests in the level of its pass
pub new_nested : (p : Fields) (w : Pass) → CanRun p w → IsNested (area_at p w.number) (step_of p w.number) p.nest (new_level p w) w.level
new_nested p w run x y cell near inside = (((passed p w run).cells x).0 cell).1.in_level y near inside

new_over : (p : Fields) (w : Pass) (b : Owned) → CanRun p w → Member b (new_level p w) → IsOver p w.ranks w.number w.level (new_level p w)
new_over p w b run m = let h = passed p w run in record { is_level = h.is_level; refined = h.refined; nested = new_nested p w run; some = (b, m) }

-- a new level with those above it
stack_over : (p : Fields) (ranks l : ℕ) (below new : List Owned) (above : List (List Owned))
    → ((b : Owned) → Member b new → IsOver p ranks l below new × AreOver p ranks (suc l) new above) → AreOver p ranks l below (stacked new above)
stack_over p ranks l below [] above some = tt
stack_over p ranks l below (b ∷ bs) above some = let h = some b (inl refl) in (h.0, h.1)

length-stacked : (new : List Owned) (above : List (List Owned)) → length (stacked new above) ≤ suc (length above)
length-stacked [] above = omega arith
length-stacked (b ∷ bs) above = omega arith

-- upwards
grown_are : (p : Fields) (ranks n l : ℕ) (level : List Owned) → IsProblem p → 0 < ranks → suc (l + n) ≤ p.levels → IsLevel (area_at p l) ranks level
    → AreOver p ranks l level (grown_over p ranks n l level)
unfolding grown_over
grown_are p ranks zero l level is some room h = tt
grown_are p ranks (suc n) l level is some room h =
    let w : Pass = record { ranks = ranks; step = 0; number = l; level = level; above = [] } in
    let run : CanRun p w = record { can = can_pass p is l (omega (arith, room)); some = some; is_level = h } in
    let new = new_level p w in
    stack_over p ranks l level new (grown_over p ranks n (suc l) new)
    (λ b m. (new_over p w b run m, grown_are p ranks n (suc l) new is some (omega (arith, room)) (passed p w run).is_level))

length-grown : (p : Fields) (ranks n l : ℕ) (level : List Owned) → length (grown_over p ranks n l level) ≤ n
unfolding grown_over
length-grown p ranks zero l level = omega arith
length-grown p ranks (suc n) l level =
    let new = new_level p (record { ranks = ranks; step = 0; number = l; level = level; above = [] }) in
    let rest = length-grown p ranks n (suc l) new in
    let more = length-stacked new (grown_over p ranks n (suc l) new) in
    omega (arith, rest, more)

-- downwards: over a level below which all is well the new level, and those above it over this one
retargeted : (p : Fields) (w : Pass) (next : List Owned) (above : List (List Owned)) → CanRun p w → ((top : List Owned) → IsOver p w.ranks (suc w.number) next top → CanPass p (suc w.number))
    → IsOver p w.ranks w.number w.level next → AreOver p w.ranks (suc w.number) next above → w.above ≡ lowest above
    → AreOver p w.ranks (suc w.number) (new_level p w) above
retargeted p w next [] run upper over all same = tt
retargeted p w next (top ∷ more) run upper over all same =
    let top_over : IsOver p w.ranks (suc w.number) next w.above = subst (λ (v : List Owned). IsOver p w.ranks (suc w.number) next v) (sym same) all.0 in
    let nested = keeps_nesting p w next run (upper top all.0) over top_over in (
      record {
        is_level = all.0.is_level;
        refined = all.0.refined;
        nested = subst (λ (v : List Owned). IsNested (area_at p (suc w.number)) (step_of p (suc w.number)) p.nest v (new_level p w)) same nested;
        some = all.0.some;
      },
      all.1,
    )

pub renewed_are : (p : Fields) (ranks step : ℕ) (finer : List (List Owned)) (l : ℕ) (level : List Owned) → IsProblem p → 0 < ranks
    → suc (suc (l + length finer)) ≤ p.levels → IsLevel (area_at p l) ranks level → AreOver p ranks l level finer
    → AreOver p ranks l level (renewed_over p ranks step l (level ∷ finer))
unfolding renewed_over
renewed_are p ranks step [] l level is some room h all =
    let w : Pass = record { ranks = ranks; step = step; number = l; level = level; above = [] } in
    let run : CanRun p w = record { can = can_pass p is l (omega (arith, room)); some = some; is_level = h } in
    stack_over p ranks l level (new_level p w) [] (λ b m. (new_over p w b run m, tt))
renewed_are p ranks step (next ∷ rest) l level is some room h all =
    let above = renewed_over p ranks step (suc l) (next ∷ rest) in
    let later = renewed_are p ranks step rest (suc l) next is some (omega (arith, room)) all.0.is_level all.1 in
    let w : Pass = record { ranks = ranks; step = step; number = l; level = level; above = lowest above } in
    let run : CanRun p w = record { can = can_pass p is l (omega (arith, room)); some = some; is_level = h } in
    let upper = can_pass p is (suc l) (omega (arith, room)) in
    stack_over p ranks l level (new_level p w) above
    (λ b m. (new_over p w b run m, retargeted p w next above run (λ top o. upper) all.0 later refl))

length-renewed : (p : Fields) (ranks step l : ℕ) (levels : List (List Owned)) → length (renewed_over p ranks step l levels) ≤ length levels
unfolding renewed_over
length-renewed p ranks step l [] = omega arith
length-renewed p ranks step l (level ∷ finer) =
    let above = renewed_over p ranks step (suc l) finer in
    let rest = length-renewed p ranks step (suc l) finer in
    let more = length-stacked (new_level p (record { ranks = ranks; step = step; number = l; level = level; above = lowest above })) above in
    omega (arith, rest, more)

-- the first of some levels
pub taken_over : (p : Fields) (ranks n l : ℕ) (below : List Owned) (levels : List (List Owned)) → AreOver p ranks l below levels → AreOver p ranks l below (take n levels)
taken_over p ranks zero l below levels all = tt
taken_over p ranks (suc n) l below [] all = tt
taken_over p ranks (suc n) l below (level ∷ finer) all = (all.0, taken_over p ranks n (suc l) level finer all.1)

pub length-taken : (n : ℕ) (levels : List (List Owned)) → length (take n levels) ≤ n
length-taken zero levels = omega arith
length-taken (suc n) [] = omega arith
length-taken (suc n) (level ∷ finer) = let rest = length-taken n finer in omega (arith, rest)

nothing : (p : Fields) (ranks step : ℕ) (base : List Owned) → AreOver p ranks 0 base (renewed_over p ranks step 0 [])
unfolding renewed_over
nothing p ranks step base = tt

-- a regrid over the first of the levels
renewed_mesh : (p : Fields) (ranks step n : ℕ) (base : List Owned) (finer : List (List Owned)) → IsProblem p → 0 < ranks → suc n ≤ p.levels
    → IsLevel (area_at p 0) ranks base → AreOver p ranks 0 base finer
    → AreOver p ranks 0 base (renewed_over p ranks step 0 (take n (base ∷ finer))) × (suc (length (renewed_over p ranks step 0 (take n (base ∷ finer)))) ≤ p.levels)
renewed_mesh p ranks step zero base finer is some room h all = let short = length-renewed p ranks step 0 [] in (nothing p ranks step base, omega (arith, short, room))
renewed_mesh p ranks step (suc n) base finer is some room h all =
    let few = length-taken n finer in
    let short = length-renewed p ranks step 0 (base ∷ take n finer) in (
      renewed_are p ranks step (take n finer) 0 base is some (omega (arith, few, room)) h (taken_over p ranks n 0 base finer all),
      omega (arith, short, few, room),
    )

pub base_is : (p : Fields) (ranks : ℕ) → IsProblem p → 0 < ranks → IsLevel (area_at p 0) ranks (level0_of p ranks)
base_is p ranks is some =
    let begun = has_level0 p is in
    subst (λ (a : Area). IsLevel a ranks (level0 (area_of p) p.block ranks)) (area_zero p) (IsLevel-level0 (area_of p) p.block ranks begun.area begun.blocks some)

pub base_level : (p : Fields) (ranks : ℕ) (base : List Owned) → IsProblem p → 0 < ranks → base ≡ level0_of p ranks → IsLevel (area_at p 0) ranks base
base_level p ranks base is some same = subst (λ (v : List Owned). IsLevel (area_at p 0) ranks v) (sym same) (base_is p ranks is some)

regridded_is : (p : Fields) (ranks step : ℕ) (levels : List (List Owned)) → IsProblem p → 0 < ranks → IsStacked p ranks levels → IsStacked p ranks (regridded p ranks step levels)
unfolding regridded
regridded_is p ranks step [] is some all = absurd all
regridded_is p ranks step (base ∷ finer) is some all =
    let one = is.levels.above in
    let h = renewed_mesh p ranks step (p.levels - 1) base finer is some (omega (arith, one)) (base_level p ranks base is some all.0) all.1 in
    (all.0, h.0, h.1)

stepped_is : (p : Fields) (ranks step : ℕ) (levels : List (List Owned)) → IsProblem p → 0 < ranks → IsStacked p ranks levels → IsStacked p ranks (stepped p ranks step levels)
stepped_is p ranks step levels is some all = by (is_due p step)
  where
    by : (t : Bool) → IsStacked p ranks (cond t (regridded p ranks step levels) levels)
    by true = regridded_is p ranks step levels is some all
    by false = all

pub stays_stacked : (p : Fields) (ranks start n : ℕ) (levels : List (List Owned)) → IsProblem p → 0 < ranks → IsStacked p ranks levels → IsStacked p ranks (mesh_from p ranks start levels n)
unfolding mesh_from
stays_stacked p ranks start zero levels is some all = all
stays_stacked p ranks start (suc n) levels is some all =
    stepped_is p ranks (start + suc n) (mesh_from p ranks start levels n) is some (stays_stacked p ranks start n levels is some all)

pub first_is : (p : Fields) (ranks : ℕ) → IsProblem p → 0 < ranks → IsStacked p ranks (first_mesh p ranks)
unfolding first_mesh
first_is p ranks is some =
    let base = level0_of p ranks in
    let level = base_is p ranks is some in
    let one = is.levels.above in
    let room : suc (0 + (p.levels - 1)) ≤ p.levels = omega (arith, one) in
    let few = length-grown p ranks (p.levels - 1) 0 base in
    (refl, grown_are p ranks (p.levels - 1) 0 base is some room level, omega (arith, few, one))

pub fresh_is_stacked : (p : Fields) (ranks step : ℕ) → IsProblem p → 0 < ranks → IsStacked p ranks (mesh p ranks step)
fresh_is_stacked p ranks step is some = stays_stacked p ranks 0 step (first_mesh p ranks) is some (first_is p ranks is some)

-- no level is lost
pub none_lost : (p : Fields) (w : Pass) (next : List Owned) (above : List (List Owned)) → CanRun p w → CanPass p (suc w.number)
    → IsOver p w.ranks w.number w.level next → AreOver p w.ranks (suc w.number) next above → w.above ≡ lowest above
    → above ≡ [] ⊎ (stacked (new_level p w) above ≡ new_level p w ∷ above)
none_lost p w next [] run upper over all same = inl refl
none_lost p w next (top ∷ more) run upper over all same =
    let top_over : IsOver p w.ranks (suc w.number) next w.above = subst (λ (v : List Owned). IsOver p w.ranks (suc w.number) next v) (sym same) all.0 in
    let b = has_box p w next run upper over top_over in
    inr (filled (new_level p w) b.0 b.1)
  where
    filled : (new : List Owned) (b : Owned) → Member b new → stacked new (top ∷ more) ≡ new ∷ (top ∷ more)
    filled [] b m = absurd m
    filled (c ∷ cs) b m = refl

-- the new level has the cells over each tag that is deep in the level
pub tags_refined : (p : Fields) (w : Pass) (x : IVec) → CanRun p w → tags_in p w (coarse x (step_of p w.number)) ≡ true
    → IsDeep (area_at p w.number) w.level p.nest (coarse x (step_of p w.number)) → IsCellIn (new_level p w) x
tags_refined p w x run t deep = let h = passed p w run in (h.cells x).1 (h.covers (coarse x (step_of p w.number)) t, deep)
