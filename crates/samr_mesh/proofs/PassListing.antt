-- The passes of a regrid, one after another.
use Rattle.std.proofs.Common.{◌≡◌, ℕ, zero, suc, ◌+◌, ◌-◌, ◌<◌, ◌≤◌, List, [], ◌∷◌, length, take, refl, sym, ap, subst, ◌∙◌, inl, inr, arith}
use Rattle.std.specs.Prelude.{◌↔◌, map, filter}
use Rattle.std.specs.List.{range_with_len}
use Rattle.samr_box.specs.declared.vector.IVec.{IVec}
use Rattle.samr_box.specs.Vector.{AtMost}
use Rattle.samr_box.specs.Lists.{Member}
use Rattle.samr_box.proofs.CellSets.{Holds-lo}
use Rattle.samr_level.specs.Refs.{Owned}
use Rattle.samr_level.specs.Levels.{IsLevel, IsCellIn}
use Rattle.samr_load.specs.Balanced.{cells_in}
use Rattle.samr_load.proofs.Shapes.{some_cells}
use Rattle.samr_problem.specs.Fields.{Fields}
use Rattle.samr_problem.specs.Problems.{IsProblem}
use Rattle.samr_mesh.specs.Domains.{level0_of, step_of, area_at}
use Rattle.samr_mesh.specs.Grounds.{CanPass}
use Rattle.samr_mesh.specs.Meshes.{stacked, lowest, grown_over, renewed_over, made_over, has_boxes, stepped, mesh_from, mesh}
use Rattle.samr_mesh.specs.PassLists.{passes_over, passes_of, if_boxes, passes_up, first_passes, AllRun, AreLinked}
use Rattle.samr_mesh.specs.Passes.{Pass, cut_level, pieces_of, new_level}
use Rattle.samr_level.specs.Refined.{refined_box, refined_level}
use Rattle.samr_mesh.specs.Soundness.{CanRun}
use Rattle.samr_mesh.specs.Stages.{IsAbove}
use Rattle.samr_mesh.proofs.Grounding.{can_pass}
use Rattle.samr_mesh.proofs.Holes.{lowest-stacked, same_lowest, no_holes_in}
use Rattle.samr_mesh.proofs.Meshing.{renewed_are, taken_over, length-taken, base_is, base_level}
use Rattle.samr_mesh.proofs.Passing.{passed, cut_are, pieces_are, same_cover, same_cells}
use Rattle.samr_mesh.proofs.Stacks.{AreOver, IsStacked}

-- what is made is what the passes make
made_by : (p : Fields) (ranks step l : ℕ) (levels : List (List Owned)) → made_over p ranks step l levels ≡ map (new_level p) (passes_over p ranks step l levels)
unfolding made_over passes_over
made_by p ranks step l [] = refl
made_by p ranks step l (level ∷ finer) =
    ap (λ (v : List Owned). new_level p (record { ranks = ranks; step = step; number = l; level = level; above = v }) ∷ made_over p ranks step (suc l) finer)
    (sym (same_lowest p ranks step (suc l) finer))
    ∙ ap (λ (rest : List (List Owned)). new_level p (record { ranks = ranks; step = step; number = l; level = level; above = lowest (renewed_over p ranks step (suc l) finer) }) ∷ rest)
    (made_by p ranks step (suc l) finer)

numbers : (p : Fields) (ranks step l : ℕ) (levels : List (List Owned)) → map (λ (w : Pass). w.number) (passes_over p ranks step l levels) ≡ range_with_len l (length levels)
unfolding passes_over
numbers p ranks step l [] = refl
numbers p ranks step l (level ∷ finer) =
    let next : suc l ≡ l + 1 = omega arith in
    ap (λ (rest : List ℕ). l ∷ rest) (numbers p ranks step (suc l) finer ∙ ap (λ (n : ℕ). range_with_len n (length finer)) next)

linked : (p : Fields) (ranks step l : ℕ) (levels : List (List Owned)) → AreLinked p (passes_over p ranks step l levels)
unfolding passes_over renewed_over
linked p ranks step l [] = tt
linked p ranks step l (level ∷ []) = refl
linked p ranks step l (level ∷ next ∷ finer) =
    let above = renewed_over p ranks step (suc (suc l)) finer in (
      lowest-stacked (new_level p (record { ranks = ranks; step = step; number = suc l; level = next; above = lowest above })) above,
      linked p ranks step (suc l) (next ∷ finer),
    )

-- all of them can run
above_is : (p : Fields) (ranks l : ℕ) (next : List Owned) (above : List (List Owned)) (w : Pass) → w.number ≡ l → w.ranks ≡ ranks → w.above ≡ lowest above
    → CanPass p (suc l) → AreOver p ranks (suc l) next above → IsAbove p w
above_is p ranks l next [] w same_l same_ranks same can all = inl same
above_is p ranks l next (top ∷ more) w same_l same_ranks same can all =
    let Can : ℕ → Type 0 = λ n. CanPass p (suc n) in
    let Num : ℕ → Type 0 = λ n. IsLevel (area_at p (suc (suc n))) w.ranks w.above in
    let Rank : ℕ → Type 0 = λ n. IsLevel (area_at p (suc (suc l))) n w.above in
    let Top : List Owned → Type 0 = λ v. IsLevel (area_at p (suc (suc l))) ranks v in
    inr (subst Can (sym same_l) can, subst Num (sym same_l) (subst Rank (sym same_ranks) (subst Top (sym same) all.0.is_level)))

all_run : (p : Fields) (ranks step : ℕ) (finer : List (List Owned)) (l : ℕ) (level : List Owned) → IsProblem p → 0 < ranks
    → suc (suc (l + length finer)) ≤ p.levels → IsLevel (area_at p l) ranks level → AreOver p ranks l level finer → AllRun p (passes_over p ranks step l (level ∷ finer))
unfolding passes_over renewed_over
all_run p ranks step [] l level is some room h all w (inl e) =
    let v : Pass = record { ranks = ranks; step = step; number = l; level = level; above = [] } in
    let Both : Pass → Type 0 = λ w. CanRun p w × IsAbove p w in
    subst Both (sym e) (record { can = can_pass p is l (omega (arith, room)); some = some; is_level = h }, inl refl)
all_run p ranks step [] l level is some room h all w (inr m) = absurd m
all_run p ranks step (next ∷ rest) l level is some room h all w (inl e) =
    let above = renewed_over p ranks step (suc l) (next ∷ rest) in
    let later = renewed_are p ranks step rest (suc l) next is some (omega (arith, room)) all.0.is_level all.1 in
    let v : Pass = record { ranks = ranks; step = step; number = l; level = level; above = lowest above } in
    let Both : Pass → Type 0 = λ w. CanRun p w × IsAbove p w in
    subst Both (sym e) (
      record { can = can_pass p is l (omega (arith, room)); some = some; is_level = h },
      above_is p ranks l next above v refl refl refl (can_pass p is (suc l) (omega (arith, room))) later,
    )
all_run p ranks step (next ∷ rest) l level is some room h all w (inr m) =
    all_run p ranks step rest (suc l) next is some (omega (arith, room)) all.0.is_level all.1 w m

no_passes : (p : Fields) (ranks step : ℕ) → AllRun p (passes_over p ranks step 0 [])
unfolding passes_over
no_passes p ranks step w m = absurd m

first_run : (p : Fields) (ranks step n : ℕ) (base : List Owned) (finer : List (List Owned)) → IsProblem p → 0 < ranks → suc n ≤ p.levels
    → IsLevel (area_at p 0) ranks base → AreOver p ranks 0 base finer → AllRun p (passes_over p ranks step 0 (take n (base ∷ finer)))
first_run p ranks step zero base finer is some room h all = no_passes p ranks step
first_run p ranks step (suc n) base finer is some room h all =
    let few = length-taken n finer in
    all_run p ranks step (take n finer) 0 base is some (omega (arith, few, room)) h (taken_over p ranks n 0 base finer all)

regrid_runs : (p : Fields) (ranks step : ℕ) (levels : List (List Owned)) → IsProblem p → 0 < ranks → IsStacked p ranks levels → AllRun p (passes_of p ranks step levels)
regrid_runs p ranks step [] is some h = absurd h
regrid_runs p ranks step (base ∷ finer) is some h =
    let one = is.levels.above in first_run p ranks step (p.levels - 1) base finer is some (omega (arith, one)) (base_level p ranks base is some h.0) h.1

pub regrid_passes : (p : Fields) (ranks step : ℕ) (levels : List (List Owned)) → IsProblem p → 0 < ranks → IsStacked p ranks levels
    → AllRun p (passes_of p ranks step levels) × AreLinked p (passes_of p ranks step levels)
    × (map (λ (w : Pass). w.number) (passes_of p ranks step levels) ≡ range_with_len 0 (length (take (p.levels - 1) levels)))
    × (renewed_over p ranks step 0 (take (p.levels - 1) levels) ≡ filter has_boxes (map (new_level p) (passes_of p ranks step levels)))
regrid_passes p ranks step levels is some h = (
  regrid_runs p ranks step levels is some h,
  linked p ranks step 0 (take (p.levels - 1) levels),
  numbers p ranks step 0 (take (p.levels - 1) levels),
  no_holes_in p ranks step levels is some h ∙ ap (λ (l : List (List Owned)). filter has_boxes l) (made_by p ranks step 0 (take (p.levels - 1) levels)),
)

-- step 0
member_if : (new : List Owned) (passes : List Pass) (w : Pass) → Member w (if_boxes new passes) → Member w passes
member_if [] passes w m = absurd m
member_if (b ∷ bs) passes w m = m

one_or_later : (p : Fields) (v w : Pass) (rest : List Pass) → CanRun p v → v.above ≡ [] → Member w (v ∷ rest) → (Member w rest → CanRun p w × IsAbove p w) → CanRun p w × IsAbove p w
one_or_later p v w rest run none (inl e) later =
    let Both : Pass → Type 0 = λ w. CanRun p w × IsAbove p w in
    subst Both (sym e) (run, inl none)
one_or_later p v w rest run none (inr m) later = later m

up_run : (p : Fields) (ranks n l : ℕ) (level : List Owned) → IsProblem p → 0 < ranks → suc (l + n) ≤ p.levels → IsLevel (area_at p l) ranks level → AllRun p (passes_up p ranks n l level)
unfolding passes_up
up_run p ranks zero l level is some room h w m = absurd m
up_run p ranks (suc n) l level is some room h w m =
    let v : Pass = record { ranks = ranks; step = 0; number = l; level = level; above = [] } in
    let run : CanRun p v = record { can = can_pass p is l (omega (arith, room)); some = some; is_level = h } in
    let rest = passes_up p ranks n (suc l) (new_level p v) in
    one_or_later p v w (if_boxes (new_level p v) rest) run refl m
    (λ k. up_run p ranks n (suc l) (new_level p v) is some (omega (arith, room)) (passed p v run).is_level w (member_if (new_level p v) rest w k))

more_up : (p : Fields) (new : List Owned) (grown : List (List Owned)) (passes : List Pass) → grown ≡ filter has_boxes (map (new_level p) passes)
    → stacked new grown ≡ filter has_boxes (new ∷ map (new_level p) (if_boxes new passes))
more_up p [] grown passes e = refl
more_up p (b ∷ bs) grown passes e = ap (λ (l : List (List Owned)). (b ∷ bs) ∷ l) e

up_made : (p : Fields) (ranks n l : ℕ) (level : List Owned) → grown_over p ranks n l level ≡ filter has_boxes (map (new_level p) (passes_up p ranks n l level))
unfolding grown_over passes_up
up_made p ranks zero l level = refl
up_made p ranks (suc n) l level =
    let v : Pass = record { ranks = ranks; step = 0; number = l; level = level; above = [] } in
    more_up p (new_level p v) (grown_over p ranks n (suc l) (new_level p v)) (passes_up p ranks n (suc l) (new_level p v)) (up_made p ranks n (suc l) (new_level p v))

pub first_passes_are : (p : Fields) (ranks : ℕ) → IsProblem p → 0 < ranks → AllRun p (first_passes p ranks)
    × (grown_over p ranks (p.levels - 1) 0 (level0_of p ranks) ≡ filter has_boxes (map (new_level p) (first_passes p ranks)))
first_passes_are p ranks is some =
    let one = is.levels.above in (
      up_run p ranks (p.levels - 1) 0 (level0_of p ranks) is some (omega (arith, one)) (base_is p ranks is some),
      up_made p ranks (p.levels - 1) 0 (level0_of p ranks),
    )

-- a level has boxes exactly where it has cells
none_of : (os : List Owned) → ((b : Owned) → Member b os → AtMost b.bx.lo b.bx.hi) → cells_in os ≡ 0 → os ≡ []
none_of [] full e = refl
none_of (b ∷ os) full e = let some = some_cells b.bx (full b (inl refl)) in absurd (omega (arith, some, e))

pub cells_tell : (p : Fields) (w : Pass) → CanRun p w → (cells_in (cut_level p w) ≡ 0) ↔ (new_level p w ≡ [])
unfolding new_level
cells_tell p w run =
    let cut = cut_are p w run in
    let pieces = pieces_are p w run in (
      λ e.
          let gone = none_of (cut_level p w) cut.not_empty e in
          ap (refined_level (step_of p w.number)) (no_boxes (pieces_of p w) pieces.not_empty (λ b m.
          nowhere (cut_level p w) b gone (same_cells b.bx.lo (pieces_of p w) (cut_level p w) (same_cover p w run b.bx.lo) (b, m, Holds-lo {b = b.bx} (pieces.not_empty b m))))),
      λ e.
          let gone = unrefined (step_of p w.number) (pieces_of p w) e in
          let left = no_boxes (cut_level p w) cut.not_empty (λ b m.
          nowhere (pieces_of p w) b gone (same_cells b.bx.lo (cut_level p w) (pieces_of p w) (sym (same_cover p w run b.bx.lo)) (b, m, Holds-lo {b = b.bx} (cut.not_empty b m)))) in
          ap cells_in left,
    )
  where
    no_boxes : (os : List Owned) → ((b : Owned) → Member b os → AtMost b.bx.lo b.bx.hi) → ((b : Owned) → Member b os → ⊥) → os ≡ []
    no_boxes [] full none = refl
    no_boxes (b ∷ os) full none = absurd (none b (inl refl))

    nowhere : (os : List Owned) (b : Owned) → os ≡ [] → IsCellIn os b.bx.lo → ⊥
    nowhere [] b e (c, m, h) = absurd m
    nowhere (c ∷ cs) b e h = differ e
      where
        differ : (c ∷ cs) ≡ [] → ⊥
        differ e = cc

    unrefined : (r : IVec) (os : List Owned) → refined_level r os ≡ [] → os ≡ []
    unrefined r [] e = refl
    unrefined r (b ∷ os) e = absurd (differ e)
      where
        differ : (refined_box r b ∷ refined_level r os) ≡ [] → ⊥
        differ e = cc

-- a run that goes on
pub goes_on : (p : Fields) (ranks start n : ℕ) → mesh_from p ranks start (mesh p ranks start) n ≡ mesh p ranks (start + n)
unfolding mesh_from
goes_on p ranks start zero = let e : start ≡ start + 0 = omega arith in ap (mesh p ranks) e
goes_on p ranks start (suc n) =
    let next : suc (start + n) ≡ start + suc n = omega arith in
    let label : start + suc n ≡ 0 + suc (start + n) = omega arith in
    ap (λ (levels : List (List Owned)). stepped p ranks (start + suc n) levels) (goes_on p ranks start n)
    ∙ ap (λ (step : ℕ). stepped p ranks step (mesh p ranks (start + n))) label
    ∙ ap (mesh p ranks) next
