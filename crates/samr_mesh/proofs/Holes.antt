-- The levels that a regrid makes are numbered without a hole.
use Rattle.std.proofs.Common.{◌≡◌, ℕ, zero, suc, ◌+◌, ◌-◌, ◌<◌, ◌≤◌, List, [], ◌∷◌, length, take, refl, sym, ap, ◌∙◌, inl, inr, arith}
use Rattle.std.specs.Prelude.{filter, ◌⊎◌}
use Rattle.samr_level.specs.Refs.{Owned}
use Rattle.samr_level.specs.Levels.{IsLevel}
use Rattle.samr_problem.specs.Fields.{Fields}
use Rattle.samr_problem.specs.Problems.{IsProblem}
use Rattle.samr_mesh.specs.Domains.{area_at}
use Rattle.samr_mesh.specs.Meshes.{stacked, lowest, renewed_over, made_over, has_boxes}
use Rattle.samr_mesh.specs.Passes.{Pass, new_level}
use Rattle.samr_mesh.specs.Soundness.{CanRun}
use Rattle.samr_mesh.proofs.Grounding.{can_pass}
use Rattle.samr_mesh.proofs.Meshing.{none_lost, renewed_are, taken_over, length-taken, base_level}
use Rattle.samr_mesh.proofs.Stacks.{AreOver, IsStacked}

pub lowest-stacked : (new : List Owned) (above : List (List Owned)) → lowest (stacked new above) ≡ new
lowest-stacked [] above = refl
lowest-stacked (b ∷ bs) above = refl

pub same_lowest : (p : Fields) (ranks step l : ℕ) (levels : List (List Owned)) → lowest (renewed_over p ranks step l levels) ≡ lowest (made_over p ranks step l levels)
unfolding renewed_over made_over
same_lowest p ranks step l [] = refl
same_lowest p ranks step l (level ∷ finer) =
    let above = renewed_over p ranks step (suc l) finer in
    lowest-stacked (new_level p (record { ranks = ranks; step = step; number = l; level = level; above = lowest above })) above
    ∙ ap (λ (v : List Owned). new_level p (record { ranks = ranks; step = step; number = l; level = level; above = v })) (same_lowest p ranks step (suc l) finer)

-- one more
one_more : (new : List Owned) (above made : List (List Owned)) → above ≡ filter has_boxes made → above ≡ [] ⊎ (stacked new above ≡ new ∷ above)
    → stacked new above ≡ filter has_boxes (new ∷ made)
one_more [] above made same (inl none) = sym none ∙ same
one_more [] above made same (inr more) = absurd (differ more)
  where
    differ : (let n : List (List Owned) = [] in n) ≡ [] ∷ above → ⊥
    differ e = cc
one_more (b ∷ bs) above made same lost = ap (λ (l : List (List Owned)). (b ∷ bs) ∷ l) same

no_holes : (p : Fields) (ranks step : ℕ) (finer : List (List Owned)) (l : ℕ) (level : List Owned) → IsProblem p → 0 < ranks
    → suc (suc (l + length finer)) ≤ p.levels → IsLevel (area_at p l) ranks level → AreOver p ranks l level finer
    → renewed_over p ranks step l (level ∷ finer) ≡ filter has_boxes (made_over p ranks step l (level ∷ finer))
unfolding renewed_over made_over
no_holes p ranks step [] l level is some room h all =
    one_more (new_level p (record { ranks = ranks; step = step; number = l; level = level; above = [] })) [] [] refl (inl refl)
no_holes p ranks step (next ∷ rest) l level is some room h all =
    let above = renewed_over p ranks step (suc l) (next ∷ rest) in
    let made = made_over p ranks step (suc l) (next ∷ rest) in
    let later = renewed_are p ranks step rest (suc l) next is some (omega (arith, room)) all.0.is_level all.1 in
    let w : Pass = record { ranks = ranks; step = step; number = l; level = level; above = lowest above } in
    let run : CanRun p w = record { can = can_pass p is l (omega (arith, room)); some = some; is_level = h } in
    let lost = none_lost p w next above run (can_pass p is (suc l) (omega (arith, room))) all.0 later refl in
    one_more (new_level p w) above made (no_holes p ranks step rest (suc l) next is some (omega (arith, room)) all.0.is_level all.1) lost
    ∙ ap (λ (v : List Owned). filter has_boxes (new_level p (record { ranks = ranks; step = step; number = l; level = level; above = v }) ∷ made))
    (same_lowest p ranks step (suc l) (next ∷ rest))

none_made : (p : Fields) (ranks step : ℕ) → renewed_over p ranks step 0 [] ≡ filter has_boxes (made_over p ranks step 0 [])
unfolding renewed_over made_over
none_made p ranks step = refl

first_made : (p : Fields) (ranks step n : ℕ) (base : List Owned) (finer : List (List Owned)) → IsProblem p → 0 < ranks → suc n ≤ p.levels
    → IsLevel (area_at p 0) ranks base → AreOver p ranks 0 base finer
    → renewed_over p ranks step 0 (take n (base ∷ finer)) ≡ filter has_boxes (made_over p ranks step 0 (take n (base ∷ finer)))
first_made p ranks step zero base finer is some room h all = none_made p ranks step
first_made p ranks step (suc n) base finer is some room h all =
    let few = length-taken n finer in
    no_holes p ranks step (take n finer) 0 base is some (omega (arith, few, room)) h (taken_over p ranks n 0 base finer all)

pub no_holes_in : (p : Fields) (ranks step : ℕ) (levels : List (List Owned)) → IsProblem p → 0 < ranks → IsStacked p ranks levels
    → renewed_over p ranks step 0 (take (p.levels - 1) levels) ≡ filter has_boxes (made_over p ranks step 0 (take (p.levels - 1) levels))
no_holes_in p ranks step [] is some h = absurd h
no_holes_in p ranks step (base ∷ finer) is some h =
    let one = is.levels.above in first_made p ranks step (p.levels - 1) base finer is some (omega (arith, one)) (base_level p ranks base is some h.0) h.1
