-- What stands two levels above the level of a pass.
use Rattle.std.proofs.Common.{◌≡◌, ℕ, zero, suc, ◌+◌, ◌-◌, ◌<◌, ◌≤◌, ◌⊎◌, Bool, true, false, List, [], ◌∷◌, length, take, drop, reverse, refl, sym, ap, subst, ◌∙◌, inl, inr, arith, if◌then◌else◌}
use Rattle.std.proofs.lemmas.List.{reverse-append, get_or-take}
use Rattle.samr_box.proofs.Members.{Member-from_append}
use Rattle.samr_box.specs.Lists.{Member}
use Rattle.samr_level.specs.Levels.{IsLevel}
use Rattle.samr_level.specs.Refs.{Owned}
use Rattle.samr_problem.specs.Fields.{Fields}
use Rattle.samr_problem.specs.Problems.{IsProblem}
use Rattle.samr_hierarchy.specs.Passes as steps
use Rattle.samr_mesh.specs.Domains.{level0_of, area_at}
use Rattle.samr_mesh.specs.Meshes.{level_at, stacked, lowest, renewed_over, regridded, is_due, stepped, mesh_from, mesh}
use Rattle.samr_mesh.specs.PassLists.{passes_over, passes_of, if_boxes, passes_up}
use Rattle.samr_mesh.specs.Passes.{Pass, new_level}
use Rattle.samr_mesh.specs.Soundness.{CanRun}
use Rattle.samr_mesh.proofs.Grounding.{can_pass}
use Rattle.samr_mesh.proofs.Meshing.{none_lost, renewed_are, taken_over, length-taken, base_level, fresh_is_stacked}
use Rattle.samr_mesh.proofs.Stacks.{AreOver, IsStacked}
use Rattle.samr_msg.specs.Runs.{Setting}
use Rattle.samr_msg.specs.Places.{AtPass, passes_at_step}
use Rattle.samr_regrid.specs.Asking.{asked_mesh}
use Rattle.samr_regrid.specs.Standing.{IsPassOf, standing}
use Rattle.samr_regrid.specs.Above.{two_above}

-- members of a list that is turned round, and of the rest of one
pub of_reversed : {X : Type 0} (x : X) (xs : List X) → Member x (reverse xs) → Member x xs
of_reversed x [] m = absurd m
of_reversed x (y ∷ ys) m = by (of_reversed x ys) (Member-from_append x (reverse ys) (y ∷ []) (subst (Member x) (reverse-append (y ∷ []) ys) m))
  where
    by : (Member x (reverse ys) → Member x ys) → Member x (reverse ys) ⊎ Member x (y ∷ []) → Member x (y ∷ ys)
    by rest (inl k) = inr (rest k)
    by rest (inr (inl e)) = inl e
    by rest (inr (inr k)) = absurd k

pub next_is_one : {X : Type 0} (x : X) (rest xs : List X) (n : ℕ) → x ∷ rest ≡ drop n xs → Member x xs
next_is_one x rest xs zero e = subst (Member x) e (inl refl)
next_is_one x rest [] (suc n) e = subst (Member x) e (inl refl)
next_is_one x rest (y ∷ xs) (suc n) e = inr (next_is_one x rest xs n e)

-- at step 0 there is nothing above
up_above : (p : Fields) (ranks n l : ℕ) (level : List Owned) (w : Pass) → Member w (passes_up p ranks n l level) → w.above ≡ []
unfolding passes_up
up_above p ranks zero l level w m = absurd m
up_above p ranks (suc n) l level w (inl e) = ap (λ (v : Pass). v.above) e
up_above p ranks (suc n) l level w (inr m) =
    let v : Pass = record { ranks = ranks; step = 0; number = l; level = level; above = [] } in
    up_above p ranks n (suc l) (new_level p v) w (some (new_level p v) (passes_up p ranks n (suc l) (new_level p v)) m)
  where
    some : (new : List Owned) (passes : List Pass) → Member w (if_boxes new passes) → Member w passes
    some [] passes m = absurd m
    some (b ∷ bs) passes m = m

-- what is stacked over a level stands one higher
higher : (new : List Owned) (above : List (List Owned)) (k : ℕ) → above ≡ [] ⊎ (stacked new above ≡ new ∷ above) → level_at above k ≡ level_at (stacked new above) (suc k)
higher [] above k (inl none) = ap (λ (l : List (List Owned)). level_at l k) none
higher [] above k (inr more) = absurd (differ more)
  where
    differ : (let n : List (List Owned) = [] in n) ≡ [] ∷ above → ⊥
    differ e = cc
higher (b ∷ bs) above k lost = refl

lowest_is : (levels : List (List Owned)) → lowest levels ≡ level_at levels 0
lowest_is [] = refl
lowest_is (level ∷ finer) = refl

pub least : (p : Fields) (ranks step l : ℕ) (levels : List (List Owned)) (w : Pass) → Member w (passes_over p ranks step l levels) → l ≤ w.number
unfolding passes_over
least p ranks step l [] w m = absurd m
least p ranks step l (level ∷ finer) w (inl e) = let same : w.number ≡ l = ap (λ (v : Pass). v.number) e in omega (arith, same)
least p ranks step l (level ∷ finer) w (inr m) = let rest = least p ranks step (suc l) finer w m in omega (arith, rest)

-- the first of some passes, or a later one
joined : (v w : Pass) (new : List Owned) (above : List (List Owned)) (rest : List Pass) (l k : ℕ) → v.number ≡ l → v.above ≡ lowest above
    → above ≡ [] ⊎ (stacked new above ≡ new ∷ above) → w.number ≡ l + k → ((j : ℕ) → w.number ≡ suc l + j → Member w rest → w.above ≡ level_at above (suc j))
    → (Member w rest → suc l ≤ w.number) → Member w (v ∷ rest) → w.above ≡ level_at (stacked new above) (suc k)
joined v w new above rest l k here low lost at later more (inl e) =
    let same : w.number ≡ v.number = ap (λ (u : Pass). u.number) e in
    let first : 0 ≡ k = omega (arith, same, here, at) in
    ap (λ (u : Pass). u.above) e ∙ low ∙ lowest_is above ∙ ap (level_at above) first ∙ higher new above k lost
joined v w new above rest l zero here low lost at later more (inr m) = let less = more m in absurd (omega (arith, less, at))
joined v w new above rest l (suc j) here low lost at later more (inr m) = later j (omega (arith, at)) m ∙ higher new above (suc j) lost

over_above : (p : Fields) (ranks step : ℕ) (finer : List (List Owned)) (l : ℕ) (level : List Owned) (w : Pass) (k : ℕ) → IsProblem p → 0 < ranks
    → suc (suc (l + length finer)) ≤ p.levels → IsLevel (area_at p l) ranks level → AreOver p ranks l level finer
    → w.number ≡ l + k → Member w (passes_over p ranks step l (level ∷ finer)) → w.above ≡ level_at (renewed_over p ranks step l (level ∷ finer)) (suc k)
unfolding passes_over renewed_over
over_above p ranks step [] l level w k is some room h all at m =
    let v : Pass = record { ranks = ranks; step = step; number = l; level = level; above = [] } in
    joined v w (new_level p v) [] [] l k refl refl (inl refl) at (λ j e n. absurd n) (λ n. absurd n) m
over_above p ranks step (next ∷ rest) l level w k is some room h all at m =
    let above = renewed_over p ranks step (suc l) (next ∷ rest) in
    let later = renewed_are p ranks step rest (suc l) next is some (omega (arith, room)) all.0.is_level all.1 in
    let v : Pass = record { ranks = ranks; step = step; number = l; level = level; above = lowest above } in
    let run : CanRun p v = record { can = can_pass p is l (omega (arith, room)); some = some; is_level = h } in
    let lost = none_lost p v next above run (can_pass p is (suc l) (omega (arith, room))) all.0 later refl in
    joined v w (new_level p v) above (passes_over p ranks step (suc l) (next ∷ rest)) l k refl refl lost at
    (λ j e n. over_above p ranks step rest (suc l) next w j is some (omega (arith, room)) all.0.is_level all.1 e n)
    (λ n. least p ranks step (suc l) (next ∷ rest) w n) m

none_of : (p : Fields) (ranks step : ℕ) (w : Pass) → Member w (passes_over p ranks step 0 []) → ⊥
unfolding passes_over
none_of p ranks step w m = absurd m

taken_above : (p : Fields) (ranks step n : ℕ) (base : List Owned) (finer : List (List Owned)) (w : Pass) → IsProblem p → 0 < ranks → suc n ≤ p.levels
    → IsLevel (area_at p 0) ranks base → AreOver p ranks 0 base finer → Member w (passes_over p ranks step 0 (take n (base ∷ finer)))
    → w.above ≡ level_at (renewed_over p ranks step 0 (take n (base ∷ finer))) (suc w.number)
taken_above p ranks step zero base finer w is some room h all m = absurd (none_of p ranks step w m)
taken_above p ranks step (suc n) base finer w is some room h all m =
    let few = length-taken n finer in
    over_above p ranks step (take n finer) 0 base w w.number is some (omega (arith, few, room)) h (taken_over p ranks n 0 base finer all) (omega arith) m

regrid_above : (p : Fields) (ranks step : ℕ) (levels : List (List Owned)) (w : Pass) → IsProblem p → 0 < ranks → IsStacked p ranks levels
    → Member w (passes_of p ranks step levels) → w.above ≡ level_at (regridded p ranks step levels) (suc (suc w.number))
unfolding regridded
regrid_above p ranks step [] w is some h m = absurd h
regrid_above p ranks step (base ∷ finer) w is some h m =
    let one = is.levels.above in
    taken_above p ranks step (p.levels - 1) base finer w is some (omega (arith, one)) (base_level p ranks base is some h.0) h.1 m

-- a pass of a later step
later_above : (s : Setting) (t number : ℕ) (w : Pass) (later : List Pass) → IsProblem s.problem → 0 < s.ranks → w ∷ later ≡ drop number (passes_at_step s (suc t))
    → w.above ≡ level_at (mesh s.problem s.ranks (suc t)) (w.number + 2)
unfolding mesh_from
later_above s t number w later is some next = by (is_due s.problem (suc t)) refl
  where
    old : List (List Owned)
    old = mesh s.problem s.ranks t

    by : (u : Bool) → is_due s.problem (suc t) ≡ u → w.above ≡ level_at (mesh s.problem s.ranks (suc t)) (w.number + 2)
    by true due =
        let listed = next_is_one w later _ number next in
        let turned = subst (λ u. Member w (if u then reverse (passes_of s.problem s.ranks (suc t) old) else [])) due listed in
        let m = of_reversed w (passes_of s.problem s.ranks (suc t) old) turned in
        let e : suc t ≡ 0 + suc t = omega arith in
        let two : suc (suc w.number) ≡ w.number + 2 = omega arith in
        regrid_above s.problem s.ranks (suc t) old w is some (fresh_is_stacked s.problem s.ranks t is some) m
        ∙ ap (λ (u : Bool). level_at (if u then regridded s.problem s.ranks (suc t) old else old) (suc (suc w.number))) (sym due)
        ∙ ap (λ (n : ℕ). level_at (stepped s.problem s.ranks n old) (suc (suc w.number))) e
        ∙ ap (level_at (mesh s.problem s.ranks (suc t))) two
    by false due =
        let listed = next_is_one w later _ number next in
        let none = subst (λ u. Member w (if u then reverse (passes_of s.problem s.ranks (suc t) old) else [])) due listed in
        absurd none

first_above : (s : Setting) (number : ℕ) (w : Pass) (later : List Pass) → w ∷ later ≡ drop number (passes_at_step s 0) → w.above ≡ []
first_above s number w later next = up_above s.problem s.ranks (s.problem.levels - 1) 0 (level0_of s.problem s.ranks) w (next_is_one w later _ number next)

above_by : (s : Setting) (step number : ℕ) (w : Pass) (later : List Pass) → IsProblem s.problem → 0 < s.ranks → w ∷ later ≡ drop number (passes_at_step s step)
    → w.above ≡ two_above (record { at = record { setting = s; step = step }; number = number; pass = w; later = later })
above_by s zero number w later is some next = first_above s number w later next
above_by s (suc t) number w later is some next = later_above s t number w later is some next

-- in every pass of a step the level two above is the one of the mesh of the step, or none at step 0
pub is_two_above : (w : AtPass) → IsProblem w.at.setting.problem → IsPassOf w → w.pass.above ≡ two_above w
is_two_above w is h =
    let some : 0 < w.at.setting.ranks = subst (λ n. 0 < n) h.same_ranks h.can.some in
    above_by w.at.setting w.at.step w.number w.pass w.later is some h.next

-- the levels that a rank may be asked of are those with which the pass stands
pub levels_after : (p : Fields) (ranks t : ℕ) (meshes : ℕ → List (List Owned)) → (steps.after p ranks meshes t).levels ≡ meshes t
levels_after p ranks zero meshes = refl
levels_after p ranks (suc t) meshes = refl

pub level_of_taken : (levels : List (List Owned)) (n l : ℕ) → l < length (take n levels) → level_at (take n levels) l ≡ level_at levels l
level_of_taken levels n l below = let most = length-taken n levels in get_or-take n levels l [] (omega (arith, below, most))

asked_by : (s : Setting) (step number l : ℕ) → l < length (standing (record { setting = s; step = step }) number).levels
    → level_at (asked_mesh s step) l ≡ level_at (standing (record { setting = s; step = step }) number).levels l
asked_by s zero number l below = sym (level_of_taken (mesh s.problem s.ranks 0) (number + 1) l below)
asked_by s (suc t) number l below =
    let meshes : ℕ → List (List Owned) = λ u. mesh s.problem s.ranks u in
    let back : t ≡ suc t - 1 = omega arith in
    ap (λ (levels : List (List Owned)). level_at levels l) (sym (levels_after s.problem s.ranks t meshes))
    ∙ ap (λ u. level_at (steps.after s.problem s.ranks meshes u).levels l) back

pub asked_level : (w : AtPass) → IsPassOf w → level_at (asked_mesh w.at.setting w.at.step) w.pass.number ≡ w.pass.level
asked_level w h = asked_by w.at.setting w.at.step w.number w.pass.number h.is_old ∙ h.same_level
