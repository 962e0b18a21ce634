-- The levels of a regrid, one after another.
use Rattle.std.proofs.Common.{◌≡◌, ℕ, zero, suc, ◌+◌, ◌-◌, ◌<◌, ◌≤◌, List, [], ◌∷◌, length, take, refl, sym, ap, subst, ◌∙◌, inl, inr, arith, add-one}
use Rattle.samr_level.specs.Refs.{Owned}
use Rattle.samr_level.specs.Levels.{IsLevel}
use Rattle.samr_problem.specs.Fields.{Fields}
use Rattle.samr_problem.specs.Problems.{IsProblem}
use Rattle.samr_mesh.specs.Domains.{area_at}
use Rattle.samr_mesh.specs.Meshes.{stacked, lowest, grown_over, renewed_over, stepped, mesh_from, first_mesh}
use Rattle.samr_mesh.specs.Passes.{Pass, new_level}
use Rattle.samr_mesh.specs.Soundness.{IsMesh}
use Rattle.samr_mesh.specs.Stages.{IsAbove}
use Rattle.samr_mesh.proofs.Grounding.{can_pass}
use Rattle.samr_mesh.proofs.Meshing.{renewed_are, taken_over, length-taken, base_level}
use Rattle.samr_mesh.proofs.MeshForms.{stack_of, fresh_mesh}
use Rattle.samr_mesh.proofs.Passing.{passed}
use Rattle.samr_mesh.proofs.Stacks.{AreOver, IsStacked}
use Rattle.samr_mesh_plain.specs.Making.{CanMake, AreHigher, AreFrom}
use Rattle.samr_mesh_plain.proofs.LevelFacts.{can_run}

-- upwards
pub grown_none : (p : Fields) (ranks n l : ℕ) (level : List Owned) → n ≡ 0 → grown_over p ranks n l level ≡ []
unfolding grown_over
grown_none p ranks zero l level e = refl
grown_none p ranks (suc n) l level e = absurd (omega (arith, e))

abbrev pub first_pass : ℕ → ℕ → List Owned → Pass
first_pass ranks l level = record { ranks = ranks; step = 0; number = l; level = level; above = [] }

pub grown_more : (p : Fields) (ranks n l : ℕ) (level : List Owned) → 0 < n
    → grown_over p ranks n l level ≡ stacked (new_level p (first_pass ranks l level)) (grown_over p ranks (n - 1) (l + 1) (new_level p (first_pass ranks l level)))
unfolding grown_over
grown_more p ranks zero l level some = absurd (omega (arith, some))
grown_more p ranks (suc n) l level some =
    let new = new_level p (first_pass ranks l level) in
    let e : suc n - 1 ≡ n = omega arith in
    sym (ap (λ (m : ℕ). stacked new (grown_over p ranks m (l + 1) new)) e ∙ ap (λ (k : ℕ). stacked new (grown_over p ranks n k new)) (add-one l))

pub grown_is : (p : Fields) (ranks n l : ℕ) (level new : List Owned) (above levels : List (List Owned)) → 0 < n → new ≡ new_level p (first_pass ranks l level)
    → above ≡ grown_over p ranks (n - 1) (l + 1) new → levels ≡ stacked new above → levels ≡ grown_over p ranks n l level
grown_is p ranks n l level new above levels some e f g =
    g ∙ ap (λ (v : List (List Owned)). stacked new v) f ∙ ap (λ (v : List Owned). stacked v (grown_over p ranks (n - 1) (l + 1) v)) e ∙ sym (grown_more p ranks n l level some)

pub can_grow : (p : Fields) (ranks n l : ℕ) (level : List Owned) → 0 < n → 0 < ranks → suc (l + n) ≤ p.levels → IsLevel (area_at p l) ranks level → CanMake p (first_pass ranks l level)
can_grow p ranks n l level more some room is = record { below = omega (arith, more, room); some = some; is_level = is; above = inl refl }

pub next_level : (p : Fields) (w : Pass) (level : List Owned) → IsProblem p → CanMake p w → level ≡ new_level p w → IsLevel (area_at p (w.number + 1)) w.ranks level
next_level p w level is can e =
    let here : IsLevel (area_at p (suc w.number)) w.ranks (new_level p w) = (passed p w (can_run p w is can)).is_level in
    subst (λ (v : List Owned). IsLevel (area_at p (w.number + 1)) w.ranks v) (sym e) (subst (λ (n : ℕ). IsLevel (area_at p n) w.ranks (new_level p w)) (sym (add-one w.number)) here)

-- downwards
pub renewed_none : (p : Fields) (ranks step l : ℕ) (levels : List (List Owned)) → length levels ≡ 0 → renewed_over p ranks step l levels ≡ []
unfolding renewed_over
renewed_none p ranks step l [] e = refl
renewed_none p ranks step l (level ∷ finer) e = absurd (omega (arith, e))

abbrev pub later_pass : ℕ → ℕ → ℕ → List Owned → List (List Owned) → Pass
later_pass ranks step l level above = record { ranks = ranks; step = step; number = l; level = level; above = lowest above }

one_cons : (p : Fields) (ranks step l : ℕ) (level : List Owned) (finer : List (List Owned))
    → renewed_over p ranks step l (level ∷ finer) ≡ stacked (new_level p (later_pass ranks step l level (renewed_over p ranks step (l + 1) finer))) (renewed_over p ranks step (l + 1) finer)
unfolding renewed_over
one_cons p ranks step l level finer =
    let on : ℕ → List (List Owned) = λ n. renewed_over p ranks step n finer in
    sym (ap (λ (n : ℕ). stacked (new_level p (later_pass ranks step l level (on n))) (on n)) (add-one l))

pub renewed_more : (p : Fields) (ranks step l : ℕ) (levels : List (List Owned)) (level : List Owned) (finer : List (List Owned)) → levels ≡ level ∷ finer
    → renewed_over p ranks step l levels ≡ stacked (new_level p (later_pass ranks step l level (renewed_over p ranks step (l + 1) finer))) (renewed_over p ranks step (l + 1) finer)
renewed_more p ranks step l levels level finer e =
    ap (λ (v : List (List Owned)). renewed_over p ranks step l v) e ∙ one_cons p ranks step l level finer

pub renewed_is : (p : Fields) (ranks step l : ℕ) (levels : List (List Owned)) (level : List Owned) (finer seen above : List (List Owned)) (new : List Owned) (all : List (List Owned))
    → levels ≡ level ∷ finer → seen ≡ above → above ≡ renewed_over p ranks step (l + 1) finer → new ≡ new_level p (later_pass ranks step l level seen) → all ≡ stacked new above
    → all ≡ renewed_over p ranks step l levels
renewed_is p ranks step l levels level finer seen above new all e f g h i =
    let made : new ≡ new_level p (later_pass ranks step l level above) = h ∙ ap (λ (v : List (List Owned)). new_level p (later_pass ranks step l level v)) f in
    i ∙ ap (λ (v : List Owned). stacked v above) made ∙ ap (λ (v : List (List Owned)). stacked (new_level p (later_pass ranks step l level v)) v) g
    ∙ sym (renewed_more p ranks step l levels level finer e)

pub finer_from : (p : Fields) (ranks l : ℕ) (levels : List (List Owned)) (level : List Owned) (finer : List (List Owned)) → levels ≡ level ∷ finer → AreFrom p ranks l levels → AreFrom p ranks (l + 1) finer
finer_from p ranks l levels level finer e all =
    let h : AreFrom p ranks l (level ∷ finer) = subst (λ (v : List (List Owned)). AreFrom p ranks l v) e all in
    subst (λ (n : ℕ). AreFrom p ranks n finer) (sym (add-one l)) (by finer h)
  where
    by : (finer : List (List Owned)) → AreFrom p ranks l (level ∷ finer) → AreFrom p ranks (suc l) finer
    by [] h = tt
    by (next ∷ rest) h = let few = h.2 in (h.1.0.is_level, h.1.1, omega (arith, few))

-- the form in which the laws of meshes go
higher_of : (p : Fields) (ranks l : ℕ) (below : List Owned) (levels : List (List Owned)) → AreOver p ranks l below levels → AreHigher p ranks l below levels
higher_of p ranks l below [] all = tt
higher_of p ranks l below (level ∷ finer) all = (all.0, higher_of p ranks (suc l) level finer all.1)

over_of : (p : Fields) (ranks l : ℕ) (below : List Owned) (levels : List (List Owned)) → AreHigher p ranks l below levels → AreOver p ranks l below levels
over_of p ranks l below [] all = tt
over_of p ranks l below (level ∷ finer) all = (all.0, over_of p ranks (suc l) level finer all.1)

-- what is above a level that is made anew
above_is : (p : Fields) (w : Pass) (next : List Owned) (above : List (List Owned)) → IsProblem p → suc (suc (suc w.number)) ≤ p.levels → AreOver p w.ranks (suc w.number) next above → w.above ≡ lowest above → IsAbove p w
above_is p w next [] is room all e = inl e
above_is p w next (top ∷ more) is room all e = inr (can_pass p is (suc w.number) room, subst (λ (v : List Owned). IsLevel (area_at p (suc (suc w.number))) w.ranks v) (sym e) all.0.is_level)

pub can_renew : (p : Fields) (ranks step l : ℕ) (levels : List (List Owned)) (level : List Owned) (finer above : List (List Owned)) → IsProblem p → 0 < ranks → levels ≡ level ∷ finer
    → AreFrom p ranks l levels → above ≡ renewed_over p ranks step (l + 1) finer → CanMake p (later_pass ranks step l level above)
can_renew p ranks step l levels level finer above is some e all f =
    let h : AreFrom p ranks l (level ∷ finer) = subst (λ (v : List (List Owned)). AreFrom p ranks l v) e all in
    let room = h.2 in
    let g : above ≡ renewed_over p ranks step (suc l) finer = f ∙ ap (λ (n : ℕ). renewed_over p ranks step n finer) (add-one l) in
    record { below = omega (arith, room); some = some; is_level = h.0; above = by finer h g }
  where
    by : (finer : List (List Owned)) → AreFrom p ranks l (level ∷ finer) → above ≡ renewed_over p ranks step (suc l) finer → IsAbove p (later_pass ranks step l level above)
    by [] h g = inl (ap lowest (g ∙ renewed_none p ranks step (suc l) [] refl))
    by (next ∷ rest) h g =
        let room = h.2 in
        let later = renewed_are p ranks step rest (suc l) next is some (omega (arith, room)) h.1.0.is_level (over_of p ranks (suc l) next rest h.1.1) in
        above_is p (later_pass ranks step l level above) next above is (omega (arith, room)) (subst (λ (v : List (List Owned)). AreOver p ranks (suc l) next v) (sym g) later) refl

-- the levels over which there may be finer ones
pub coarse_from : (p : Fields) (ranks n : ℕ) (levels some_levels : List (List Owned)) → IsProblem p → 0 < ranks → suc n ≤ p.levels → IsMesh p ranks levels → some_levels ≡ take n levels → AreFrom p ranks 0 some_levels
coarse_from p ranks n levels some_levels is some room mesh e = subst (λ (v : List (List Owned)). AreFrom p ranks 0 v) (sym e) (by n levels room (stack_of p ranks levels mesh))
  where
    by : (n : ℕ) (levels : List (List Owned)) → suc n ≤ p.levels → IsStacked p ranks levels → AreFrom p ranks 0 (take n levels)
    by n [] room all = absurd all
    by zero (base ∷ finer) room all = tt
    by (suc n) (base ∷ finer) room all =
        let few = length-taken n finer in
        (base_level p ranks base is some all.0, higher_of p ranks 0 base (take n finer) (taken_over p ranks n 0 base finer all.1), omega (arith, few, room))

-- a fresh run, step by step
pub run_starts : (p : Fields) (ranks : ℕ) (levels : List (List Owned)) → levels ≡ first_mesh p ranks → levels ≡ mesh_from p ranks 0 (first_mesh p ranks) 0
unfolding mesh_from
run_starts p ranks levels e = e

pub run_is : (p : Fields) (ranks n : ℕ) (levels : List (List Owned)) → IsProblem p → 0 < ranks → levels ≡ mesh_from p ranks 0 (first_mesh p ranks) n → IsMesh p ranks levels
run_is p ranks n levels is some e = subst (λ (v : List (List Owned)). IsMesh p ranks v) (sym e) (fresh_mesh p ranks n is some)

one_step : (p : Fields) (ranks n : ℕ) → mesh_from p ranks 0 (first_mesh p ranks) (suc n) ≡ stepped p ranks (0 + suc n) (mesh_from p ranks 0 (first_mesh p ranks) n)
unfolding mesh_from
one_step p ranks n = refl

pub run_goes_on : (p : Fields) (ranks n : ℕ) (levels next : List (List Owned)) → levels ≡ mesh_from p ranks 0 (first_mesh p ranks) n → next ≡ stepped p ranks (n + 1) levels → next ≡ mesh_from p ranks 0 (first_mesh p ranks) (n + 1)
run_goes_on p ranks n levels next e f =
    let number : n + 1 ≡ 0 + suc n = omega arith in
    f ∙ ap (λ (v : List (List Owned)). stepped p ranks (n + 1) v) e ∙ ap (λ (m : ℕ). stepped p ranks m (mesh_from p ranks 0 (first_mesh p ranks) n)) number
    ∙ sym (ap (λ (m : ℕ). mesh_from p ranks 0 (first_mesh p ranks) m) (add-one n) ∙ one_step p ranks n)
