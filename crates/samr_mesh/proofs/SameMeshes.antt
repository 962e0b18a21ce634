-- The cells of a mesh are the same on any number of ranks.
use Rattle.std.proofs.Common.{ℕ, zero, suc, ◌+◌, ◌-◌, ◌<◌, ◌≤◌, Bool, true, false, cond, List, [], ◌∷◌, length, take, refl, inl, inr, arith}
use Rattle.samr_box.specs.Vector.{AtMost}
use Rattle.samr_box.specs.Lists.{Member}
use Rattle.samr_box.proofs.CellSets.{Holds-lo}
use Rattle.samr_level.specs.Refs.{Owned}
use Rattle.samr_level.specs.Levels.{IsLevel, IsCellIn}
use Rattle.samr_level.proofs.Level0Laws.{cells-level0}
use Rattle.samr_problem.specs.Fields.{Fields}
use Rattle.samr_problem.specs.Problems.{IsProblem}
use Rattle.samr_mesh.specs.Domains.{area_of, level0_of, area_at}
use Rattle.samr_mesh.specs.Meshes.{stacked, lowest, grown_over, renewed_over, regridded, is_due, stepped, mesh_from, first_mesh, mesh}
use Rattle.samr_mesh.specs.Passes.{new_level}
use Rattle.samr_mesh.specs.Soundness.{CanRun}
use Rattle.samr_mesh.specs.Stages.{IsAbove}
use Rattle.samr_mesh.proofs.Grounding.{can_pass}
use Rattle.samr_mesh.proofs.Meshing.{renewed_are, taken_over, length-taken, stays_stacked, base_is, base_level, first_is}
use Rattle.samr_mesh.proofs.Passing.{passed}
use Rattle.samr_mesh.proofs.Regions.{has_level0}
use Rattle.samr_mesh.proofs.SamePasses.{pass, same_new}
use Rattle.samr_mesh.proofs.Stacks.{AreOver, IsStacked, SameCells, AllSameCells}

-- the lowest of some levels, and levels with a new one below them
same_lowest : (xs ys : List (List Owned)) → AllSameCells xs ys → SameCells (lowest xs) (lowest ys)
same_lowest [] [] h = λ x. (λ c. c, λ c. c)
same_lowest [] (y ∷ ys) h = absurd h
same_lowest (x ∷ xs) [] h = absurd h
same_lowest (x ∷ xs) (y ∷ ys) h = h.0

nothing_in : (b : Owned) (bs : List Owned) → IsCellIn [] b.bx.lo → ⊥
nothing_in b bs (c, m, h) = absurd m

same_stacked : (new new' : List Owned) (above above' : List (List Owned)) → ((b : Owned) → Member b new → AtMost b.bx.lo b.bx.hi) → ((b : Owned) → Member b new' → AtMost b.bx.lo b.bx.hi)
    → SameCells new new' → AllSameCells above above' → AllSameCells (stacked new above) (stacked new' above')
same_stacked [] [] above above' full full' same all = tt
same_stacked [] (b ∷ bs) above above' full full' same all =
    nothing_in b bs ((same b.bx.lo).1 (b, inl refl, Holds-lo {b = b.bx} (full' b (inl refl))))
same_stacked (b ∷ bs) [] above above' full full' same all =
    nothing_in b bs ((same b.bx.lo).0 (b, inl refl, Holds-lo {b = b.bx} (full b (inl refl))))
same_stacked (b ∷ bs) (c ∷ cs) above above' full full' same all = (same, all)

-- upwards
same_grown : (p : Fields) (ranks others n l : ℕ) (level level' : List Owned) → IsProblem p → 0 < ranks → 0 < others → suc (l + n) ≤ p.levels
    → IsLevel (area_at p l) ranks level → IsLevel (area_at p l) others level' → SameCells level level'
    → AllSameCells (grown_over p ranks n l level) (grown_over p others n l level')
unfolding grown_over
same_grown p ranks others zero l level level' is some some' room h h' same = tt
same_grown p ranks others (suc n) l level level' is some some' room h h' same =
    let w = pass ranks 0 l level [] in
    let v = pass others 0 l level' [] in
    let can = can_pass p is l (omega (arith, room)) in
    let run : CanRun p w = record { can = can; some = some; is_level = h } in
    let run' : CanRun p v = record { can = can; some = some'; is_level = h' } in
    let new = (passed p w run).is_level in
    let new' = (passed p v run').is_level in
    let cells = same_new p 0 l ranks others level level' [] [] run run' same (λ x. (λ c. c, λ c. c)) (inl refl) (inl refl) in
    same_stacked (new_level p w) (new_level p v) (grown_over p ranks n (suc l) (new_level p w)) (grown_over p others n (suc l) (new_level p v))
    new.not_empty new'.not_empty cells
    (same_grown p ranks others n (suc l) (new_level p w) (new_level p v) is some some' (omega (arith, room)) new new' cells)

-- downwards
is_above : (p : Fields) (ranks step l : ℕ) (level next : List Owned) (above : List (List Owned)) → IsProblem p → suc (suc (suc l)) ≤ p.levels
    → AreOver p ranks (suc l) next above → IsAbove p (pass ranks step l level (lowest above))
is_above p ranks step l level next [] is room all = inl refl
is_above p ranks step l level next (top ∷ more) is room all = inr (can_pass p is (suc l) room, all.0.is_level)

same_renewed : (p : Fields) (ranks others step : ℕ) (finer finer' : List (List Owned)) (l : ℕ) (level level' : List Owned) → IsProblem p → 0 < ranks → 0 < others
    → suc (suc (l + length finer)) ≤ p.levels → suc (suc (l + length finer')) ≤ p.levels
    → IsLevel (area_at p l) ranks level → IsLevel (area_at p l) others level' → AreOver p ranks l level finer → AreOver p others l level' finer'
    → SameCells level level' → AllSameCells finer finer'
    → AllSameCells (renewed_over p ranks step l (level ∷ finer)) (renewed_over p others step l (level' ∷ finer'))
unfolding renewed_over
same_renewed p ranks others step [] [] l level level' is some some' room room' h h' all all' same rest =
    let w = pass ranks step l level [] in
    let v = pass others step l level' [] in
    let can = can_pass p is l (omega (arith, room)) in
    let run : CanRun p w = record { can = can; some = some; is_level = h } in
    let run' : CanRun p v = record { can = can; some = some'; is_level = h' } in
    same_stacked (new_level p w) (new_level p v) [] [] (passed p w run).is_level.not_empty (passed p v run').is_level.not_empty
    (same_new p step l ranks others level level' [] [] run run' same (λ x. (λ c. c, λ c. c)) (inl refl) (inl refl)) tt
same_renewed p ranks others step [] (next' ∷ rest') l level level' is some some' room room' h h' all all' same rest = absurd rest
same_renewed p ranks others step (next ∷ finer) [] l level level' is some some' room room' h h' all all' same rest = absurd rest
same_renewed p ranks others step (next ∷ finer) (next' ∷ finer') l level level' is some some' room room' h h' all all' same rest =
    let above = renewed_over p ranks step (suc l) (next ∷ finer) in
    let above' = renewed_over p others step (suc l) (next' ∷ finer') in
    let later = renewed_are p ranks step finer (suc l) next is some (omega (arith, room)) all.0.is_level all.1 in
    let later' = renewed_are p others step finer' (suc l) next' is some' (omega (arith, room')) all'.0.is_level all'.1 in
    let w = pass ranks step l level (lowest above) in
    let v = pass others step l level' (lowest above') in
    let can = can_pass p is l (omega (arith, room)) in
    let run : CanRun p w = record { can = can; some = some; is_level = h } in
    let run' : CanRun p v = record { can = can; some = some'; is_level = h' } in
    let upper = same_renewed p ranks others step finer finer' (suc l) next next' is some some' (omega (arith, room)) (omega (arith, room')) all.0.is_level all'.0.is_level all.1 all'.1 rest.0 rest.1 in
    same_stacked (new_level p w) (new_level p v) above above' (passed p w run).is_level.not_empty (passed p v run').is_level.not_empty
    (same_new p step l ranks others level level' (lowest above) (lowest above') run run' same (same_lowest above above' upper)
    (is_above p ranks step l level next above is (omega (arith, room)) later) (is_above p others step l level' next' above' is (omega (arith, room')) later'))
    upper

same_taken : (n : ℕ) (xs ys : List (List Owned)) → AllSameCells xs ys → AllSameCells (take n xs) (take n ys)
same_taken zero xs ys h = tt
same_taken (suc n) [] [] h = tt
same_taken (suc n) [] (y ∷ ys) h = absurd h
same_taken (suc n) (x ∷ xs) [] h = absurd h
same_taken (suc n) (x ∷ xs) (y ∷ ys) h = (h.0, same_taken n xs ys h.1)

no_news : (p : Fields) (ranks others step : ℕ) → AllSameCells (renewed_over p ranks step 0 []) (renewed_over p others step 0 [])
unfolding renewed_over
no_news p ranks others step = tt

same_news : (p : Fields) (ranks others step n : ℕ) (base base' : List Owned) (finer finer' : List (List Owned)) → IsProblem p → 0 < ranks → 0 < others → suc n ≤ p.levels
    → IsLevel (area_at p 0) ranks base → IsLevel (area_at p 0) others base' → AreOver p ranks 0 base finer → AreOver p others 0 base' finer'
    → SameCells base base' → AllSameCells finer finer'
    → AllSameCells (renewed_over p ranks step 0 (take n (base ∷ finer))) (renewed_over p others step 0 (take n (base' ∷ finer')))
same_news p ranks others step zero base base' finer finer' is some some' room h h' all all' same rest = no_news p ranks others step
same_news p ranks others step (suc n) base base' finer finer' is some some' room h h' all all' same rest =
    let few = length-taken n finer in
    let few' = length-taken n finer' in
    same_renewed p ranks others step (take n finer) (take n finer') 0 base base' is some some' (omega (arith, few, room)) (omega (arith, few', room)) h h'
    (taken_over p ranks n 0 base finer all) (taken_over p others n 0 base' finer' all') same (same_taken n finer finer' rest)

same_regridded : (p : Fields) (ranks others step : ℕ) (xs ys : List (List Owned)) → IsProblem p → 0 < ranks → 0 < others → IsStacked p ranks xs → IsStacked p others ys
    → AllSameCells xs ys → AllSameCells (regridded p ranks step xs) (regridded p others step ys)
unfolding regridded
same_regridded p ranks others step [] ys is some some' h h' all = absurd h
same_regridded p ranks others step (x ∷ xs) [] is some some' h h' all = absurd h'
same_regridded p ranks others step (x ∷ xs) (y ∷ ys) is some some' h h' all =
    let one = is.levels.above in
    (all.0, same_news p ranks others step (p.levels - 1) x y xs ys is some some' (omega (arith, one)) (base_level p ranks x is some h.0) (base_level p others y is some' h'.0) h.1 h'.1 all.0 all.1)

same_stepped : (p : Fields) (ranks others step : ℕ) (xs ys : List (List Owned)) → IsProblem p → 0 < ranks → 0 < others → IsStacked p ranks xs → IsStacked p others ys
    → AllSameCells xs ys → AllSameCells (stepped p ranks step xs) (stepped p others step ys)
same_stepped p ranks others step xs ys is some some' h h' all = by (is_due p step)
  where
    by : (t : Bool) → AllSameCells (cond t (regridded p ranks step xs) xs) (cond t (regridded p others step ys) ys)
    by true = same_regridded p ranks others step xs ys is some some' h h' all
    by false = all

pub same_later : (p : Fields) (ranks others start n : ℕ) (xs ys : List (List Owned)) → IsProblem p → 0 < ranks → 0 < others → IsStacked p ranks xs → IsStacked p others ys
    → AllSameCells xs ys → AllSameCells (mesh_from p ranks start xs n) (mesh_from p others start ys n)
unfolding mesh_from
same_later p ranks others start zero xs ys is some some' h h' all = all
same_later p ranks others start (suc n) xs ys is some some' h h' all =
    same_stepped p ranks others (start + suc n) (mesh_from p ranks start xs n) (mesh_from p others start ys n) is some some'
    (stays_stacked p ranks start n xs is some h) (stays_stacked p others start n ys is some' h') (same_later p ranks others start n xs ys is some some' h h' all)

same_first : (p : Fields) (ranks others : ℕ) → IsProblem p → 0 < ranks → 0 < others → AllSameCells (first_mesh p ranks) (first_mesh p others)
unfolding first_mesh
same_first p ranks others is some some' =
    let begun = has_level0 p is in
    let base = level0_of p ranks in
    let base' = level0_of p others in
    let one = is.levels.above in
    let room : suc (0 + (p.levels - 1)) ≤ p.levels = omega (arith, one) in
    let cells : SameCells base base' = λ x.
    let a = cells-level0 (area_of p) p.block ranks begun.area begun.blocks x in
    let b = cells-level0 (area_of p) p.block others begun.area begun.blocks x in
    (λ c. b.1 (a.0 c), λ c. a.1 (b.0 c)) in
    (cells, same_grown p ranks others (p.levels - 1) 0 base base' is some some' room (base_is p ranks is some) (base_is p others is some') cells)

pub same_fresh : (p : Fields) (ranks step : ℕ) → IsProblem p → 0 < ranks → AllSameCells (mesh p ranks step) (mesh p 1 step)
same_fresh p ranks step is some =
    same_later p ranks 1 0 step (first_mesh p ranks) (first_mesh p 1) is some (omega arith) (first_is p ranks is some) (first_is p 1 is (omega arith))
    (same_first p ranks 1 is some (omega arith))
