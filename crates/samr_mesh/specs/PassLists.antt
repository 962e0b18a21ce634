-- The passes of a regrid, one after another.
use Rattle.std.specs.Prelude.{◌≡◌, ℕ, zero, suc, ◌+◌, ◌-◌, ◌<◌, ◌↔◌, List, [], ◌∷◌, map, filter, length, take, if◌then◌else◌, ◌⊎◌, true}
use Rattle.std.specs.List.{range_with_len}
use Rattle.samr_box.specs.Lists.{Member}
use Rattle.samr_level.specs.Refs.{Owned}
use Rattle.samr_load.specs.Balanced.{cells_in}
use Rattle.samr_problem.specs.Fields.{Fields}
use Rattle.samr_problem.specs.Problems.{IsProblem}
use Rattle.samr_mesh.specs.Domains.{level0_of}
use Rattle.samr_mesh.specs.Meshes.{lowest, grown_over, renewed_over, has_boxes, is_due, mesh_from, mesh}
use Rattle.samr_mesh.specs.Passes.{Pass, cut_level, new_level}
use Rattle.samr_mesh.specs.Soundness.{CanRun, IsMesh}
use Rattle.samr_mesh.specs.Stages.{IsAbove}

-- those over some old levels, of which the first has this number; they are made from the last to the first
unfoldable pub passes_over : Fields → ℕ → ℕ → ℕ → List (List Owned) → List Pass
passes_over p ranks step l [] = []
passes_over p ranks step l (level ∷ finer) =
    record { ranks = ranks; step = step; number = l; level = level; above = lowest (renewed_over p ranks step (suc l) finer) } ∷ passes_over p ranks step (suc l) finer

abbrev pub passes_of : Fields → ℕ → ℕ → List (List Owned) → List Pass
passes_of p ranks step levels = passes_over p ranks step 0 (take (p.levels - 1) levels)

-- those of step 0, at most so many, from a level on; they are made from the first to the last
abbrev pub if_boxes : List Owned → List Pass → List Pass
if_boxes [] passes = []
if_boxes (b ∷ bs) passes = passes

unfoldable pub passes_up : Fields → ℕ → ℕ → ℕ → List Owned → List Pass
passes_up p ranks zero l level = []
passes_up p ranks (suc n) l level =
    let w : Pass = record { ranks = ranks; step = 0; number = l; level = level; above = [] } in
    w ∷ if_boxes (new_level p w) (passes_up p ranks n (suc l) (new_level p w))

abbrev pub first_passes : Fields → ℕ → List Pass
first_passes p ranks = passes_up p ranks (p.levels - 1) 0 (level0_of p ranks)

-- those of a step: of the first one, of one at which a regrid is due, or none
abbrev pub passes_at : Fields → ℕ → ℕ → List Pass
passes_at p ranks zero = first_passes p ranks
passes_at p ranks (suc t) = if is_due p (suc t) then passes_of p ranks (suc t) (mesh p ranks t) else []

-- what all stages of a pass rest on
abbrev pub AllRun : Fields → List Pass → Type 0
AllRun p passes = (w : Pass) → Member w passes → CanRun p w × IsAbove p w

-- the level two above that a pass has is what the pass before it, the next of the list, has made
abbrev pub AreLinked : Fields → List Pass → Type 0
AreLinked p [] = Unit {0}
AreLinked p (w ∷ []) = w.above ≡ []
AreLinked p (w ∷ v ∷ passes) = (w.above ≡ new_level p v) × AreLinked p (v ∷ passes)

abbrev pub RegridsArePasses : Type 0
RegridsArePasses =
    (p : Fields) (ranks step : ℕ) (levels : List (List Owned)) → IsProblem p → 0 < ranks → IsMesh p ranks levels
    → AllRun p (passes_of p ranks step levels) × AreLinked p (passes_of p ranks step levels)
    × (map (λ w. w.number) (passes_of p ranks step levels) ≡ range_with_len 0 (length (take (p.levels - 1) levels)))
    × (renewed_over p ranks step 0 (take (p.levels - 1) levels) ≡ filter has_boxes (map (new_level p) (passes_of p ranks step levels)))

abbrev pub FirstRegridIsPasses : Type 0
FirstRegridIsPasses =
    (p : Fields) (ranks : ℕ) → IsProblem p → 0 < ranks → AllRun p (first_passes p ranks)
    × (grown_over p ranks (p.levels - 1) 0 (level0_of p ranks) ≡ filter has_boxes (map (new_level p) (first_passes p ranks)))

-- the passes of each step of a fresh run
abbrev pub PassesOfStepsRun : Type 0
PassesOfStepsRun = (p : Fields) (ranks step : ℕ) → IsProblem p → 0 < ranks → AllRun p (passes_at p ranks step)

-- what they make, with level 0, is the mesh of the step, where it has a regrid
abbrev pub PassesMakeTheMesh : Type 0
PassesMakeTheMesh =
    (p : Fields) (ranks step : ℕ) → IsProblem p → 0 < ranks → (step ≡ 0) ⊎ (is_due p step ≡ true)
    → mesh p ranks step ≡ level0_of p ranks ∷ filter has_boxes (map (new_level p) (passes_at p ranks step))

-- there is a new level exactly where the cut leaves cells
abbrev pub CellsTellLevels : Type 0
CellsTellLevels = (p : Fields) (w : Pass) → CanRun p w → (cells_in (cut_level p w) ≡ 0) ↔ (new_level p w ≡ [])

-- a run that goes on from the levels of one of its steps is this run
abbrev pub RunsGoOn : Type 0
RunsGoOn = (p : Fields) (ranks start n : ℕ) → mesh_from p ranks start (mesh p ranks start) n ≡ mesh p ranks (start + n)
