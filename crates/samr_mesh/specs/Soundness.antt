-- What is true of a pass, and of the levels of a mesh.
use Rattle.std.specs.Prelude.{◌≡◌, ℕ, suc, ◌-◌, ◌<◌, ◌≤◌, true, List, length, take, filter, ◌↔◌}
use Rattle.samr_box.specs.declared.vector.IVec.{IVec}
use Rattle.samr_box.specs.Corners.{Corners, IsBox}
use Rattle.samr_box.specs.Ratios.{coarse, refined}
use Rattle.samr_box.specs.Lists.{Member}
use Rattle.samr_level.specs.Refs.{Owned}
use Rattle.samr_level.specs.Levels.{IsLevel, IsNested, IsCellIn}
use Rattle.samr_level.specs.Regions.{IsCellOf}
use Rattle.samr_problem.specs.Fields.{Fields}
use Rattle.samr_problem.specs.Problems.{IsProblem}
use Rattle.samr_nest.specs.CutLevels.{IsDeep}
use Rattle.samr_mesh.specs.Domains.{level0_of, step_of, area_at, frame_area}
use Rattle.samr_mesh.specs.Grounds.{CanPass}
use Rattle.samr_mesh.specs.Meshes.{level_at, renewed_over, regridded, made_over, has_boxes, mesh_from, mesh}
use Rattle.samr_mesh.specs.Passes.{Pass, tags_in, clusters_of, cut_level, pieces_of, new_level}

-- each box is the refinement of a box of the index space below
abbrev pub AreRefined : IVec → List Owned → Type 0
AreRefined step level = (b : Owned) → Member b level → (c : Corners) × IsBox c × (b.bx ≡ refined c step)

-- a pass over a level
pub record CanRun (p : Fields) (w : Pass) : Type 0 where
  pub can : CanPass p w.number
  pub some : 0 < w.ranks
  pub is_level : IsLevel (area_at p w.number) w.ranks w.level

-- its clusters cover the tags; its new level is one, and has over the clusters exactly the cells over those that are deep in the level
pub record IsPassed (p : Fields) (w : Pass) : Type 0 where
  pub clusters : IsLevel (frame_area p w.number) w.ranks (clusters_of p w)
  pub covers : (x : IVec) → tags_in p w x ≡ true → IsCellIn (clusters_of p w) x
  pub cut : IsLevel (area_at p w.number) w.ranks (cut_level p w)
  pub pieces : IsLevel (area_at p w.number) w.ranks (pieces_of p w)
  pub is_level : IsLevel (area_at p (suc w.number)) w.ranks (new_level p w)
  pub refined : AreRefined (step_of p w.number) (new_level p w)
  pub cells : (x : IVec) → IsCellIn (new_level p w) x
      ↔ (IsCellIn (clusters_of p w) (coarse x (step_of p w.number)) × IsDeep (area_at p w.number) w.level p.nest (coarse x (step_of p w.number)))

abbrev pub PassesAreSound : Type 0
PassesAreSound = (p : Fields) (w : Pass) → CanRun p w → IsPassed p w

-- it has the cells over each tag that is deep in the level
abbrev pub TagsAreRefined : Type 0
TagsAreRefined =
    (p : Fields) (w : Pass) (x : IVec) → CanRun p w → tags_in p w (coarse x (step_of p w.number)) ≡ true
    → IsDeep (area_at p w.number) w.level p.nest (coarse x (step_of p w.number)) → IsCellIn (new_level p w) x

-- a level over the one with this number
pub record IsOver (p : Fields) (ranks l : ℕ) (below level : List Owned) : Type 0 where
  pub is_level : IsLevel (area_at p (suc l)) ranks level
  pub refined : AreRefined (step_of p l) level
  pub nested : IsNested (area_at p l) (step_of p l) p.nest level below
  pub some : (b : Owned) × Member b level

-- the new level two above a level nests in the one that is made over it
abbrev pub CoversKeepNesting : Type 0
CoversKeepNesting =
    (p : Fields) (w : Pass) (next : List Owned) → CanRun p w → CanPass p (suc w.number)
    → IsOver p w.ranks w.number w.level next → IsOver p w.ranks (suc w.number) next w.above
    → IsNested (area_at p (suc w.number)) (step_of p (suc w.number)) p.nest w.above (new_level p w)

-- and no level is lost: the one made over a level has a box where there is a new level two above that
abbrev pub NoLevelIsLost : Type 0
NoLevelIsLost =
    (p : Fields) (w : Pass) (next : List Owned) → CanRun p w → CanPass p (suc w.number)
    → IsOver p w.ranks w.number w.level next → IsOver p w.ranks (suc w.number) next w.above → (b : Owned) × Member b (new_level p w)

-- a mesh of a problem on so many ranks: level 0 is that of the problem and has all cells of the domain; each is a level of its domain; each above
-- level 0 has boxes, all of them refined ones, and nests in the one below it
pub record IsMesh (p : Fields) (ranks : ℕ) (levels : List (List Owned)) : Type 0 where
  pub some : 0 < length levels
  pub few : length levels ≤ p.levels
  pub base : level_at levels 0 ≡ level0_of p ranks
  pub whole : (x : IVec) → IsCellOf (area_at p 0) x → IsCellIn (level_at levels 0) x
  pub level : (l : ℕ) → l < length levels → IsLevel (area_at p l) ranks (level_at levels l)
  pub boxes : (l : ℕ) → suc l < length levels → (b : Owned) × Member b (level_at levels (suc l))
  pub refinements : (l : ℕ) → suc l < length levels → AreRefined (step_of p l) (level_at levels (suc l))
  pub nested : (l : ℕ) → suc l < length levels → IsNested (area_at p l) (step_of p l) p.nest (level_at levels (suc l)) (level_at levels l)

-- what a regrid makes of a mesh: level 0 stays, and each new level lies over the old level below it
pub record IsRemade (p : Fields) (olds news : List (List Owned)) : Type 0 where
  pub same : level_at news 0 ≡ level_at olds 0
  pub over : (l : ℕ) (x : IVec) → suc l < length news → IsCellIn (level_at news (suc l)) x → IsCellIn (level_at olds l) (coarse x (step_of p l))

-- a level of a mesh is one of its domain, also beyond the finest, where it has no boxes
abbrev pub MeshesHaveLevels : Type 0
MeshesHaveLevels = (p : Fields) (ranks l : ℕ) (levels : List (List Owned)) → IsMesh p ranks levels → IsLevel (area_at p l) ranks (level_at levels l)

-- from any mesh all later ones are meshes, and those of a fresh run are
abbrev pub MeshesStayMeshes : Type 0
MeshesStayMeshes =
    (p : Fields) (ranks start n : ℕ) (levels : List (List Owned)) → IsProblem p → 0 < ranks → IsMesh p ranks levels
    → IsMesh p ranks (mesh_from p ranks start levels n)

abbrev pub FreshMeshesAreMeshes : Type 0
FreshMeshesAreMeshes = (p : Fields) (ranks step : ℕ) → IsProblem p → 0 < ranks → IsMesh p ranks (mesh p ranks step)

abbrev pub RegridsLieOver : Type 0
RegridsLieOver =
    (p : Fields) (ranks step : ℕ) (levels : List (List Owned)) → IsProblem p → 0 < ranks → IsMesh p ranks levels
    → IsRemade p levels (regridded p ranks step levels)

-- of what a regrid of a mesh makes the levels that have boxes are the lowest, and none of them is left out
abbrev pub NoHoles : Type 0
NoHoles =
    (p : Fields) (ranks step : ℕ) (levels : List (List Owned)) → IsProblem p → 0 < ranks → IsMesh p ranks levels
    → renewed_over p ranks step 0 (take (p.levels - 1) levels) ≡ filter has_boxes (made_over p ranks step 0 (take (p.levels - 1) levels))
