-- What is promised of the meshes and values of a problem on so many ranks.
use Rattle.std.specs.Prelude.{◌≡◌, ℕ, suc, ◌<◌, ◌≤◌, true, length}
use Rattle.samr_box.specs.declared.vector.IVec.{IVec}
use Rattle.samr_box.specs.Ratios.{coarse}
use Rattle.samr_box.specs.Lists.{Member}
use Rattle.samr_level.specs.Levels.{IsLevel, IsNested, IsCellIn}
use Rattle.samr_problem.specs.Fields.{Fields}
use Rattle.samr_problem.specs.Problems.{IsProblem}
use Rattle.samr_nest.specs.CutLevels.{IsDeep}
use Rattle.samr_mesh.specs.Domains.{step_of, area_at}
use Rattle.samr_mesh.specs.Meshes.{level_at, mesh}
use Rattle.samr_mesh.specs.Passes.{Pass, tags_in, clusters_of, new_level}
use Rattle.samr_mesh.specs.PassLists.{passes_at}
use Rattle.samr_hierarchy.specs.Agreements.{Agree}
use Rattle.samr_hierarchy.specs.OfProblems.{hierarchy_after}
use Rattle.samr_hierarchy.specs.Sources.{IsOnce}

-- a clustering: the clusters contain the tags, and the level made there contains the refinement of each tag that is deep in the tag level
pub record IsClustered (p : Fields) (w : Pass) : Type 0 where
  pub covered : (x : IVec) → tags_in p w x ≡ true → IsCellIn (clusters_of p w) x
  pub refined : (x : IVec) → tags_in p w (coarse x (step_of p w.number)) ≡ true
      → IsDeep (area_at p w.number) w.level p.nest (coarse x (step_of p w.number)) → IsCellIn (new_level p w) x

-- after a step: every level is one of its domain; each above level 0 is nested in the next coarser one; so are the clusterings of the step;
-- every ghost cell has exactly one origin, and its source; and levels, cells and values are those of the same problem on one rank
pub record IsSoundAt (p : Fields) (ranks t : ℕ) : Type 0 where
  pub levels : (l : ℕ) → l < length (mesh p ranks t) → IsLevel (area_at p l) ranks (level_at (mesh p ranks t) l)
  pub nested : (l : ℕ) → suc l < length (mesh p ranks t)
      → IsNested (area_at p l) (step_of p l) p.nest (level_at (mesh p ranks t) (suc l)) (level_at (mesh p ranks t) l)
  pub clustered : (w : Pass) → Member w (passes_at p ranks t) → IsClustered p w
  pub mesh_is : (hierarchy_after p ranks t).levels ≡ mesh p ranks t
  pub once : IsOnce p ranks (hierarchy_after p ranks t)
  pub same : Agree (hierarchy_after p ranks t) (hierarchy_after p 1 t)

-- after every step up to the last one
abbrev pub Sound : Fields → ℕ → Type 0
Sound p ranks = (t : ℕ) → t ≤ p.steps → IsSoundAt p ranks t

-- every accepted problem on any number of ranks
abbrev pub ProblemsAreSound : Type 0
ProblemsAreSound = (p : Fields) (ranks : ℕ) → IsProblem p → 0 < ranks → Sound p ranks
