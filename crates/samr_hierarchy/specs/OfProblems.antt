-- The hierarchies of each accepted problem, on any number of ranks, after each step.
use Rattle.std.specs.Prelude.{ℕ, ◌<◌}
use Rattle.samr_problem.specs.Fields.{Fields}
use Rattle.samr_problem.specs.Problems.{IsProblem}
use Rattle.samr_mesh.specs.Meshes.{mesh}
use Rattle.samr_hierarchy.specs.Hierarchies.{Hierarchy}
use Rattle.samr_hierarchy.specs.Passes.{after}
use Rattle.samr_hierarchy.specs.Meshes.{AreMeshes}
use Rattle.samr_hierarchy.specs.Laws.{IsSoundAfter}
use Rattle.samr_hierarchy.specs.Agreements.{Agree}
use Rattle.samr_hierarchy.specs.Sources.{IsOnce}

-- the hierarchy after a step
abbrev pub hierarchy_after : Fields → ℕ → ℕ → Hierarchy
hierarchy_after p ranks t = after p ranks (mesh p ranks) t

-- the mesh after each step is what the values rest on
abbrev pub ProblemsHaveMeshes : Type 0
ProblemsHaveMeshes = (p : Fields) (ranks : ℕ) → IsProblem p → 0 < ranks → AreMeshes p ranks (mesh p ranks)

-- the hierarchy after each step has its levels, and values below the moduli
abbrev pub HierarchiesAreSound : Type 0
HierarchiesAreSound = (p : Fields) (ranks t : ℕ) → IsProblem p → 0 < ranks → IsSoundAfter p ranks (mesh p ranks) t

-- each ghost cell of each of its levels has one origin and a source
abbrev pub EachGhostCellOnce : Type 0
EachGhostCellOnce = (p : Fields) (ranks t : ℕ) → IsProblem p → 0 < ranks → IsOnce p ranks (hierarchy_after p ranks t)

-- the values do not depend on the number of ranks
abbrev pub RanksDoNotMatterToValues : Type 0
RanksDoNotMatterToValues = (p : Fields) (ranks t : ℕ) → IsProblem p → 0 < ranks → Agree (hierarchy_after p ranks t) (hierarchy_after p 1 t)
