-- The cells of the levels of a mesh do not depend on the number of ranks.
use Rattle.std.specs.Prelude.{◌≡◌, ℕ, ◌<◌, List, length, ◌↔◌}
use Rattle.samr_box.specs.declared.vector.IVec.{IVec}
use Rattle.samr_level.specs.Refs.{Owned}
use Rattle.samr_level.specs.Levels.{IsCellIn}
use Rattle.samr_problem.specs.Fields.{Fields}
use Rattle.samr_problem.specs.Problems.{IsProblem}
use Rattle.samr_mesh.specs.Meshes.{level_at, mesh_from, mesh}
use Rattle.samr_mesh.specs.Soundness.{IsMesh}

-- as many levels, each with the same cells
pub record HaveSameCells (levels others : List (List Owned)) : Type 0 where
  pub count : length levels ≡ length others
  pub cells : (l : ℕ) (x : IVec) → IsCellIn (level_at levels l) x ↔ IsCellIn (level_at others l) x

-- meshes on different ranks that have the same cells keep them, from any step on
abbrev pub CellsStayTheSame : Type 0
CellsStayTheSame =
    (p : Fields) (ranks others start n : ℕ) (xs ys : List (List Owned)) → IsProblem p → 0 < ranks → 0 < others → IsMesh p ranks xs → IsMesh p others ys
    → HaveSameCells xs ys → HaveSameCells (mesh_from p ranks start xs n) (mesh_from p others start ys n)

abbrev pub RanksDoNotMatter : Type 0
RanksDoNotMatter = (p : Fields) (ranks step : ℕ) → IsProblem p → 0 < ranks → HaveSameCells (mesh p ranks step) (mesh p 1 step)
