-- Rows whose boxes and cells can be counted, and the rows of a run, which are such rows.
use Rattle.std.specs.Prelude.{◌≡◌, ℕ, ◌+◌, ◌<◌, ◌^◌, length, map, sum_by, List}
use Rattle.std.specs.List.{range_with_len}
use Rattle.samr_box.specs.Corners.{cells_of}
use Rattle.samr_level.specs.Refs.{Owned}
use Rattle.samr_problem.specs.Fields.{Fields}
use Rattle.samr_problem.specs.Problems.{IsProblem}
use Rattle.samr_hierarchy.specs.Meshes.{AreMeshes}
use Rattle.samr_report.specs.declared.rows.LevelRows.{LevelRows}
use Rattle.samr_report.specs.declared.rows.StepRows.{StepRows}
use Rattle.samr_report.specs.declared.rows.RankRows.{RankRows}
use Rattle.samr_report.specs.RankRows.{level_told, run_rows}

-- how many boxes, and how many cells, all ranks have of a level at a step
abbrev pub boxes_told : ℕ → ℕ → List RankRows → ℕ
boxes_told t l rows = sum_by (λ q. length (level_told t l q).boxes) rows

abbrev pub cells_told : ℕ → ℕ → List RankRows → ℕ
cells_told t l rows = sum_by (λ q. sum_by (λ b. cells_of b.bx) (level_told t l q).boxes) rows

-- these are below 2^63 for each level of each step
pub record AreCountable (rows : List RankRows) : Type 0 where
  pub boxes : (t l : ℕ) → boxes_told t l rows < 2 ^ 63
  pub cells : (t l : ℕ) → cells_told t l rows < 2 ^ 63

-- all boxes and cells that a rank tells of
abbrev pub weight : Owned → ℕ
weight b = cells_of b.bx + 1

abbrev pub level_weight : LevelRows → ℕ
level_weight v = sum_by (λ b. weight b) v.boxes

abbrev pub step_weight : StepRows → ℕ
step_weight s = sum_by (λ v. level_weight v) s.mesh

abbrev pub rank_weight : RankRows → ℕ
rank_weight q = sum_by (λ s. step_weight s) q.steps

-- the rows of all ranks of a run over these meshes
pub record AreRowsOf (p : Fields) (ranks : ℕ) (mesh : ℕ → List (List Owned)) (letters : ℕ → ℕ) (rows : List RankRows) : Type 0 where
  pub some : 0 < ranks
  pub meshes : AreMeshes p ranks mesh
  pub are : rows ≡ map (λ rank. run_rows p ranks mesh letters rank) (range_with_len 0 ranks)

-- those of an accepted problem are countable
abbrev pub RunsAreCountable : Type 0
RunsAreCountable =
    (p : Fields) (ranks : ℕ) (mesh : ℕ → List (List Owned)) (letters : ℕ → ℕ) (rows : List RankRows) → IsProblem p → AreRowsOf p ranks mesh letters rows
    → AreCountable rows
