-- The text of `load` by the rows of all ranks.
use Rattle.std.specs.Prelude.{◌≡◌, ℕ, ◌+◌, ◌-◌, ◌%◌, ◌<◌, ◌^◌, nat_lt, length, map, sum_by, get_or, List, [], ◌++◌, if◌then◌else◌}
use Rattle.std.specs.List.{range_with_len}
use Rattle.samr_box.specs.Corners.{cells_of}
use Rattle.samr_box.specs.Space.{is_zero}
use Rattle.samr_level.specs.Refs.{Owned}
use Rattle.samr_problem.specs.Fields.{Fields}
use Rattle.samr_problem.specs.Problems.{IsProblem}
use Rattle.samr_hierarchy.specs.Passes.{after}
use Rattle.samr_report.specs.declared.rows.BoxSum.{BoxSum}
use Rattle.samr_report.specs.declared.rows.LevelRows.{LevelRows}
use Rattle.samr_report.specs.declared.rows.RankRows.{RankRows}
use Rattle.samr_report.specs.LoadText.{first_modulus, load_line, final_line, letters_line, load_text}
use Rattle.samr_report.specs.RankRows.{step_told, level_count}
use Rattle.samr_report.specs.Bounds.{AreRowsOf}

-- the last step at which the mesh is told
abbrev pub last_told : Fields → ℕ
last_told p = if nat_lt 1 p.levels then p.steps - p.steps % p.regrid else 0

-- what a rank tells of all levels at a step: its boxes, their cells, and their edges
abbrev pub boxes_at : ℕ → RankRows → ℕ
boxes_at t q = sum_by (λ v. length v.boxes) (step_told t q).mesh

abbrev pub cells_of_level : LevelRows → ℕ
cells_of_level v = sum_by (λ b. cells_of b.bx) v.boxes

abbrev pub cells_at : ℕ → RankRows → ℕ
cells_at t q = sum_by (λ v. cells_of_level v) (step_told t q).mesh

abbrev pub edges_of_level : LevelRows → ℕ
edges_of_level v = length v.selves + length v.downs + length v.ups

abbrev pub edges_at : ℕ → RankRows → ℕ
edges_at t q = sum_by (λ v. edges_of_level v) (step_told t q).mesh

-- the sum of its values of field 0
abbrev pub sum_of : List BoxSum → ℕ
sum_of sums = sum_by (λ s. s.sum) sums

abbrev pub values_at : ℕ → RankRows → ℕ
values_at t q = sum_by (λ sums. sum_of sums) (get_or (step_told t q).sums 0 [])

-- the edges of all ranks, if they are told
abbrev pub edges_told : Fields → List RankRows → ℕ
edges_told p rows = if is_zero p.width then 0 else sum_by (λ q. edges_at (last_told p) q) rows

unfoldable pub summary_by : Fields → ℕ → ℕ → List RankRows → List ℕ
summary_by p seed size rows =
    load_line (length rows) seed size
    ++ final_line (level_count (map (λ q. step_told p.steps q) rows)) (sum_by (λ q. boxes_at (last_told p) q) rows) (sum_by (λ q. cells_at (last_told p) q) rows) (edges_told p rows)
    ++ letters_line (sum_by (λ q. q.letters) rows) (sum_by (λ q. values_at p.steps q) rows % first_modulus p)

-- these numbers, but the last one, are below 2^63
pub record CanSum (p : Fields) (rows : List RankRows) : Type 0 where
  pub boxes : sum_by (λ q. boxes_at (last_told p) q) rows < 2 ^ 63
  pub cells : sum_by (λ q. cells_at (last_told p) q) rows < 2 ^ 63
  pub edges : sum_by (λ q. edges_at (last_told p) q) rows < 2 ^ 63
  pub letters : sum_by (λ q. q.letters) rows < 2 ^ 63

-- those of a run of an accepted problem are, where its letters are, and they give the text of `load`
abbrev pub RunsCanBeSummed : Type 0
RunsCanBeSummed =
    (p : Fields) (ranks : ℕ) (mesh : ℕ → List (List Owned)) (letters : ℕ → ℕ) (rows : List RankRows) → IsProblem p → AreRowsOf p ranks mesh letters rows
    → sum_by letters (range_with_len 0 ranks) < 2 ^ 63 → CanSum p rows

abbrev pub RowsGiveTheSummary : Type 0
RowsGiveTheSummary =
    (p : Fields) (seed size ranks : ℕ) (mesh : ℕ → List (List Owned)) (letters : ℕ → ℕ) (rows : List RankRows) → IsProblem p → AreRowsOf p ranks mesh letters rows
    → summary_by p seed size rows ≡ load_text p seed size ranks (sum_by letters (range_with_len 0 ranks)) (after p ranks mesh p.steps)
