-- What each rank tells of its own boxes, and the text that the rows of all ranks give.
use Rattle.std.specs.Prelude.{◌≡◌, ℕ, zero, suc, Bool, ◌+◌, ◌-◌, ◌<◌, pos, Option, Some, None, length, map, sum_by, get_or, List, [], ◌∷◌, ◌++◌, codes, if◌then◌else◌}
use Rattle.std.specs.List.{flat_map, range_with_len, enumerate_from}
use Rattle.samr_box.specs.Corners.{cells_of}
use Rattle.samr_box.specs.Space.{is_zero}
use Rattle.samr_level.specs.Refs.{Owned, Link}
use Rattle.samr_level.specs.Levels.{IsLevel, own}
use Rattle.samr_level.specs.Overlaps.{of_rank}
use Rattle.samr_sched.specs.PlanRows.{rows_of}
use Rattle.samr_values.specs.Patches.{has}
use Rattle.samr_problem.specs.Fields.{Fields}
use Rattle.samr_mesh.specs.Meshes.{level_at}
use Rattle.samr_hierarchy.specs.Hierarchies.{Hierarchy, scheduling}
use Rattle.samr_hierarchy.specs.Passes.{after}
use Rattle.samr_mesh.specs.Domains.{area_at}
use Rattle.samr_report.specs.declared.rows.BoxSum.{BoxSum}
use Rattle.samr_report.specs.declared.rows.LevelRows.{LevelRows}
use Rattle.samr_report.specs.declared.rows.StepRows.{StepRows}
use Rattle.samr_report.specs.declared.rows.RankRows.{RankRows}
use Rattle.samr_report.specs.Lines.{part, line}
use Rattle.samr_report.specs.LevelLines.{box_numbers, box_line, edge_lines}
use Rattle.samr_report.specs.ScheduleLines.{headed, row_line}
use Rattle.samr_report.specs.ValueLines.{sum_at}
use Rattle.samr_report.specs.Report.{first_line, edges_between, is_told, report}

abbrev pub no_level_rows : LevelRows
no_level_rows = record { boxes = []; selves = []; downs = []; ups = []; rows = [] }

abbrev pub no_step_rows : StepRows
no_step_rows = record { levels = 0; mesh = []; sums = []; probes = [] }

-- a rank's rows of a hierarchy
abbrev pub downs_of : Fields → List (List Owned) → ℕ → List Link
downs_of p levels zero = []
downs_of p levels (suc l) = edges_between p levels (suc l) l

unfoldable pub level_rows : Fields → ℕ → List (List Owned) → ℕ → ℕ → LevelRows
level_rows p ranks levels rank l = record {
  boxes = own rank (level_at levels l);
  selves = of_rank rank (edges_between p levels l l);
  downs = of_rank rank (downs_of p levels l);
  ups = of_rank rank (edges_between p levels l (l + 1));
  rows = rows_of (scheduling p ranks levels l) rank;
}

abbrev pub sums_of : Hierarchy → ℕ → ℕ → ℕ → List BoxSum
sums_of h rank f l = map (λ b. record { base = b; sum = sum_at h f l b }) (own rank (level_at h.levels l))

abbrev pub probed : Fields → Hierarchy → ℕ → ℕ → List (Option ℕ)
probed p h rank f =
    map (λ q. if has (own rank (level_at h.levels q.level)) q.cell then Some (h.values q.level f q.cell) else None) p.probes

unfoldable pub step_rows : Fields → ℕ → ℕ → Hierarchy → ℕ → StepRows
step_rows p ranks t h rank = record {
  levels = length h.levels;
  mesh = if is_told p t then map (λ l. level_rows p ranks h.levels rank l) (range_with_len 0 (length h.levels)) else [];
  sums = map (λ f. map (λ l. sums_of h rank f l) (range_with_len 0 (length h.levels))) (range_with_len 0 (length p.fields));
  probes = map (λ f. probed p h rank f) (range_with_len 0 (length p.fields));
}

-- the text of a level by the rows of all ranks, in order of rank; where it is silent on edges it tells none
unfoldable pub level_text_by : Bool → ℕ → List LevelRows → List ℕ
level_text_by silent l parts =
    part (codes "level") (pos l ∷ [])
    ++ part (codes " boxes") (pos (sum_by (λ q. length q.boxes) parts) ∷ [])
    ++ line (codes " cells") (pos (sum_by (λ q. sum_by (λ b. cells_of b.bx) q.boxes) parts) ∷ [])
    ++ flat_map (λ q. flat_map (λ b. box_line l b) q.boxes) parts
    ++ (if silent then [] else flat_map (λ q. edge_lines l l q.selves) parts)
    ++ (if silent then [] else flat_map (λ q. edge_lines l (l - 1) q.downs) parts)
    ++ (if silent then [] else flat_map (λ q. edge_lines l (l + 1) q.ups) parts)
    ++ flat_map (λ q. flat_map (λ row. row_line l row) q.rows) parts

-- of sums and probes: of what the ranks have at a probe the first that there is
unfoldable pub sum_line_by : ℕ → ℕ → BoxSum → List ℕ
sum_line_by f l s = headed f (codes "sum") l ++ part [] (box_numbers s.base) ++ line [] (pos s.sum ∷ [])

abbrev pub first_some : List (Option ℕ) → Option ℕ
first_some [] = None
first_some (Some v ∷ more) = Some v
first_some (None ∷ more) = first_some more

abbrev pub told_value : Option ℕ → List ℕ
told_value (Some v) = line [] (pos v ∷ [])
told_value None = line (codes " none") []

unfoldable pub probe_line_by : ℕ → ℕ → Option ℕ → List ℕ
probe_line_by f n o = headed f (codes "probe") n ++ told_value o

-- how many levels a step has
abbrev pub level_count : List StepRows → ℕ
level_count parts = (get_or parts 0 no_step_rows).levels

-- the levels from 0 up, the sums by field and level, and the probes by field
abbrev pub mesh_text_by : Fields → List StepRows → List ℕ
mesh_text_by p parts =
    flat_map (λ l. level_text_by (is_zero p.width) l (map (λ q. get_or q.mesh l no_level_rows) parts)) (range_with_len 0 (level_count parts))

abbrev pub sums_text_by : Fields → List StepRows → List ℕ
sums_text_by p parts =
    flat_map (λ f. flat_map (λ l. flat_map (λ q. flat_map (λ s. sum_line_by f l s) (get_or (get_or q.sums f []) l [])) parts) (range_with_len 0 (level_count parts)))
    (range_with_len 0 (length p.fields))

abbrev pub probes_text_by : Fields → List StepRows → List ℕ
probes_text_by p parts =
    flat_map (λ f. flat_map (λ e. probe_line_by f e.0 (first_some (map (λ q. get_or (get_or q.probes f []) e.0 None) parts))) (enumerate_from 0 p.probes))
    (range_with_len 0 (length p.fields))

unfoldable pub step_text_by : Fields → ℕ → List StepRows → List ℕ
step_text_by p t parts =
    line (codes "step") (pos t ∷ []) ++ (if is_told p t then mesh_text_by p parts else []) ++ sums_text_by p parts ++ probes_text_by p parts

-- what a rank tells of a step and of a level at it; nothing where it does not tell of it
abbrev pub step_told : ℕ → RankRows → StepRows
step_told t q = get_or q.steps t no_step_rows

abbrev pub level_told : ℕ → ℕ → RankRows → LevelRows
level_told t l q = get_or (step_told t q).mesh l no_level_rows

-- the whole text by each rank's rows of each step
unfoldable pub report_by : Fields → List RankRows → List ℕ
report_by p rows =
    first_line p (length rows)
    ++ flat_map (λ t. step_text_by p t (map (λ q. step_told t q) rows)) (range_with_len 0 (p.steps + 1))
    ++ line (codes "end") []

-- a rank's rows of a run, in which the ranks sent so many letters
abbrev pub run_rows : Fields → ℕ → (ℕ → List (List Owned)) → (ℕ → ℕ) → ℕ → RankRows
run_rows p ranks mesh letters rank = record {
  steps = map (λ t. step_rows p ranks t (after p ranks mesh t) rank) (range_with_len 0 (p.steps + 1));
  letters = letters rank;
}

-- the rows of all ranks give the report
abbrev pub RowsGiveTheReport : Type 0
RowsGiveTheReport =
    (p : Fields) (ranks : ℕ) (mesh : ℕ → List (List Owned)) (letters : ℕ → ℕ) → 0 < ranks
    → ((t l : ℕ) → IsLevel (area_at p l) ranks (level_at (after p ranks mesh t).levels l))
    → report_by p (map (λ rank. run_rows p ranks mesh letters rank) (range_with_len 0 ranks)) ≡ report p ranks mesh
