-- The lines of a text on values: the sum of each box, and what stands at each probe.
use Rattle.std.specs.Prelude.{ℕ, pos, length, sum, List, [], ◌∷◌, ◌++◌, codes, if◌then◌else◌}
use Rattle.std.specs.List.{flat_map, range_with_len, enumerate_from}
use Rattle.samr_level.specs.Refs.{Owned}
use Rattle.samr_data.specs.Values.{listed}
use Rattle.samr_values.specs.Patches.{has}
use Rattle.samr_problem.specs.declared.probe.Probe.{Probe}
use Rattle.samr_problem.specs.Fields.{Fields}
use Rattle.samr_mesh.specs.Meshes.{level_at}
use Rattle.samr_hierarchy.specs.Hierarchies.{Hierarchy}
use Rattle.samr_report.specs.Lines.{part, line}
use Rattle.samr_report.specs.LevelLines.{box_numbers}
use Rattle.samr_report.specs.ScheduleLines.{headed}

-- the sum of a box's values
abbrev pub sum_at : Hierarchy → ℕ → ℕ → Owned → ℕ
sum_at h f l b = sum (listed b.bx (h.values l f))

unfoldable pub sum_line : Hierarchy → ℕ → ℕ → Owned → List ℕ
sum_line h f l b = headed f (codes "sum") l ++ part [] (box_numbers b) ++ line [] (pos (sum_at h f l b) ∷ [])

-- by field, level and level order
unfoldable pub sum_lines : Fields → Hierarchy → List ℕ
sum_lines p h =
    flat_map (λ f. flat_map (λ l. flat_map (λ b. sum_line h f l b) (level_at h.levels l)) (range_with_len 0 (length h.levels)))
    (range_with_len 0 (length p.fields))

-- the value at a probe, where its level has the cell
unfoldable pub probe_line : Hierarchy → ℕ → ℕ × Probe → List ℕ
probe_line h f q =
    headed f (codes "probe") q.0
    ++ (if has (level_at h.levels q.1.level) q.1.cell then line [] (pos (h.values q.1.level f q.1.cell) ∷ []) else line (codes " none") [])

unfoldable pub probe_lines : Fields → Hierarchy → List ℕ
probe_lines p h = flat_map (λ f. flat_map (λ q. probe_line h f q) (enumerate_from 0 p.probes)) (range_with_len 0 (length p.fields))
