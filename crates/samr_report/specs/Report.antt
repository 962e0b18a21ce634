-- The text of the report: for each step its mesh, where one was made, and its values.
use Rattle.std.specs.Prelude.{ℕ, zero, suc, ◌+◌, ◌==◌, ◌||◌, Bool, pos, length, List, [], ◌∷◌, ◌++◌, codes, if◌then◌else◌}
use Rattle.std.specs.List.{flat_map, range_with_len}
use Rattle.samr_box.specs.Space.{is_zero}
use Rattle.samr_level.specs.Refs.{Owned, Link}
use Rattle.samr_level.specs.Overlaps.{scale, true_overlaps}
use Rattle.samr_problem.specs.Fields.{Fields}
use Rattle.samr_mesh.specs.Domains.{area_of, ratio_to}
use Rattle.samr_mesh.specs.Meshes.{level_at}
use Rattle.samr_hierarchy.specs.Hierarchies.{Hierarchy, scheduling}
use Rattle.samr_mesh.specs.Meshes.{is_due}
use Rattle.samr_hierarchy.specs.Passes.{after}
use Rattle.samr_report.specs.Lines.{part, line}
use Rattle.samr_report.specs.LevelLines.{level_line, box_line, edge_lines}
use Rattle.samr_report.specs.ScheduleLines.{row_lines}
use Rattle.samr_report.specs.ValueLines.{sum_lines, probe_lines}

-- the number of ranks, the number of levels, the width of the connectors
unfoldable pub first_line : Fields → ℕ → List ℕ
first_line p ranks =
    part (codes "samr ranks") (pos ranks ∷ [])
    ++ part (codes " levels") (pos p.levels ∷ [])
    ++ line (codes " width") (p.width.i ∷ p.width.j ∷ p.width.k ∷ [])

-- the edges from a level to a level, which are told only where the width has a number that is not 0
abbrev pub edges_between : Fields → List (List Owned) → ℕ → ℕ → List Link
edges_between p levels l m =
    true_overlaps (scale (area_of p).frame p.width (ratio_to p l) (ratio_to p m)) (level_at levels l) (level_at levels m)

unfoldable pub told_edges : Fields → List (List Owned) → ℕ → ℕ → List ℕ
told_edges p levels l m = if is_zero p.width then [] else edge_lines l m (edges_between p levels l m)

-- to the level below, if there is one; a level beyond the finest has no boxes, and gives no lines
abbrev pub edges_below : Fields → List (List Owned) → ℕ → List ℕ
edges_below p levels zero = []
edges_below p levels (suc l) = told_edges p levels (suc l) l

-- a level: its boxes, its edges to itself, to the level below and to the level above, and its schedule
unfoldable pub level_text : Fields → ℕ → List (List Owned) → ℕ → List ℕ
level_text p ranks levels l =
    level_line l (level_at levels l)
    ++ flat_map (λ b. box_line l b) (level_at levels l)
    ++ told_edges p levels l l
    ++ edges_below p levels l
    ++ told_edges p levels l (l + 1)
    ++ row_lines l (scheduling p ranks levels l)

unfoldable pub mesh_text : Fields → ℕ → List (List Owned) → List ℕ
mesh_text p ranks levels = flat_map (λ l. level_text p ranks levels l) (range_with_len 0 (length levels))

-- a mesh is told at step 0 and where a regrid is due
abbrev pub is_told : Fields → ℕ → Bool
is_told p t = (t == 0) || is_due p t

-- a step, from the hierarchy after it
unfoldable pub step_text : Fields → ℕ → ℕ → Hierarchy → List ℕ
step_text p ranks t h =
    line (codes "step") (pos t ∷ [])
    ++ (if is_told p t then mesh_text p ranks h.levels else [])
    ++ sum_lines p h
    ++ probe_lines p h

-- the whole, where the mesh after step t is `mesh t`
unfoldable pub report : Fields → ℕ → (ℕ → List (List Owned)) → List ℕ
report p ranks mesh =
    first_line p ranks
    ++ flat_map (λ t. step_text p ranks t (after p ranks mesh t)) (range_with_len 0 (p.steps + 1))
    ++ line (codes "end") []
