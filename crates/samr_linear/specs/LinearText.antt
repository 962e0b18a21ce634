-- The text of linear refinement: for each box the sum of what its ghost cells have.
use Rattle.std.specs.Prelude.{ℕ, pos, not, length, map, filter, sum, List, [], ◌∷◌, ◌++◌, codes}
use Rattle.std.specs.List.{flat_map, range_with_len}
use Rattle.samr_box.specs.Corners.{grown, holds}
use Rattle.samr_level.specs.Refs.{Owned}
use Rattle.samr_data.specs.Places.{cells_in}
use Rattle.samr_problem.specs.Fields.{Fields}
use Rattle.samr_mesh.specs.Meshes.{level_at}
use Rattle.samr_hierarchy.specs.Hierarchies.{Hierarchy, for_field}
use Rattle.samr_hierarchy.specs.Passes.{after}
use Rattle.samr_report.specs.Lines.{part, line}
use Rattle.samr_report.specs.LevelLines.{box_numbers}
use Rattle.samr_linear.specs.LinVal.{lin_val}
use Rattle.std.specs.Prelude.{slice_get}

-- the sum over the ghost cells of a box, not reduced
abbrev pub ghost_sum : Fields → ℕ → Hierarchy → ℕ → Owned → ℕ
ghost_sum p ranks h l b = for_field (slice_get p.fields 0)
    (λ f. sum (map (lin_val p ranks h l) (filter (λ x. not (holds b.bx x)) (cells_in (grown b.bx f.ghosts)))))

unfoldable pub ghost_line : Fields → ℕ → Hierarchy → ℕ → Owned → List ℕ
ghost_line p ranks h l b = part (codes "lghost") (pos l ∷ []) ++ part [] (box_numbers b) ++ line [] (pos (ghost_sum p ranks h l b) ∷ [])

unfoldable pub linear_lines : Fields → ℕ → Hierarchy → List ℕ
linear_lines p ranks h = flat_map (λ l. flat_map (λ b. ghost_line p ranks h l b) (level_at h.levels l)) (range_with_len 0 (length h.levels))

-- of the hierarchy after the last step
unfoldable pub linear_text : Fields → ℕ → (ℕ → List (List Owned)) → List ℕ
linear_text p ranks mesh =
    part (codes "linear ranks") (pos ranks ∷ [])
    ++ line (codes " levels") (pos p.levels ∷ [])
    ++ linear_lines p ranks (after p ranks mesh p.steps)
    ++ line (codes "end") []
