-- The text of `load`: the last step of a run in numbers.
use Rattle.std.specs.Prelude.{ℕ, zero, suc, ◌+◌, ◌%◌, pos, length, sum_by, slice_get, List, [], ◌∷◌, ◌++◌, codes, if◌then◌else◌}
use Rattle.std.specs.List.{range_with_len}
use Rattle.samr_box.specs.Corners.{cells_of}
use Rattle.samr_box.specs.Space.{is_zero}
use Rattle.samr_level.specs.Refs.{Owned}
use Rattle.samr_problem.specs.Fields.{Fields}
use Rattle.samr_mesh.specs.Meshes.{level_at}
use Rattle.samr_hierarchy.specs.Hierarchies.{Hierarchy, for_field}
use Rattle.samr_report.specs.Lines.{part, line}
use Rattle.samr_report.specs.Report.{edges_between}
use Rattle.samr_report.specs.ValueLines.{sum_at}

-- of all levels: their boxes, their cells, and their edges, which are told only where the width has a number that is not 0
abbrev pub all_boxes : List (List Owned) → ℕ
all_boxes levels = sum_by (λ l. length (level_at levels l)) (range_with_len 0 (length levels))

abbrev pub all_cells : List (List Owned) → ℕ
all_cells levels = sum_by (λ l. sum_by (λ b. cells_of b.bx) (level_at levels l)) (range_with_len 0 (length levels))

abbrev pub edges_below : Fields → List (List Owned) → ℕ → ℕ
edges_below p levels zero = 0
edges_below p levels (suc l) = length (edges_between p levels (suc l) l)

abbrev pub edges_of : Fields → List (List Owned) → ℕ → ℕ
edges_of p levels l = length (edges_between p levels l l) + edges_below p levels l + length (edges_between p levels l (l + 1))

abbrev pub all_edges : Fields → List (List Owned) → ℕ
all_edges p levels = if is_zero p.width then 0 else sum_by (λ l. edges_of p levels l) (range_with_len 0 (length levels))

-- the sum of all values of field 0, also of cells under finer ones
abbrev pub all_values : Hierarchy → ℕ
all_values h = sum_by (λ l. sum_by (λ b. sum_at h 0 l b) (level_at h.levels l)) (range_with_len 0 (length h.levels))

-- what all values are reduced by
abbrev pub first_modulus : Fields → ℕ
first_modulus p = for_field (slice_get p.fields 0) (λ f. f.modulus)

-- the three lines
unfoldable pub load_line : ℕ → ℕ → ℕ → List ℕ
load_line ranks seed size = part (codes "load ranks") (pos ranks ∷ []) ++ part (codes " seed") (pos seed ∷ []) ++ line (codes " size") (pos size ∷ [])

unfoldable pub final_line : ℕ → ℕ → ℕ → ℕ → List ℕ
final_line levels boxes cells edges =
    part (codes "final levels") (pos levels ∷ []) ++ part (codes " boxes") (pos boxes ∷ []) ++ part (codes " cells") (pos cells ∷ []) ++ line (codes " edges") (pos edges ∷ [])

unfoldable pub letters_line : ℕ → ℕ → List ℕ
letters_line letters values = part (codes "letters") (pos letters ∷ []) ++ line (codes " values") (pos values ∷ [])

-- on so many ranks, which sent so many letters, of the problem that was made with this seed and size
unfoldable pub load_text : Fields → ℕ → ℕ → ℕ → ℕ → Hierarchy → List ℕ
load_text p seed size ranks letters h =
    load_line ranks seed size ++ final_line (length h.levels) (all_boxes h.levels) (all_cells h.levels) (all_edges p h.levels)
    ++ letters_line letters (all_values h % first_modulus p)
