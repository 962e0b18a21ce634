-- The text of `check`: level 0 alone, with its owners and its edges to itself.
use Rattle.std.specs.Prelude.{ℕ, List, [], ◌∷◌, ◌++◌, codes}
use Rattle.std.specs.List.{flat_map}
use Rattle.samr_level.specs.Refs.{Link}
use Rattle.samr_problem.specs.Fields.{Fields}
use Rattle.samr_mesh.specs.Domains.{level0_of}
use Rattle.samr_report.specs.Lines.{line}
use Rattle.samr_report.specs.LevelLines.{level_line, box_line}
use Rattle.samr_report.specs.Report.{first_line, edges_between, told_edges}

-- the edges of level 0 on so many ranks to itself
unfoldable pub edges0_of : Fields → ℕ → List Link
edges0_of p ranks = edges_between p (level0_of p ranks ∷ []) 0 0

unfoldable pub check_text : Fields → ℕ → List ℕ
check_text p ranks =
    first_line p ranks
    ++ level_line 0 (level0_of p ranks)
    ++ flat_map (λ b. box_line 0 b) (level0_of p ranks)
    ++ told_edges p (level0_of p ranks ∷ []) 0 0
    ++ line (codes "end") []
