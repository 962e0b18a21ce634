use Rattle.std.proofs.Common.{◌≡◌, take}
use Rattle.std.specs.Prelude.{sum_by}
use Rattle.samr_box.specs.Corners.{cells_of}
use Rattle.samr_report.proofs.level_lines.cells_of_level.Given as goal

abbrev pub invariant-loop-b : goal.invariant-loop-b
invariant-loop-b l = l.total ≡ sum_by (λ b. cells_of b.bx) (take l.b-index l.level)
