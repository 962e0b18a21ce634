use Rattle.std.proofs.Common.{◌≡◌, take, sum_by}
use Rattle.samr_box.specs.Corners.{cells_of}
use Rattle.samr_report.specs.RankRows.{level_told}
use Rattle.samr_report.proofs.level_text.count_cells.Given as goal

abbrev pub invariant-loop-q : goal.invariant-loop-q
invariant-loop-q l = l.total ≡ sum_by (λ q. sum_by (λ b. cells_of b.bx) (level_told l.fn.step l.fn.level q).boxes) (take l.q-index l.rows)
