use Rattle.std.proofs.Common.{◌≡◌, take, sum_by}
use Rattle.samr_sched.specs.PlanRows.{capped}
use Rattle.samr_box.specs.Corners.{cells_of}
use Rattle.samr_report.proofs.last_step.level_cells.Given as goal

abbrev pub invariant-loop-b : goal.invariant-loop-b
invariant-loop-b l = l.total ≡ capped (sum_by (λ b. cells_of b.bx) (take l.b-index l.rows.boxes))
