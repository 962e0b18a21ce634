use Rattle.std.proofs.Common.{◌≡◌, take, length, sum_by}
use Rattle.samr_sched.specs.PlanRows.{capped}
use Rattle.samr_report.proofs.last_step.mesh_boxes.Given as goal

abbrev pub invariant-loop-level : goal.invariant-loop-level
invariant-loop-level l = l.total ≡ capped (sum_by (λ level. length level.boxes) (take l.level-index l.mesh))
