use Rattle.std.proofs.Common.{◌≡◌, take, sum_by}
use Rattle.samr_sched.specs.PlanRows.{capped}
use Rattle.samr_report.specs.Bounds.{level_weight}
use Rattle.samr_report.proofs.counting.step_weight.Given as goal

abbrev pub invariant-loop-level : goal.invariant-loop-level
invariant-loop-level l = l.total ≡ capped (sum_by (λ level. level_weight level) (take l.level-index l.rows.mesh))
