use Rattle.std.proofs.Common.{◌≡◌, take, sum_by}
use Rattle.samr_sched.specs.PlanRows.{capped}
use Rattle.samr_report.specs.Bounds.{weight}
use Rattle.samr_report.proofs.counting.level_weight.Given as goal

abbrev pub invariant-loop-b : goal.invariant-loop-b
invariant-loop-b l = l.total ≡ capped (sum_by (λ b. weight b) (take l.b-index l.rows.boxes))
