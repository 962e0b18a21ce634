use Rattle.std.proofs.Common.{◌≡◌, take, sum_by}
use Rattle.samr_sched.specs.PlanRows.{capped}
use Rattle.samr_report.specs.Bounds.{step_weight}
use Rattle.samr_report.proofs.counting.rank_weight.Given as goal

abbrev pub invariant-loop-step : goal.invariant-loop-step
invariant-loop-step l = l.total ≡ capped (sum_by (λ step. step_weight step) (take l.step-index l.rows.steps))
