use Rattle.std.proofs.Common.{◌≡◌, take, sum_by}
use Rattle.samr_sched.specs.PlanRows.{capped}
use Rattle.samr_report.specs.Summaries.{boxes_at}
use Rattle.samr_report.proofs.last_step.all_boxes.Given as goal

abbrev pub invariant-loop-q : goal.invariant-loop-q
invariant-loop-q l = l.total ≡ capped (sum_by (λ q. boxes_at l.fn.step q) (take l.q-index l.rows))
