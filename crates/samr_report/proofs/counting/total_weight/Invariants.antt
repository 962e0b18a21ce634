use Rattle.std.proofs.Common.{◌≡◌, take, sum_by}
use Rattle.samr_sched.specs.PlanRows.{capped}
use Rattle.samr_report.specs.Bounds.{rank_weight}
use Rattle.samr_report.proofs.counting.total_weight.Given as goal

abbrev pub invariant-loop-q : goal.invariant-loop-q
invariant-loop-q l = l.total ≡ capped (sum_by (λ q. rank_weight q) (take l.q-index l.rows))
