use Rattle.std.proofs.Common.{◌≡◌, take, sum_by}
use Rattle.samr_sched.specs.PlanRows.{capped}
use Rattle.samr_report.proofs.last_step.all_letters.Given as goal

abbrev pub invariant-loop-q : goal.invariant-loop-q
invariant-loop-q l = l.total ≡ capped (sum_by (λ q. q.letters) (take l.q-index l.rows))
