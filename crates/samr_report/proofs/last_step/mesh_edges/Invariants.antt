use Rattle.std.proofs.Common.{◌≡◌, take, sum_by}
use Rattle.samr_sched.specs.PlanRows.{capped}
use Rattle.samr_report.specs.Summaries.{edges_of_level}
use Rattle.samr_report.proofs.last_step.mesh_edges.Given as goal

abbrev pub invariant-loop-level : goal.invariant-loop-level
invariant-loop-level l = l.total ≡ capped (sum_by (λ level. edges_of_level level) (take l.level-index l.mesh))
