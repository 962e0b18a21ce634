use Rattle.std.proofs.Common.{◌≡◌, take, map}
use Rattle.samr_sched.specs.PlanRows.{coarse_by}
use Rattle.samr_sched.proofs.rows.coarse_rows.Given as goal

abbrev pub invariant-loop-e : goal.invariant-loop-e
invariant-loop-e l = l.rows.items ≡ map (λ e. coarse_by l.below l.fn.step l.fn.field l.fn.base l.rest e) (take l.e-index l.edges)
