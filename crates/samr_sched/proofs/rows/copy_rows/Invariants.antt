use Rattle.std.proofs.Common.{◌≡◌, take, map}
use Rattle.samr_sched.specs.PlanRows.{copy_by}
use Rattle.samr_sched.proofs.rows.copy_rows.Given as goal

abbrev pub invariant-loop-e : goal.invariant-loop-e
invariant-loop-e l = l.rows.items ≡ map (λ e. copy_by l.d l.fn.field l.fn.base l.fn.wide e) (take l.e-index l.copies)
