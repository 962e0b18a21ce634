use Rattle.std.proofs.Common.{◌≡◌, take}
use Rattle.std.specs.Prelude.{sum_by}
use Rattle.samr_sched.specs.PlanRows.{capped, under_image}
use Rattle.samr_sched.proofs.rows.all_under.Given as goal

abbrev pub invariant-loop-p : goal.invariant-loop-p
invariant-loop-p l = l.cells ≡ capped (sum_by (λ p. under_image l.below l.fn.step l.fn.e p) (take l.p-index l.rest))
