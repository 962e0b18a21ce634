use Rattle.std.proofs.Common.{◌≡◌, ℕ, length, Some, slice_get}
use Rattle.samr_sched.specs.Ask.{Scheduling}
use Rattle.samr_sched.specs.PlanRows.{rows_of}
use Rattle.samr_trials_fills.specs.Plans.{ArePlans}
use Rattle.samr_trials_fills.proofs.counting.rows_of_plans.Given as goal

abbrev pub invariant-loop-plan : goal.invariant-loop-plan
invariant-loop-plan l =
    (length l.all.items ≡ l.plan-index)
    × ((w : Scheduling) → ArePlans w l.plans → (rank : ℕ) → (out : _) → slice_get l.all.items rank ≡ Some out → out.items ≡ rows_of w rank)
