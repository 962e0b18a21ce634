-- The plans of all ranks.
use Rattle.std.specs.Prelude.{◌≡◌, ℕ, ◌<◌, ◌^◌, List, length, slice_get, Some}
use Rattle.samr_sched.specs.declared.plan.Plan.{Plan}
use Rattle.samr_sched.specs.Ask.{Scheduling, IsScheduling}
use Rattle.samr_sched.specs.Plans.{plan_of}

-- the plan of a rank
pub record IsPlan (w : Scheduling) (rank : ℕ) (plan : Plan) : Type 0 where
  pub is : IsScheduling w
  pub few : length w.ghosts < 2 ^ 8
  pub same : plan ≡ plan_of w rank

-- plans of one schedule, in order of rank
abbrev pub ArePlans : Scheduling → List Plan → Type 0
ArePlans w plans = (rank : ℕ) (plan : Plan) → slice_get plans rank ≡ Some plan → IsPlan w rank plan
