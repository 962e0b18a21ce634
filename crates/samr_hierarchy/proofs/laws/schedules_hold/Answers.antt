-- The law 'schedules_hold'.
use Rattle.samr_hierarchy.proofs.Schedules.{schedules_hold}
use Rattle.samr_hierarchy.proofs.laws.schedules_hold.Goals as goal

pub returns : goal.returns
returns c = schedules_hold
