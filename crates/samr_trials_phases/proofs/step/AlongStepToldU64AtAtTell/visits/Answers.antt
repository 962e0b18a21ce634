use Rattle.std.specs.Prelude.{ℕ, nat_lt}
use Rattle.std.proofs.Common.{ap}
use Rattle.samr_trials_phases.specs.Rows.{visits}
use Rattle.samr_trials_phases.proofs.step.AlongStepToldU64AtAtTell.visits.Goals as goal

pub returns : goal.returns
unfolding visits
returns c = λ w rank holds. ap (λ (n : ℕ). nat_lt n 2) holds.same_rank
