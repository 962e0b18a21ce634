-- The law 'steps_fit'.
use Rattle.samr_hierarchy.proofs.Fitting.{steps_fit}
use Rattle.samr_hierarchy.proofs.laws.steps_fit.Goals as goal

pub returns : goal.returns
returns c = steps_fit
