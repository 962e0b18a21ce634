use Rattle.samr_ops.proofs.Fitting.{coarsened_values_fit}
use Rattle.samr_ops.proofs.laws.coarsened_values_fit.Goals as goal

pub returns : goal.returns
returns c = coarsened_values_fit
