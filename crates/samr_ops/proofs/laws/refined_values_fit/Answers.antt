use Rattle.samr_ops.proofs.Fitting.{refined_values_fit}
use Rattle.samr_ops.proofs.laws.refined_values_fit.Goals as goal

pub returns : goal.returns
returns c = refined_values_fit
