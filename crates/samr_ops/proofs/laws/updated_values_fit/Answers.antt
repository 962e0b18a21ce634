use Rattle.samr_ops.proofs.Fitting.{updated_values_fit}
use Rattle.samr_ops.proofs.laws.updated_values_fit.Goals as goal

pub returns : goal.returns
returns c = updated_values_fit
