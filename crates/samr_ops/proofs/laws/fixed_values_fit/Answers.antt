use Rattle.samr_ops.proofs.WalkLaws.{fixed_values_fit}
use Rattle.samr_ops.proofs.laws.fixed_values_fit.Goals as goal

pub returns : goal.returns
returns c = fixed_values_fit
