use Rattle.samr_linear.proofs.ValuesFit.{linear_values_fit}
use Rattle.samr_linear.proofs.laws.linear_values_fit.Goals as goal

pub returns : goal.returns
returns c = linear_values_fit
