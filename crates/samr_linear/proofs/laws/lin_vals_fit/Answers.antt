use Rattle.samr_linear.proofs.LinValLaws.{lin_vals_fit}
use Rattle.samr_linear.proofs.laws.lin_vals_fit.Goals as goal

pub returns : goal.returns
returns c = lin_vals_fit
