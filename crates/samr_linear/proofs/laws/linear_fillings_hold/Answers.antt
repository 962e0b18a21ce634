use Rattle.samr_linear.proofs.OfHierarchies.{linear_fillings_hold}
use Rattle.samr_linear.proofs.laws.linear_fillings_hold.Goals as goal

pub returns : goal.returns
returns c = linear_fillings_hold
