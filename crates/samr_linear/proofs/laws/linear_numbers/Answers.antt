use Rattle.samr_linear.proofs.WorkedProofs.{linear_numbers}
use Rattle.samr_linear.proofs.laws.linear_numbers.Goals as goal

pub returns : goal.returns
returns c = linear_numbers
