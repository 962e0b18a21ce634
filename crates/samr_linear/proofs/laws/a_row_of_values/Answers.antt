use Rattle.samr_linear.proofs.WorkedProofs.{lin_row}
use Rattle.samr_linear.proofs.laws.a_row_of_values.Goals as goal

pub returns : goal.returns
returns c = lin_row
