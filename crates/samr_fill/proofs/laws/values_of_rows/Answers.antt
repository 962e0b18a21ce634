use Rattle.samr_fill.proofs.WorkedProofs.{values_of_rows}
use Rattle.samr_fill.proofs.laws.values_of_rows.Goals as goal

pub returns : goal.returns
returns c = values_of_rows
