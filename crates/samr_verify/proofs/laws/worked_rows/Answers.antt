use Rattle.samr_verify.proofs.WorkedProofs.{worked_faults}
use Rattle.samr_verify.proofs.laws.worked_rows.Goals as goal

pub returns : goal.returns
returns c = worked_faults
