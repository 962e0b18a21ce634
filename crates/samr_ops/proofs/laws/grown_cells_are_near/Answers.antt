use Rattle.samr_ops.proofs.WalkLaws.{grown_cells_are_near}
use Rattle.samr_ops.proofs.laws.grown_cells_are_near.Goals as goal

pub returns : goal.returns
returns c = grown_cells_are_near
