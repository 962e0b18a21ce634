use Rattle.samr_linear.proofs.OfHierarchies.{stage_gives_lin_val}
use Rattle.samr_linear.proofs.laws.stage_gives_lin_val.Goals as goal

pub returns : goal.returns
returns c = stage_gives_lin_val
