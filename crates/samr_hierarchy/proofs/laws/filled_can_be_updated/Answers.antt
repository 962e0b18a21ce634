-- The law 'filled_can_be_updated'.
use Rattle.samr_hierarchy.proofs.Filled.{filled_can_be_updated}
use Rattle.samr_hierarchy.proofs.laws.filled_can_be_updated.Goals as goal

pub returns : goal.returns
returns c = filled_can_be_updated
