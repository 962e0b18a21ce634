-- The law 'coarsen_rounds'.
use Rattle.samr_hierarchy.proofs.Patching.{coarsen_rounds}
use Rattle.samr_hierarchy.proofs.laws.coarsen_rounds.Goals as goal

pub returns : goal.returns
returns c = coarsen_rounds
