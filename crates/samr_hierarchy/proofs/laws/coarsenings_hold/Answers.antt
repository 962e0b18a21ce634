-- The law 'coarsenings_hold'.
use Rattle.samr_hierarchy.proofs.Fills.{coarsenings_hold}
use Rattle.samr_hierarchy.proofs.laws.coarsenings_hold.Goals as goal

pub returns : goal.returns
returns c = coarsenings_hold
