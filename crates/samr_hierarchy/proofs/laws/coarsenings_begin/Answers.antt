-- The law 'coarsenings_begin'.
use Rattle.samr_hierarchy.proofs.Beginning.{coarsenings_begin}
use Rattle.samr_hierarchy.proofs.laws.coarsenings_begin.Goals as goal

pub returns : goal.returns
returns c = coarsenings_begin
