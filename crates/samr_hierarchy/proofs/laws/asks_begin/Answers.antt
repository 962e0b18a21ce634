-- The law 'asks_begin'.
use Rattle.samr_hierarchy.proofs.Beginning.{asks_begin}
use Rattle.samr_hierarchy.proofs.laws.asks_begin.Goals as goal

pub returns : goal.returns
returns c = asks_begin
