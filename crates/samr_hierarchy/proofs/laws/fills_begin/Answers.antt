-- The law 'fills_begin'.
use Rattle.samr_hierarchy.proofs.Beginning.{fills_begin}
use Rattle.samr_hierarchy.proofs.laws.fills_begin.Goals as goal

pub returns : goal.returns
returns c = fills_begin
