-- The law 'fills_hold'.
use Rattle.samr_hierarchy.proofs.Fills.{fills_hold}
use Rattle.samr_hierarchy.proofs.laws.fills_hold.Goals as goal

pub returns : goal.returns
returns c = fills_hold
