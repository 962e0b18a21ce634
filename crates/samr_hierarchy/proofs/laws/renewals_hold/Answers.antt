-- The law 'renewals_hold'.
use Rattle.samr_hierarchy.proofs.Fills.{renewals_hold}
use Rattle.samr_hierarchy.proofs.laws.renewals_hold.Goals as goal

pub returns : goal.returns
returns c = renewals_hold
