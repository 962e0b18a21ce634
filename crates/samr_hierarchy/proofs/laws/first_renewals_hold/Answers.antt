-- The law 'first_renewals_hold'.
use Rattle.samr_hierarchy.proofs.Fitting.{first_renewals_hold}
use Rattle.samr_hierarchy.proofs.laws.first_renewals_hold.Goals as goal

pub returns : goal.returns
returns c = first_renewals_hold
