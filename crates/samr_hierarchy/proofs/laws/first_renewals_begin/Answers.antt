-- The law 'first_renewals_begin'.
use Rattle.samr_hierarchy.proofs.Beginning.{first_renewals_begin}
use Rattle.samr_hierarchy.proofs.laws.first_renewals_begin.Goals as goal

pub returns : goal.returns
returns c = first_renewals_begin
