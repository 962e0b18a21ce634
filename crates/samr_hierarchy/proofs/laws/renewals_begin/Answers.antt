-- The law 'renewals_begin'.
use Rattle.samr_hierarchy.proofs.Beginning.{renewals_begin}
use Rattle.samr_hierarchy.proofs.laws.renewals_begin.Goals as goal

pub returns : goal.returns
returns c = renewals_begin
