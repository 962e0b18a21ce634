-- The law 'ranks_do_not_matter_to_values'.
use Rattle.samr_hierarchy.proofs.Sounding.{ranks_do_not_matter_to_values}
use Rattle.samr_hierarchy.proofs.laws.ranks_do_not_matter_to_values.Goals as goal

pub returns : goal.returns
returns c = ranks_do_not_matter_to_values
