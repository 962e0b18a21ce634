-- The law 'values_come_from_sources'.
use Rattle.samr_hierarchy.proofs.Sourcing.{values_come_from_sources}
use Rattle.samr_hierarchy.proofs.laws.values_come_from_sources.Goals as goal

pub returns : goal.returns
returns c = values_come_from_sources
