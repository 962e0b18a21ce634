-- The law 'each_cell_has_one_origin'.
use Rattle.samr_hierarchy.proofs.Schedules.{each_cell_has_one_origin}
use Rattle.samr_hierarchy.proofs.laws.each_cell_has_one_origin.Goals as goal

pub returns : goal.returns
returns c = each_cell_has_one_origin
