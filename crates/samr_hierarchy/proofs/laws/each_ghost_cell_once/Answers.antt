-- The law 'each_ghost_cell_once'.
use Rattle.samr_hierarchy.proofs.Sounding.{each_ghost_cell_once}
use Rattle.samr_hierarchy.proofs.laws.each_ghost_cell_once.Goals as goal

pub returns : goal.returns
returns c = each_ghost_cell_once
