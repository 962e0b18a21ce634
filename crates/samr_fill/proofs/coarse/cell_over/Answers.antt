use Rattle.samr_box.proofs.Ranges.{FitsVector-plus}
use Rattle.samr_fill.proofs.Numbers.{InRange-coarse}
use Rattle.samr_fill.proofs.coarse.cell_over.Goals as goal

pub plus-requires : goal.plus-requires
plus-requires c = rw c.coarsen_cell.ensures.value (FitsVector-plus (InRange-coarse c.coarsen_cell.ensures.ratio c.requires.cell) c.requires.offset)
