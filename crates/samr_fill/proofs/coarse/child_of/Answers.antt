use Rattle.samr_fill.proofs.Numbers.{fits_first, fits_child, child_offset}
use Rattle.samr_fill.proofs.coarse.child_of.Goals as goal

pub times-requires : goal.times-requires
times-requires c = rw (c.coarsen_cell.ensures.value, c.factors.ensures.value) (fits_first c.coarsen_cell.ensures.ratio c.requires.cell)

pub minus-requires : goal.minus-requires
minus-requires c = rw (c.times.ensures, c.coarsen_cell.ensures.value, c.factors.ensures.value) (fits_child c.coarsen_cell.ensures.ratio c.requires.cell)

pub returns-clause-offset : goal.returns-clause-offset
returns-clause-offset c =
    rw (c.minus.ensures, c.times.ensures, c.coarsen_cell.ensures.value, c.factors.ensures.value) (child_offset c.args.x c.args.step c.coarsen_cell.ensures.ratio c.requires.small)
