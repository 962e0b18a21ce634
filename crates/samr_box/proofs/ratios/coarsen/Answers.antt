use Rattle.samr_box.proofs.CellSets.{Holds-coarsened, IsBox-coarsened}
use Rattle.samr_box.proofs.ratios.coarsen.Goals as goal

pub invariant_of-result : goal.invariant_of-result
invariant_of-result c =
    rw (c.coarsen_cell.ensures.value, c.coarsen_cell-2.ensures.value)
    (IsBox-coarsened {b = record { lo = c.b.inside.lo; hi = c.b.inside.hi }} c.coarsen_cell.ensures.ratio c.b.invariant)

pub returns-clause-cells : goal.returns-clause-cells
returns-clause-cells c =
    rw (c.coarsen_cell.ensures.value, c.coarsen_cell-2.ensures.value, ← c.b.view_is)
    (Holds-coarsened (record { lo = c.b.inside.lo; hi = c.b.inside.hi }) c.args.r c.b.invariant.order c.coarsen_cell.ensures.ratio)
