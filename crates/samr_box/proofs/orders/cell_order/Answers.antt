use Rattle.samr_box.proofs.Totals.{cell_total}
use Rattle.samr_box.proofs.orders.cell_order.Goals as goal

pub returns-clause-total : goal.returns-clause-total
returns-clause-total c = cell_total
