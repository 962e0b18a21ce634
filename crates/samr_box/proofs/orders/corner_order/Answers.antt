use Rattle.samr_box.proofs.Totals.{corner_total}
use Rattle.samr_box.proofs.orders.corner_order.Goals as goal

pub returns-clause-total : goal.returns-clause-total
returns-clause-total c = corner_total
