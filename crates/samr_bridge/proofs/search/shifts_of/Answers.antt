use Rattle.std.proofs.Common.{◌∙◌, ap}
use Rattle.std.proofs.lemmas.List.Filters.{dedup_is}
use Rattle.samr_box.specs.Orders.{cell_cmp}
use Rattle.samr_box.proofs.Totals.{cell_total, same_from_cell_cmp}
use Rattle.samr_level.specs.RefOrders.{in_order}
use Rattle.samr_level.proofs.Sorting.{settled_is}
use Rattle.samr_level.proofs.RefLaws.{cell_same}
use Rattle.samr_bridge.proofs.SearchLaws.{cell_ties}
use Rattle.samr_bridge.proofs.search.shifts_of.Goals as goal

pub returns : goal.returns
returns c =
    dedup_is cell_same _ _ c.dedup.ensures.filtered
    ∙ settled_is cell_total same_from_cell_cmp cell_same cell_ties _ _ c.sort_unstable.ensures.permutation c.sort_unstable.ensures.sorted
    ∙ ap (in_order cell_cmp) c.in_ok-shifts.ensures
