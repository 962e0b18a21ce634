use Rattle.std.proofs.Common.{ap, ◌∙◌}
use Rattle.std.proofs.lemmas.List.Filters.{dedup_is}
use Rattle.samr_box.specs.Orders.{corner_cmp}
use Rattle.samr_box.proofs.Totals.{corner_total, same_from_corner_cmp}
use Rattle.samr_level.specs.RefOrders.{in_order}
use Rattle.samr_level.proofs.Sorting.{settled_is}
use Rattle.samr_tags.specs.CoverRow.{needed_of}
use Rattle.samr_tags.proofs.CornerOrder.{corner_same, corner_ties}
use Rattle.samr_tags.proofs.needs.needed_of.Goals as goal

pub returns : goal.returns
unfolding needed_of
returns c =
    dedup_is corner_same _ _ c.dedup.ensures.filtered
    ∙ settled_is corner_total same_from_corner_cmp corner_same corner_ties _ _ c.sort_unstable.ensures.permutation c.sort_unstable.ensures.sorted
    ∙ ap (in_order corner_cmp) c.in_ok-all.ensures
