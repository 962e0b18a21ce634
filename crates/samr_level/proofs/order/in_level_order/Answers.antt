use Rattle.std.proofs.Common.{◌∙◌}
use Rattle.std.proofs.lemmas.List.Filters.{dedup_is}
use Rattle.samr_level.proofs.Sorting.{settled_is}
use Rattle.samr_level.proofs.RefLaws.{ref_total, same_from_ref_cmp, ref_same, ref_ties}
use Rattle.samr_level.proofs.order.in_level_order.Goals as goal

pub returns : goal.returns
returns c =
    dedup_is ref_same _ _ c.dedup.ensures.filtered
    ∙ settled_is ref_total same_from_ref_cmp ref_same ref_ties _ _ c.sort_unstable.ensures.permutation c.sort_unstable.ensures.sorted
