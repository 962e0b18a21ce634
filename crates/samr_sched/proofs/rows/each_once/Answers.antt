use Rattle.std.proofs.Common.{◌∙◌}
use Rattle.std.proofs.lemmas.List.Filters.{dedup_is}
use Rattle.samr_level.proofs.RefLaws.{edge_total, same_from_edge_cmp, edge_same, edge_ties}
use Rattle.samr_level.proofs.Sorting.{settled_is}
use Rattle.samr_sched.proofs.rows.each_once.Goals as goal

pub returns : goal.returns
returns c =
    dedup_is edge_same _ _ c.dedup.ensures.filtered
    ∙ settled_is edge_total same_from_edge_cmp edge_same edge_ties _ _ c.sort_unstable.ensures.permutation c.sort_unstable.ensures.sorted
