use Rattle.std.proofs.Common.{◌∙◌, nat_eq}
use Rattle.std.proofs.lemmas.Cmp.{nat_cmp_total}
use Rattle.std.proofs.lemmas.List.Filters.{dedup_is}
use Rattle.std.specs.Cmp.{unsigned_ties}
use Rattle.samr_level.proofs.Sorting.{settled_is}
use Rattle.samr_level.proofs.RefLaws.{same_nat}
use Rattle.samr_cluster.proofs.addressees.each_once.Goals as goal

pub returns : goal.returns
returns c =
    dedup_is nat_eq _ _ c.dedup.ensures.filtered
    ∙ settled_is nat_cmp_total same_nat nat_eq unsigned_ties _ _ c.sort_unstable.ensures.permutation c.sort_unstable.ensures.sorted
