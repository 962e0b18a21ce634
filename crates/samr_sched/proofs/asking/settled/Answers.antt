use Rattle.std.proofs.Common.{◌∙◌}
use Rattle.std.proofs.lemmas.List.Filters.{dedup_is}
use Rattle.samr_level.proofs.Sorting.{settled_is}
use Rattle.samr_sched.proofs.Requests.{request_total, same_from_request_cmp, request_same, request_ties}
use Rattle.samr_sched.proofs.asking.settled.Goals as goal

pub returns : goal.returns
returns c =
    dedup_is request_same _ _ c.dedup.ensures.filtered
    ∙ settled_is request_total same_from_request_cmp request_same request_ties _ _ c.sort_unstable.ensures.permutation c.sort_unstable.ensures.sorted
