use Rattle.std.proofs.Common.{◌≡◌, take, sum_by}
use Rattle.std.specs.List.{flat_map}
use Rattle.samr_sign.specs.Counts.{total}
use Rattle.samr_rounds.specs.Ranks.{sum_of_signs}
use Rattle.samr_cluster.specs.ReportRow.{signed, signs_on, tags_from}
use Rattle.samr_cluster.proofs.counting.count_in.Given as goal

abbrev pub invariant-loop-h : goal.invariant-loop-h
invariant-loop-h l =
    (l.sum ≡ sum_of_signs l.node (signs_on l.node (take l.h-index l.reports)))
    × (l.sum.bx ≡ l.node)
    × (total l.sum ≡ sum_by total (signs_on l.node (take l.h-index l.reports)))
    × (l.tags.items ≡ flat_map (λ h. tags_from h.sender (signed l.node h.body)) (take l.h-index l.reports))
