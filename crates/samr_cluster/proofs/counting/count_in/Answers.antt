use Rattle.std.proofs.Common.{ap, sum_by}
use Rattle.samr_sign.specs.Counts.{total}
use Rattle.samr_cluster.specs.ReportRow.{signed}
use Rattle.samr_cluster.proofs.CountLaws.{next_sum_fits}
use Rattle.samr_cluster.proofs.counting.count_in.Goals as goal

pub add_report-requires-clause-few : goal.add_report-requires-clause-few
add_report-requires-clause-few c =
    next_sum_fits total (λ h. signed c.args.node h.body) c.args.reports.now c.loop-h.h-index c.h-item.result (total c.loop-h.sum) _ c.loop-h-test.true c.h-item.is c.loop-h.invariant.2
    (ap (λ l. sum_by total (signed c.args.node l)) c.as_slice.ensures) c.requires.tags
