use Rattle.std.proofs.Common.{arith}
use Rattle.samr_wholes.proofs.PassStages.{is_clustering}
use Rattle.samr_clustering.proofs.Begun.{report_skipped}
use Rattle.samr_clustering.proofs.reporting.ReportStepStepLetterBodyTurnHeardReport.skip.Goals as goal

pub returns-clause-after : goal.returns-clause-after
returns-clause-after c = λ d w r h silent. (
  h.0,
  report_skipped w r _ _ (is_clustering w.at.at.setting.problem w.at.pass h.0.0.1.can) (omega (arith, h.0.0.0.within, h.0.0.1.same_ranks)) silent d.new.ensures d.new-2.ensures,
  h.2,
)
