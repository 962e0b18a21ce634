use Rattle.std.proofs.Common.{arith, ◌∙◌}
use Rattle.samr_wholes.proofs.PassStages.{is_clustering}
use Rattle.samr_clustering.proofs.Begun.{reports_visited}
use Rattle.samr_clustering.proofs.reporting.ReportStepStepLetterBodyTurnHeardReport.visits.Goals as goal

pub returns : goal.returns
returns c = λ d w r h.
    d.reports.ensures
    ∙ reports_visited w r _ _ _ (is_clustering w.at.at.setting.problem w.at.pass h.0.0.1.can) (omega (arith, h.0.0.0.within, h.0.0.1.same_ranks)) h.0.1.same_round
    (record { same_told = d.as_slice-2.ensures ∙ h.1.same_told; same_directed = d.as_slice.ensures ∙ h.1.same_directed })
