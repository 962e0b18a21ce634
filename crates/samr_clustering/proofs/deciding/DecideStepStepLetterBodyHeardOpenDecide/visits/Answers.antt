use Rattle.std.proofs.Common.{arith, ap, ◌∙◌}
use Rattle.samr_cluster.specs.declared.nodes.Reported.{Reported}
use Rattle.samr_wholes.proofs.PassStages.{is_clustering}
use Rattle.samr_clustering.proofs.Begun.{decisions_visited}
use Rattle.samr_clustering.proofs.deciding.DecideStepStepLetterBodyHeardOpenDecide.visits.Goals as goal

pub returns : goal.returns
returns c = λ d w r h.
    d.decides.ensures
    ∙ decisions_visited w r _ _ (is_clustering w.at.at.setting.problem w.at.pass h.0.0.1.can) (omega (arith, h.0.0.0.within, h.0.0.1.same_ranks))
    (d.as_slice.ensures ∙ ap (λ (p : Reported). p.counted) h.1) (d.as_slice-2.ensures ∙ ap (λ (p : Reported). p.near) h.1)
