use Rattle.std.proofs.Common.{refl, subst, sym, ◌∙◌}
use Rattle.samr_level.specs.Levels.{own_boxes}
use Rattle.samr_sign.specs.Fields.{AreTags}
use Rattle.samr_mesh.specs.Passes.{tags_in}
use Rattle.samr_msg.specs.PassStops.{clusters_at}
use Rattle.samr_clustering.proofs.reporting.ReportStepStepLetterBodyTurnHeardReport.begin.Goals as goal

pub returns-clause-plays : goal.returns-clause-plays
returns-clause-plays c = λ d w r h visits. record {
  whole = clusters_at w;
  part = d.in_ok-stage.ensures w r h.0.0 (subst (λ l. AreTags (own_boxes r w.at.pass.level) (tags_in w.at.at.setting.problem w.at.pass) l) (sym d.as_slice.ensures) h.0.1.same_tags)
      (record { same_told = d.into_vec.ensures ∙ h.1.same_told; same_directed = d.into_vec-2.ensures ∙ h.1.same_directed });
  same_ranks = refl;
  same_row = λ from to. refl;
  same_result = λ out is. is;
}
