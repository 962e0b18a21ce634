use Rattle.std.proofs.Common.{arith}
use Rattle.samr_wholes.proofs.PassStages.{is_clustering}
use Rattle.samr_msg.specs.PassStops.{clusters_at}
use Rattle.samr_clustering.proofs.deciding.decide.Goals as goal

pub returns : goal.returns
returns c = λ d w r h rule reported. d.in_ok-stage.ensures (clusters_at w) r (record {
  is = is_clustering w.at.at.setting.problem w.at.pass h.1.can;
  same_rank = d.rank.ensures w.at r h;
  within = omega (arith, h.0.within, h.1.same_ranks);
  same_rule = rule;
  same_reported = reported;
})
