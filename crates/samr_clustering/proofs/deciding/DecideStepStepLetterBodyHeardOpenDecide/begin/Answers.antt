use Rattle.std.proofs.Common.{refl}
use Rattle.samr_msg.specs.PassStops.{clusters_at}
use Rattle.samr_clustering.proofs.deciding.DecideStepStepLetterBodyHeardOpenDecide.begin.Goals as goal

pub returns-clause-plays : goal.returns-clause-plays
returns-clause-plays c = λ d w r h visits. record {
  whole = clusters_at w;
  part = d.in_ok-stage.ensures w r h.0.0 h.0.1.same_rule h.1;
  same_ranks = refl;
  same_row = λ from to. refl;
  same_result = λ out is. is;
}
