use Rattle.samr_rounds.proofs.Covering.{clusters_cover}
use Rattle.samr_rounds.proofs.laws.clusters_cover_tags.Goals as goal

pub returns : goal.returns
returns c = λ t rule roots x h inside e. clusters_cover t rule roots x h inside e
