use Rattle.samr_rounds.proofs.Covering.{clusters_apart}
use Rattle.samr_rounds.proofs.laws.clusters_stay_apart.Goals as goal

pub returns : goal.returns
returns c = λ t rule roots x h. clusters_apart t rule roots x h
