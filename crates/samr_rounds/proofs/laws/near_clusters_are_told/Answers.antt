use Rattle.samr_rounds.proofs.NearLaws.{near_accepted, accepted_cluster}
use Rattle.samr_rounds.proofs.laws.near_clusters_are_told.Goals as goal

pub returns : goal.returns
returns c = λ frame width boxes t rule roots x h. (λ m near. near_accepted frame width boxes t rule roots x h m near, λ q m. accepted_cluster frame width boxes t rule roots x h q m)
