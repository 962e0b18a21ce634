use Rattle.samr_rounds.proofs.Covering.{cluster_is}
use Rattle.samr_rounds.proofs.laws.clusters_have_tags.Goals as goal

pub returns : goal.returns
returns c = λ t rule roots c h m. cluster_is t rule roots c h m
