use Rattle.samr_rounds.proofs.Open.{taken_clusters}
use Rattle.samr_rounds.proofs.laws.rounds_take_the_clusters.Goals as goal

pub returns : goal.returns
returns c = λ t rule roots c h. taken_clusters t rule roots c h
