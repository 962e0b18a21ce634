use Rattle.samr_cluster.proofs.RoundLaws.{rounds_tell}
use Rattle.samr_cluster.proofs.laws.rounds_tell_the_accepted.Goals as goal

pub returns : goal.returns
returns c = rounds_tell
