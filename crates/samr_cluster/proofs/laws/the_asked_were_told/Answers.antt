use Rattle.samr_cluster.proofs.AskedLaws.{asked_told}
use Rattle.samr_cluster.proofs.laws.the_asked_were_told.Goals as goal

pub returns : goal.returns
returns c = asked_told
