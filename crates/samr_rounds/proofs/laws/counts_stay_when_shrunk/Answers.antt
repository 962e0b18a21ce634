use Rattle.samr_rounds.proofs.Nodes.{counts_shrunk}
use Rattle.samr_rounds.proofs.laws.counts_stay_when_shrunk.Goals as goal

pub returns : goal.returns
returns c = λ t own b h some less. counts_shrunk t own b h some less
