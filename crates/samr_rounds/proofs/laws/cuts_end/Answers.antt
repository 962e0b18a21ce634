use Rattle.samr_rounds.proofs.Open.{cuts_end}
use Rattle.samr_rounds.proofs.laws.cuts_end.Goals as goal

pub returns : goal.returns
returns c = λ t rule b n h less. cuts_end t rule b n h less
