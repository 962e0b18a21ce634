use Rattle.samr_rounds.proofs.Open.{rounds_end}
use Rattle.samr_rounds.proofs.laws.rounds_end.Goals as goal

pub returns : goal.returns
returns c = λ t rule roots n h small. rounds_end t rule n roots h small
