use Rattle.samr_rounds.proofs.Open.{opened_nodes}
use Rattle.samr_rounds.proofs.laws.open_nodes_are_nodes.Goals as goal

pub returns : goal.returns
returns c = λ t rule roots q h. opened_nodes t rule roots q h
