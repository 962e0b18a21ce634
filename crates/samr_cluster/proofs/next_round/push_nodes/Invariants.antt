use Rattle.std.proofs.Common.{◌≡◌, ◌++◌, take}
use Rattle.samr_cluster.specs.Rounds.{from_director}
use Rattle.samr_cluster.proofs.next_round.push_nodes.Given as goal

abbrev pub invariant-loop-node : goal.invariant-loop-node
invariant-loop-node l = l.told.items ≡ l.fn.told.items ++ from_director l.director (take l.node-index l.nodes)
