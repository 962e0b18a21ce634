use Rattle.std.proofs.Common.{◌≡◌, take}
use Rattle.std.specs.List.{range_with_len}
use Rattle.samr_cluster.specs.Rounds.{asked_of}
use Rattle.samr_cluster.proofs.cluster_on_all.asked_all.Given as goal

abbrev pub invariant-loop-node : goal.invariant-loop-node
invariant-loop-node l = l.asked.items ≡ asked_of (range_with_len 0 l.ranks) (take l.node-index l.nodes)
