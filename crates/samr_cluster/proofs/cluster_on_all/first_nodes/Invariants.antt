use Rattle.std.proofs.Common.{◌≡◌, map}
use Rattle.std.specs.List.{range_with_len}
use Rattle.samr_cluster.specs.ClusterOnAll.{first_nodes}
use Rattle.samr_cluster.proofs.cluster_on_all.first_nodes.Given as goal

abbrev pub invariant-loop-rank : goal.invariant-loop-rank
invariant-loop-rank l = l.nodes.items ≡ map (λ r. first_nodes l.ranks l.roots r) (range_with_len 0 l.rank)
