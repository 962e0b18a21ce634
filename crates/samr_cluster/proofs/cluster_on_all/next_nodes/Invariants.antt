use Rattle.std.proofs.Common.{◌≡◌, map}
use Rattle.samr_cluster.specs.ClusterOnAll.{nodes_after}
use Rattle.samr_cluster.proofs.cluster_on_all.next_nodes.Given as goal

abbrev pub invariant-loop-o : goal.invariant-loop-o
invariant-loop-o l = (l.nodes.items ≡ map (λ o. nodes_after o) l.yielded) × (l.accepted.items ≡ map (λ o. o.accepted) l.yielded)
