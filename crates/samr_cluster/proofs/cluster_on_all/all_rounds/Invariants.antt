use Rattle.std.proofs.Common.{◌≡◌}
use Rattle.samr_cluster.specs.Cluster.{Clustering}
use Rattle.samr_cluster.specs.ClusterOnAll.{in_rounds, HaveAllTags}
use Rattle.samr_cluster.proofs.ClusterOnAllLaws.{all_nodes}
use Rattle.samr_cluster.proofs.cluster_on_all.all_rounds.Given as goal

abbrev pub invariant-each : goal.invariant-each
invariant-each l =
    (w : Clustering) → HaveAllTags l.fn.d l.fields l.roots l.fn.rule l.fn.width l.fn.to_level w
    → (l.nodes.items ≡ all_nodes w l._round) × (l.rounds.items ≡ in_rounds w l._round)
