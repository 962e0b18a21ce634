use Rattle.std.proofs.Common.{◌≡◌, take, map}
use Rattle.samr_cluster.specs.Accepting.{cluster_of}
use Rattle.samr_cluster.proofs.accepted.clusters_of.Given as goal

abbrev pub invariant-loop-a : goal.invariant-loop-a
invariant-loop-a l = l.clusters.items ≡ map (λ a. cluster_of a) (take l.a-index l.accepted)
