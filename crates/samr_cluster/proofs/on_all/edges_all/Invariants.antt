use Rattle.std.proofs.Common.{◌≡◌, ℕ, length, Some, slice_get}
use Rattle.samr_cluster.specs.declared.edges.Edges.{Edges}
use Rattle.samr_cluster.specs.Cluster.{Clustering}
use Rattle.samr_cluster.specs.EdgesParts.{HaveAllAccepted, HasCompared}
use Rattle.samr_cluster.proofs.on_all.edges_all.Given as goal

abbrev pub invariant-each : goal.invariant-each
invariant-each l =
    (length l.stages.items ≡ l.rank)
    × ((w : Clustering) → HaveAllAccepted l.fn.d l.boxes l.accepted l.fn.width l.fn.to_level w → (k : ℕ) (s : Edges) → slice_get l.stages.items k ≡ Some s
    → HasCompared s.rank s.width s.ratio s.found.items s.addressees.items s.senders.items w k)
