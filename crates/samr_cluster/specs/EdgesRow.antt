-- The letters by which the ranks find the overlaps of the level and its clusters.
use Rattle.std.specs.Prelude.{ℕ, nat_eq, List, filter, Option}
use Rattle.samr_level.specs.declared.parts.Pair.{Pair}
use Rattle.samr_level.specs.Refs.{Link}
use Rattle.samr_level.specs.Overlaps.{Scale, scale, true_overlaps, of_rank}
use Rattle.samr_level.specs.Pairs.{pair}
use Rattle.samr_peers.specs.Peers.{peer_row}
use Rattle.samr_cluster.specs.Cluster.{Clustering, clusters_of}
use Rattle.samr_cluster.specs.Accepting.{to_owners}

-- how the clusters and the boxes of the level are compared
abbrev pub cluster_scale : Clustering → Scale
cluster_scale w = scale w.frame w.width w.ratio w.ratio

-- the overlaps of all clusters with the boxes of a rank
unfoldable pub with_boxes_of : Clustering → ℕ → List Link
with_boxes_of w r = filter (λ e. nat_eq e.head.owner r) (true_overlaps (cluster_scale w) (clusters_of w) w.level)

-- a rank tells each owner of a box whose node it is near the overlaps of that owner's clusters with its boxes
unfoldable pub edges_row : Clustering → ℕ → ℕ → Option (List Link)
edges_row w = peer_row w.ranks (to_owners w) (λ from to. of_rank to (with_boxes_of w from))

-- what a rank has in the end: its overlaps of the level and the clusters, both ways
abbrev pub cluster_pair : Clustering → ℕ → Pair
cluster_pair w r = pair w.frame w.width w.ratio w.ratio w.level (clusters_of w) r
