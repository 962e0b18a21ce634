-- What a rank has where the overlaps are found: before the stage starts, and once it has compared its boxes.
use Rattle.std.specs.Prelude.{◌≡◌, ◌↔◌, ℕ, ◌<◌, List, length, Some, slice_get}
use Rattle.samr_box.specs.declared.vector.IVec.{IVec}
use Rattle.samr_box.specs.Corners.{Corners}
use Rattle.samr_box.specs.Space.{Space}
use Rattle.samr_box.specs.Lists.{Member}
use Rattle.samr_level.specs.Refs.{Link}
use Rattle.samr_level.specs.Levels.{own_boxes}
use Rattle.samr_peers.specs.Peers.{other_owners}
use Rattle.samr_cluster.specs.declared.accepted.Accepted.{Accepted}
use Rattle.samr_cluster.specs.Cluster.{Clustering, IsClustering}
use Rattle.samr_cluster.specs.Accepting.{near_accepted, to_owners, to_near}
use Rattle.samr_cluster.specs.EdgesRow.{with_boxes_of}

-- its boxes, and the accepted boxes whose nodes it is near, in any order
pub record HasAccepted (rank : ℕ) (frame : Space) (boxes : List Corners) (accepted : List Accepted) (width ratio : IVec) (w : Clustering) (r : ℕ) : Type 0 where
  pub is : IsClustering w
  pub same_rank : rank ≡ r
  pub within : r < w.ranks
  pub same_frame : frame ≡ w.frame
  pub same_boxes : boxes ≡ own_boxes r w.level
  pub same_accepted : (a : Accepted) → Member a accepted ↔ Member a (near_accepted w r)
  pub same_width : width ≡ w.width
  pub same_ratio : ratio ≡ w.ratio

-- the overlaps of the clusters with its boxes, whom it tells of them, and who tells it of overlaps with its clusters
pub record HasCompared (rank : ℕ) (width ratio : IVec) (edges : List Link) (addressees senders : List ℕ) (w : Clustering) (r : ℕ) : Type 0 where
  pub is : IsClustering w
  pub same_rank : rank ≡ r
  pub within : r < w.ranks
  pub same_width : width ≡ w.width
  pub same_ratio : ratio ≡ w.ratio
  pub same_edges : (e : Link) → Member e edges ↔ Member e (with_boxes_of w r)
  pub same_addressees : addressees ≡ other_owners r (to_owners w r)
  pub same_senders : senders ≡ other_owners r (to_near w r)

-- what all ranks have, in order of rank
pub record HaveAllAccepted (frame : Space) (boxes : List (List Corners)) (accepted : List (List Accepted)) (width ratio : IVec) (w : Clustering) : Type 0 where
  pub same_ranks : length boxes ≡ w.ranks
  pub part : (r : ℕ) (b : List Corners) (a : List Accepted) → slice_get boxes r ≡ Some b → slice_get accepted r ≡ Some a → HasAccepted r frame b a width ratio w r
