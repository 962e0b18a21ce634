-- What a rank has in a Report round.
use Rattle.std.specs.Prelude.{◌≡◌, ℕ, ◌<◌, ◌^◌, not, nat_eq, List, length, filter, Some, slice_get, sum_by}
use Rattle.std.specs.List.{flat_map}
use Rattle.std.specs.Ordering.{nat_cmp}
use Rattle.samr_box.specs.declared.vector.IVec.{IVec}
use Rattle.samr_box.specs.Corners.{Corners, cells_of}
use Rattle.samr_box.specs.Space.{Space}
use Rattle.samr_stage.specs.declared.stage.Held.{Held}
use Rattle.samr_level.specs.RefOrders.{in_order}
use Rattle.samr_level.specs.Levels.{own_boxes}
use Rattle.samr_sign.specs.Counts.{Sign, total}
use Rattle.samr_sign.specs.Fields.{Field, AreTags}
use Rattle.samr_cluster.specs.declared.nodes.Told.{Told}
use Rattle.samr_cluster.specs.declared.nodes.Directed.{Directed}
use Rattle.samr_cluster.specs.declared.nodes.OpenNodes.{OpenNodes}
use Rattle.samr_cluster.specs.Cluster.{IsClustering}
use Rattle.samr_cluster.specs.Rounds.{Round, near_state, told_state, directed_after}
use Rattle.samr_cluster.specs.ReportRow.{signs_of, signs_on}

-- its fields, the nodes that it was told, and those that it directs with the ranks that were told these
pub record HasTold (rank : ℕ) (frame : Space) (fields : List Field) (told : List Told) (directed : List Directed) (width ratio : IVec) (x : Round) (r : ℕ) : Type 0 where
  pub is : IsClustering x.whole
  pub same_rank : rank ≡ r
  pub within : r < x.whole.ranks
  pub same_frame : frame ≡ x.whole.frame
  pub same_tags : AreTags (own_boxes r x.whole.level) x.whole.tags fields
  pub same_told : told ≡ told_state x r
  pub same_directed : directed ≡ directed_after x.whole r x.number
  pub same_width : width ≡ x.whole.width
  pub same_ratio : ratio ≡ x.whole.ratio

-- what all ranks have, in order of rank
pub record HaveAllTold (frame : Space) (fields : List (List Field)) (nodes : List OpenNodes) (width ratio : IVec) (x : Round) : Type 0 where
  pub same_ranks : length nodes ≡ x.whole.ranks
  pub part : (r : ℕ) (f : List Field) (v : OpenNodes) → slice_get fields r ≡ Some f → slice_get nodes r ≡ Some v → HasTold r frame f v.told v.directed width ratio x r

-- the other ranks that were told some nodes
unfoldable pub others_asked : ℕ → List Directed → List ℕ
others_asked rank directed = in_order nat_cmp (flat_map (λ p. filter (λ r. not (nat_eq r rank)) p.asked) directed)

-- what a rank has once it has counted its own tags
pub record HasSigned (rank : ℕ) (near : List Told) (own : List Sign) (directed : List Directed) (senders : List ℕ) (x : Round) (r : ℕ) : Type 0 where
  pub is : IsClustering x.whole
  pub same_rank : rank ≡ r
  pub within : r < x.whole.ranks
  pub same_near : near ≡ near_state x r
  pub same_own : own ≡ signs_of x r r
  pub same_directed : directed ≡ directed_after x.whole r x.number
  pub same_senders : senders ≡ others_asked r (directed_after x.whole r x.number)

-- the tags that are reported of a node can be counted
pub record CanCount (reports : List (Held (List Sign))) (node : Corners) : Type 0 where
  pub cells : cells_of node < 2 ^ 63
  pub tags : sum_by total (signs_on node reports) < 2 ^ 63
