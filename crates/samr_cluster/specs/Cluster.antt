-- A clustering as a whole: a level, the tags in it, and the roots that its ranks cut up.
use Rattle.std.specs.Prelude.{ℕ, pos, Bool, List, sum_by}
use Rattle.std.specs.List.{flat_map, range_with_len}
use Rattle.samr_box.specs.declared.vector.IVec.{IVec}
use Rattle.samr_box.specs.Vector.{alike, AtMost, IsRatio}
use Rattle.samr_box.specs.Corners.{Corners}
use Rattle.samr_box.specs.Space.{Space, finer}
use Rattle.samr_level.specs.Refs.{Owned}
use Rattle.samr_level.specs.Regions.{Area}
use Rattle.samr_level.specs.Levels.{own_boxes, IsLevel}
use Rattle.samr_sign.specs.declared.rule.CutRule.{CutRule}
use Rattle.samr_sign.specs.Laws.{depth}
use Rattle.samr_rounds.specs.Clusters.{accepted, decided}
use Rattle.samr_rounds.specs.Rounds.{opened}
use Rattle.samr_rounds.specs.Near.{is_near}
use Rattle.samr_rounds.specs.Owners.{AreTagsOf, owner_of, cluster_level}
use Rattle.samr_rounds.specs.Laws.{AreNodes}
use Rattle.samr_rounds.specs.Ranks.{near_ranks}

-- the frame is the domain of level 0, the ratio leads from there to the level, and the width is in cells of the level
pub record Clustering : Type 0 where
  pub ranks : ℕ
  pub frame : Space
  pub ratio : IVec
  pub level : List Owned
  pub width : IVec
  pub tags : IVec → Bool
  pub rule : CutRule
  pub roots : List Corners

-- the level is one of some area, it has the tags, and the roots are boxes whose cells can be counted
pub record IsClustering (w : Clustering) : Type 0 where
  pub area : Area
  pub level : IsLevel area w.ranks w.level
  pub tags : AreTagsOf w.level w.tags
  pub roots : AreNodes w.roots
  pub ratio : IsRatio w.ratio
  pub width : AtMost (alike (pos 0)) w.width

-- whether a rank is near a node, and the ranks that are
abbrev pub near : Clustering → ℕ → Corners → Bool
near w r b = is_near (finer w.frame w.ratio) w.width (own_boxes r w.level) b

abbrev pub near_to : Clustering → Corners → List ℕ
near_to w b = near_ranks (finer w.frame w.ratio) w.width w.level w.ranks b

-- what is accepted of a node, and who owns it
abbrev pub accepted_in : Clustering → Corners → List Corners
accepted_in w b = accepted (decided w.tags w.rule b)

abbrev pub owner : Clustering → Corners → ℕ
owner w c = owner_of w.tags w.level w.ranks c

-- the level that the clusters make
abbrev pub clusters_of : Clustering → List Owned
clusters_of w = cluster_level w.tags w.rule w.roots w.level w.ranks

-- all nodes that are open in some round: no round has any that is not before the depth of the roots
unfoldable pub nodes : Clustering → List Corners
nodes w = flat_map (λ q. opened w.tags w.rule w.roots q) (range_with_len 0 (sum_by depth w.roots))
