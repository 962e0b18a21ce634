-- The whole clustering on all ranks, round after round.
use Rattle.std.specs.Prelude.{◌≡◌, ℕ, not, nat_eq, List, ◌∷◌, length, map, filter, Some, slice_get}
use Rattle.std.specs.List.{flat_map, range_with_len}
use Rattle.samr_box.specs.declared.vector.IVec.{IVec}
use Rattle.samr_box.specs.Corners.{Corners}
use Rattle.samr_box.specs.Space.{Space}
use Rattle.samr_level.specs.Levels.{own_boxes}
use Rattle.samr_sign.specs.declared.rule.CutRule.{CutRule}
use Rattle.samr_sign.specs.Fields.{Field, AreTags}
use Rattle.samr_rounds.specs.Rounds.{directed}
use Rattle.samr_cluster.specs.declared.accepted.Accepted.{Accepted}
use Rattle.samr_cluster.specs.declared.nodes.Told.{Told}
use Rattle.samr_cluster.specs.declared.nodes.OpenNodes.{OpenNodes}
use Rattle.samr_cluster.specs.declared.nodes.Decided.{Decided}
use Rattle.samr_cluster.specs.Cluster.{Clustering, IsClustering}
use Rattle.samr_cluster.specs.Rounds.{from_director, asked_of, accepted_state}

-- the roots as a rank is told them, its own first, and those that it directs
unfoldable pub first_told : ℕ → List Corners → ℕ → List Told
first_told ranks roots r =
    flat_map (λ d. from_director d (directed ranks d roots)) (r ∷ filter (λ d. not (nat_eq d r)) (range_with_len 0 ranks))

abbrev pub first_nodes : ℕ → List Corners → ℕ → OpenNodes
first_nodes ranks roots r = record { told = first_told ranks roots r; directed = asked_of (range_with_len 0 ranks) (directed ranks r roots) }

-- the nodes that a rank has after a round
abbrev pub nodes_after : Decided → OpenNodes
nodes_after o = record { told = o.told; directed = o.directed }

-- the tags of all ranks, in order of rank, and the roots
pub record HaveAllTags (frame : Space) (fields : List (List Field)) (roots : List Corners) (rule : CutRule) (width ratio : IVec) (w : Clustering) : Type 0 where
  pub is : IsClustering w
  pub same_ranks : length fields ≡ w.ranks
  pub same_frame : frame ≡ w.frame
  pub same_tags : (r : ℕ) (f : List Field) → slice_get fields r ≡ Some f → AreTags (own_boxes r w.level) w.tags f
  pub same_roots : roots ≡ w.roots
  pub same_rule : rule ≡ w.rule
  pub same_width : width ≡ w.width
  pub same_ratio : ratio ≡ w.ratio

-- what the ranks are told in so many rounds
unfoldable pub in_rounds : Clustering → ℕ → List (List (List Accepted))
in_rounds w n = map (λ q. map (λ r. accepted_state (record { whole = w; number = q }) r) (range_with_len 0 w.ranks)) (range_with_len 0 n)
