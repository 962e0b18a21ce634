-- What is true of the clusters and of the rounds.
use Rattle.std.specs.Prelude.{◌≡◌, ◌↔◌, ℕ, ◌<◌, ◌≤◌, ◌^◌, Bool, true, IsTrue, List, []}
use Rattle.samr_box.specs.declared.vector.IVec.{IVec}
use Rattle.samr_box.specs.Corners.{Corners, IsBox, cells_of}
use Rattle.samr_box.specs.Lists.{Member}
use Rattle.samr_boxlist.specs.Covers.{cover, held}
use Rattle.samr_sign.specs.declared.rule.CutRule.{CutRule}
use Rattle.samr_sign.specs.Counts.{tally}
use Rattle.samr_sign.specs.Laws.{depth}
use Rattle.samr_rounds.specs.Clusters.{cut_up, clusters_in, clusters}
use Rattle.samr_rounds.specs.Rounds.{opened, taken, directed}

-- a box of which the cells can be counted
pub record IsNode (b : Corners) : Type 0 where
  pub whole : IsBox b
  pub few : cells_of b < 2 ^ 63

abbrev pub AreNodes : List Corners → Type 0
AreNodes list = (b : Corners) → Member b list → IsNode b

-- each tag of a root lies in a cluster
abbrev pub ClustersCoverTags : Type 0
ClustersCoverTags = (t : IVec → Bool) (rule : CutRule) (roots : List Corners) (x : IVec) → AreNodes roots → IsTrue (held x roots) → t x ≡ true → IsTrue (held x (clusters t rule roots))

-- a cell lies in at most as many clusters as roots: so in none outside the roots, and in one at most where these are disjoint
abbrev pub ClustersStayApart : Type 0
ClustersStayApart = (t : IVec → Bool) (rule : CutRule) (roots : List Corners) (x : IVec) → AreNodes roots → cover x (clusters t rule roots) ≤ cover x roots

abbrev pub ClustersHaveTags : Type 0
ClustersHaveTags = (t : IVec → Bool) (rule : CutRule) (roots : List Corners) (c : Corners) → AreNodes roots → Member c (clusters t rule roots) → IsNode c × (0 < tally t c)

-- more cuts than the depth of a box change nothing
abbrev pub CutsEnd : Type 0
CutsEnd = (t : IVec → Bool) (rule : CutRule) (b : Corners) (n : ℕ) → IsNode b → depth b ≤ n → cut_up t rule n b ≡ clusters_in t rule b

-- the rounds take the clusters and no other boxes, and end; their nodes are boxes
abbrev pub RoundsTakeTheClusters : Type 0
RoundsTakeTheClusters = (t : IVec → Bool) (rule : CutRule) (roots : List Corners) (c : Corners) → AreNodes roots → Member c (clusters t rule roots) ↔ ((q : ℕ) × Member c (taken t rule roots q))

abbrev pub RoundsEnd : Type 0
RoundsEnd = (t : IVec → Bool) (rule : CutRule) (roots : List Corners) (n : ℕ) → AreNodes roots → ((b : Corners) → Member b roots → depth b ≤ n) → opened t rule roots n ≡ []

abbrev pub OpenNodesAreNodes : Type 0
OpenNodesAreNodes = (t : IVec → Bool) (rule : CutRule) (roots : List Corners) (q : ℕ) → AreNodes roots → AreNodes (opened t rule roots q)

-- each root is directed by one of the ranks
abbrev pub RootsAreDirected : Type 0
RootsAreDirected = (ranks : ℕ) (roots : List Corners) (b : Corners) → 0 < ranks → Member b roots ↔ ((d : ℕ) × (d < ranks) × Member b (directed ranks d roots))
