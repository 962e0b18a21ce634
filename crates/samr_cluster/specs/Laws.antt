-- What ties the rounds to the overlaps.
use Rattle.std.specs.Prelude.{◌≡◌, ◌↔◌, ℕ, ◌<◌}
use Rattle.samr_box.specs.Corners.{Corners}
use Rattle.samr_box.specs.Lists.{Member}
use Rattle.samr_cluster.specs.declared.accepted.Accepted.{Accepted}
use Rattle.samr_cluster.specs.Cluster.{Clustering, IsClustering}
use Rattle.samr_cluster.specs.Accepting.{near_accepted}
use Rattle.samr_cluster.specs.declared.nodes.Directed.{Directed}
use Rattle.samr_cluster.specs.Rounds.{told_of, directed_after, accepted_state}

-- a rank is told in some round of each accepted box whose node it is near, and of no others
abbrev pub RoundsTellTheAccepted : Type 0
RoundsTellTheAccepted = (w : Clustering) → IsClustering w → (r : ℕ) (a : Accepted) → r < w.ranks → Member a (near_accepted w r) ↔ ((q : ℕ) × Member a (accepted_state (record { whole = w; number = q }) r))

-- the ranks that a director keeps with a node are those that were told it: so it waits for the reports of these
abbrev pub TheAskedWereTold : Type 0
TheAskedWereTold = (w : Clustering) → IsClustering w → (d r : ℕ) → d < w.ranks → r < w.ranks → (q : ℕ) (b : Corners)
    → Member b (told_of (record { whole = w; number = q }) d r) ↔ ((p : Directed) × Member p (directed_after w d q) × (p.node ≡ b) × Member r p.asked)
