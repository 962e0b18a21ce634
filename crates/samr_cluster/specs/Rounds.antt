-- What the ranks hold in a round of a clustering: one director's roots after another, the rank's own first.
use Rattle.std.specs.Prelude.{ℕ, Bool, zero, suc, not, nat_eq, List, ◌∷◌, map, filter}
use Rattle.std.specs.List.{flat_map, range_with_len}
use Rattle.samr_box.specs.Corners.{Corners}
use Rattle.samr_sign.specs.Counts.{sign}
use Rattle.samr_rounds.specs.Clusters.{parts, decided}
use Rattle.samr_rounds.specs.Sorted.{sorted, corner_less}
use Rattle.samr_rounds.specs.Rounds.{opened, told, directed}
use Rattle.samr_rounds.specs.Owners.{counts_of}
use Rattle.samr_cluster.specs.declared.accepted.Accepted.{Accepted}
use Rattle.samr_cluster.specs.declared.nodes.Told.{Told}
use Rattle.samr_cluster.specs.declared.nodes.Directed.{Directed}
use Rattle.samr_cluster.specs.declared.nodes.Counted.{Counted}
use Rattle.samr_cluster.specs.Cluster.{Clustering, near, near_to, accepted_in}
use Rattle.samr_cluster.specs.Accepting.{accepted_as}

pub record Round : Type 0 where
  pub whole : Clustering
  pub number : ℕ

-- the nodes that a director has open, those that it told a rank, and those that the rank is near
abbrev pub open_of : Round → ℕ → List Corners
open_of x d = opened x.whole.tags x.whole.rule (directed x.whole.ranks d x.whole.roots) x.number

abbrev pub told_of : Round → ℕ → ℕ → List Corners
told_of x d r = told (λ b. near x.whole r b) x.whole.tags x.whole.rule (directed x.whole.ranks d x.whole.roots) x.number

abbrev pub near_of : Round → ℕ → ℕ → List Corners
near_of x d r = filter (λ b. near x.whole r b) (open_of x d)

-- the directors: the rank itself, then the others ascending
abbrev pub directors : Clustering → ℕ → List ℕ
directors w r = r ∷ filter (λ d. not (nat_eq d r)) (range_with_len 0 w.ranks)

-- each node with its director
abbrev pub from_director : ℕ → List Corners → List Told
from_director d nodes = map (λ b. record { director = d; node = b }) nodes

-- the nodes that a rank was told, and those of them that it is near
unfoldable pub told_state : Round → ℕ → List Told
told_state x r = flat_map (λ d. from_director d (told_of x d r)) (directors x.whole r)

unfoldable pub near_state : Round → ℕ → List Told
near_state x r = flat_map (λ d. from_director d (near_of x d r)) (directors x.whole r)

-- nodes that were told the same ranks
abbrev pub asked_of : List ℕ → List Corners → List Directed
asked_of ranks nodes = map (λ b. record { node = b; asked = ranks }) nodes

abbrev pub directed_less : Directed → Directed → Bool
directed_less p q = corner_less p.node q.node

-- the nodes that a rank directs, with the ranks that were told them: all are told the roots, and those near a node its parts,
-- in corner order
unfoldable pub directed_after : Clustering → ℕ → ℕ → List Directed
directed_after w d zero = asked_of (range_with_len 0 w.ranks) (directed w.ranks d w.roots)
directed_after w d (suc q) =
    sorted directed_less (flat_map (λ b. asked_of (near_to w b) (parts (decided w.tags w.rule b))) (opened w.tags w.rule (directed w.ranks d w.roots) q))

-- a directed node with the counts of all tags in it, and with those of each near rank
abbrev pub counted_as : Clustering → Corners → Counted
counted_as w b = record { node = b; sum = sign w.tags b; tags = counts_of w.tags w.level b (near_to w b) }

-- the boxes accepted in the round whose nodes a rank is near
unfoldable pub accepted_state : Round → ℕ → List Accepted
accepted_state x r =
    flat_map (λ d. flat_map (λ b. map (λ c. accepted_as x.whole b c) (accepted_in x.whole b)) (near_of x d r)) (directors x.whole r)

abbrev pub next : Round → Round
next x = record { whole = x.whole; number = suc x.number }
