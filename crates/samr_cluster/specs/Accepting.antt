-- The boxes that are accepted, each with its owner and with the ranks that are near its node.
use Rattle.std.specs.Prelude.{ℕ, pos, nat_eq, List, map, filter}
use Rattle.std.specs.List.{flat_map, list_any}
use Rattle.samr_box.specs.Vector.{alike}
use Rattle.samr_box.specs.Corners.{Corners}
use Rattle.samr_level.specs.Refs.{Owned, Link, link}
use Rattle.samr_cluster.specs.declared.accepted.Accepted.{Accepted}
use Rattle.samr_cluster.specs.Cluster.{Clustering, near_to, accepted_in, owner, nodes}

-- a box accepted of a node
abbrev pub accepted_as : Clustering → Corners → Corners → Accepted
accepted_as w b c = record { bx = c; owner = owner w c; near = near_to w b }

-- all that are accepted, those whose nodes a rank is near, and those that a rank owns
unfoldable pub all_accepted : Clustering → List Accepted
all_accepted w = flat_map (λ b. map (λ c. accepted_as w b c) (accepted_in w b)) (nodes w)

unfoldable pub near_accepted : Clustering → ℕ → List Accepted
near_accepted w r = filter (λ a. list_any (λ k. nat_eq k r) a.near) (all_accepted w)

unfoldable pub own_accepted : Clustering → ℕ → List Accepted
own_accepted w o = filter (λ a. nat_eq a.owner o) (all_accepted w)

-- an accepted box as a box with its owner, and as one that a rank has
abbrev pub cluster_of : Accepted → Owned
cluster_of a = record { owner = a.owner; bx = a.bx }

abbrev pub held_by : ℕ → Accepted → Owned
held_by r a = record { owner = r; bx = a.bx }

-- each rank is joined to the owners of the boxes whose nodes it is near, and these to it
unfoldable pub to_owners : Clustering → ℕ → List Link
to_owners w r = map (λ a. link (held_by r a) (cluster_of a) (alike (pos 0))) (near_accepted w r)

unfoldable pub to_near : Clustering → ℕ → List Link
to_near w o = flat_map (λ a. map (λ r. link (held_by o a) (held_by r a) (alike (pos 0))) a.near) (own_accepted w o)
