-- The nodes of a clustering, what is accepted of them, and the clusters.
use Rattle.std.proofs.Common.{◌≡◌, ℕ, ◌<◌, ◌≤◌, refl, sym, subst, arith, inr}
use Rattle.std.specs.Prelude.{true, nat_eq, map, sum_by}
use Rattle.std.specs.List.{list_any, range_with_len}
use Rattle.samr_box.specs.Corners.{Corners}
use Rattle.samr_box.specs.Space.{finer}
use Rattle.samr_box.specs.Lists.{Member}
use Rattle.samr_box.proofs.Members.{Member-flat_map, Member-from_flat_map, Member-map, Member-from_map, Member-filter, Member-from_filter}
use Rattle.samr_level.specs.Refs.{Owned}
use Rattle.samr_level.specs.Levels.{own_boxes}
use Rattle.samr_sign.specs.Laws.{depth}
use Rattle.samr_rounds.specs.Clusters.{accepted, decided, clusters}
use Rattle.samr_rounds.specs.Rounds.{opened, taken, accepted_of}
use Rattle.samr_rounds.specs.Laws.{IsNode}
use Rattle.samr_rounds.proofs.Lists.{Member-range, Member-from_range}
use Rattle.samr_rounds.proofs.Open.{opened_nodes, rounds_end, taken_clusters}
use Rattle.samr_rounds.proofs.OwnerLaws.{near_owner}
use Rattle.samr_rounds.proofs.NearLaws.{near_down}
use Rattle.samr_rounds.proofs.LevelLaws.{level_has}
use Rattle.samr_cluster.specs.declared.accepted.Accepted.{Accepted}
use Rattle.samr_cluster.specs.Cluster.{Clustering, IsClustering, near, near_to, accepted_in, owner, clusters_of, nodes}
use Rattle.samr_cluster.specs.Accepting.{accepted_as, all_accepted, near_accepted, own_accepted}
use Rattle.samr_cluster.proofs.ListLaws.{among, is_among, same_number, is_same_number, part_of_sum}

module _ (w : Clustering) (is : IsClustering w) where
  -- each open node is one of the nodes, and each of these is open in some round
  none_late : (q : ℕ) (b : Corners) → sum_by depth w.roots ≤ q → Member b (opened w.tags w.rule w.roots q) → ⊥
  none_late q b late m =
      let none = rounds_end w.tags w.rule q w.roots is.roots (λ r k. let p = part_of_sum depth r w.roots k in omega (arith, p, late)) in
      subst (λ l. Member b l) none m

  early : (q n : ℕ) → (n ≤ q → ⊥) → q < n
  early q n late = omega (arith, late)

  pub open_node : (q : ℕ) (b : Corners) → Member b (opened w.tags w.rule w.roots q) → Member b (nodes w)
  unfolding nodes
  open_node q b m =
      Member-flat_map (λ q. opened w.tags w.rule w.roots q) b q (range_with_len 0 (sum_by depth w.roots))
      (Member-range (sum_by depth w.roots) 0 q (omega arith) (let less = early q (sum_by depth w.roots) (λ late. none_late q b late m) in omega (arith, less))) m

  pub node_open : (b : Corners) → Member b (nodes w) → (q : ℕ) × Member b (opened w.tags w.rule w.roots q)
  unfolding nodes
  node_open b m =
      let r = Member-from_flat_map (λ q. opened w.tags w.rule w.roots q) b (range_with_len 0 (sum_by depth w.roots)) m in
      (r.0, r.2)

  pub node_is : (b : Corners) → Member b (nodes w) → IsNode b
  node_is b m = let o = node_open b m in opened_nodes w.tags w.rule w.roots o.0 is.roots b o.1

  -- a box is accepted of a node exactly where it is a cluster
  pub accepted_is_cluster : (b c : Corners) → Member b (nodes w) → Member c (accepted_in w b) → Member c (clusters w.tags w.rule w.roots)
  unfolding taken accepted_of
  accepted_is_cluster b c m a =
      let o = node_open b m in
      (taken_clusters w.tags w.rule w.roots c is.roots).1
      (o.0, Member-flat_map (λ b. accepted (decided w.tags w.rule b)) c b (opened w.tags w.rule w.roots o.0) o.1 a)

  pub cluster_is_accepted : (c : Corners) → Member c (clusters w.tags w.rule w.roots) → (b : Corners) × Member b (nodes w) × Member c (accepted_in w b)
  unfolding taken accepted_of
  cluster_is_accepted c m =
      let s = (taken_clusters w.tags w.rule w.roots c is.roots).0 m in
      let r = Member-from_flat_map (λ b. accepted (decided w.tags w.rule b)) c (opened w.tags w.rule w.roots s.0) s.1 in
      (r.0, open_node s.0 r.0 r.1, r.2)

  -- the accepted boxes, one by one
  pub Member-accepted : (b c : Corners) → Member b (nodes w) → Member c (accepted_in w b) → Member (accepted_as w b c) (all_accepted w)
  unfolding all_accepted
  Member-accepted b c m a =
      Member-flat_map (λ b. map (λ c. accepted_as w b c) (accepted_in w b)) (accepted_as w b c) b (nodes w) m (Member-map (λ c. accepted_as w b c) c (accepted_in w b) a)

  pub Member-from_accepted : (a : Accepted) → Member a (all_accepted w) → (b : Corners) × (c : Corners) × Member b (nodes w) × Member c (accepted_in w b) × (a ≡ accepted_as w b c)
  unfolding all_accepted
  Member-from_accepted a m =
      let r = Member-from_flat_map (λ b. map (λ c. accepted_as w b c) (accepted_in w b)) a (nodes w) m in
      let s = Member-from_map (λ c. accepted_as w r.0 c) a (accepted_in w r.0) r.2 in
      (r.0, s.0, r.1, s.1, s.2)

  -- those whose nodes a rank is near, and those that it owns
  pub Member-near : (r : ℕ) (a : Accepted) → Member a (all_accepted w) → Member r a.near → Member a (near_accepted w r)
  unfolding near_accepted
  Member-near r a m n = Member-filter (λ a. list_any (λ k. nat_eq k r) a.near) a (all_accepted w) m (among r a.near n)

  pub Member-from_near : (r : ℕ) (a : Accepted) → Member a (near_accepted w r) → Member a (all_accepted w) × Member r a.near
  unfolding near_accepted
  Member-from_near r a m =
      let f = Member-from_filter (λ a. list_any (λ k. nat_eq k r) a.near) a (all_accepted w) m in
      (f.0, is_among r a.near f.1)

  pub Member-own : (o : ℕ) (a : Accepted) → Member a (all_accepted w) → a.owner ≡ o → Member a (own_accepted w o)
  unfolding own_accepted
  Member-own o a m e = Member-filter (λ a. nat_eq a.owner o) a (all_accepted w) m (is_same_number a.owner o e)

  pub Member-from_own : (o : ℕ) (a : Accepted) → Member a (own_accepted w o) → Member a (all_accepted w) × (a.owner ≡ o)
  unfolding own_accepted
  Member-from_own o a m =
      let f = Member-from_filter (λ a. nat_eq a.owner o) a (all_accepted w) m in
      (f.0, same_number a.owner o f.1)

  -- the ranks near a node, and the owner among them
  pub near_below : (b : Corners) (r : ℕ) → Member r (near_to w b) → (r < w.ranks) × (near w r b ≡ true)
  near_below b r m =
      let f = Member-from_filter (λ r. near w r b) r (range_with_len 0 w.ranks) m in
      let p = (Member-from_range w.ranks 0 r f.0).1 in
      (omega (arith, p), f.1)

  pub near_member : (b : Corners) (r : ℕ) → r < w.ranks → near w r b ≡ true → Member r (near_to w b)
  near_member b r less e = Member-filter (λ r. near w r b) r (range_with_len 0 w.ranks) (Member-range w.ranks 0 r (omega arith) (omega (arith, less))) e

  pub accepted_near_below : (a : Accepted) (r : ℕ) → Member a (all_accepted w) → Member r a.near → r < w.ranks
  accepted_near_below a r m n =
      let s = Member-from_accepted a m in
      (near_below s.0 r (subst (λ (v : Accepted). Member r v.near) s.4 n)).0

  pub owner_near : (a : Accepted) → Member a (all_accepted w) → Member a.owner a.near
  owner_near a m =
      let s = Member-from_accepted a m in
      let h = near_owner (finer w.frame w.ratio) w.width is.area w.ranks w.level w.tags w.rule s.0 s.1 is.width (node_is s.0 s.2) is.level is.tags s.3 in
      subst (λ (v : Accepted). Member v.owner v.near) (sym s.4) h.1

  pub owner_below : (a : Accepted) → Member a (all_accepted w) → a.owner < w.ranks
  owner_below a m = accepted_near_below a a.owner m (owner_near a m)

  -- an accepted box is a box of the clusters' level, and each of these is accepted; who is near it is near its node
  pub accepted_in_level : (a : Accepted) → Member a (all_accepted w) → Member (let o : Owned = record { owner = a.owner; bx = a.bx } in o) (clusters_of w)
  accepted_in_level a m =
      let s = Member-from_accepted a m in
      let o : Owned = record { owner = owner w s.1; bx = s.1 } in
      subst (λ (v : Accepted). Member (let x : Owned = record { owner = v.owner; bx = v.bx } in x) (clusters_of w)) (sym s.4)
      ((level_has w.tags w.rule w.roots w.level w.ranks o).1 (accepted_is_cluster s.0 s.1 s.2 s.3, refl))

  pub level_is_accepted : (o : Owned) → Member o (clusters_of w) → (a : Accepted) × Member a (all_accepted w) × (a.owner ≡ o.owner) × (a.bx ≡ o.bx) × ((r : ℕ) → r < w.ranks → near w r o.bx ≡ true → Member r a.near)
  level_is_accepted o m =
      let h = (level_has w.tags w.rule w.roots w.level w.ranks o).0 m in
      let s = cluster_is_accepted o.bx h.0 in (
        accepted_as w s.0 o.bx,
        Member-accepted s.0 o.bx s.1 s.2,
        sym h.1,
        refl,
        λ r less e. near_member s.0 r less (near_down (finer w.frame w.ratio) w.width (own_boxes r w.level) w.tags w.rule s.0 o.bx (node_is s.0 s.1) (inr s.2) e),
      )
