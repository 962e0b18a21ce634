-- A rank is joined to the owners of the boxes whose nodes it is near, and these to it.
use Rattle.std.proofs.Common.{◌≡◌, ℕ, ◌<◌, refl, sym, subst}
use Rattle.std.specs.Prelude.{pos, map}
use Rattle.samr_box.specs.Vector.{alike}
use Rattle.samr_box.specs.Lists.{Member}
use Rattle.samr_box.proofs.Members.{Member-flat_map, Member-from_flat_map, Member-map, Member-from_map}
use Rattle.samr_level.specs.Refs.{Link, link, turned}
use Rattle.samr_peers.specs.Peers.{TurnsInto, AreTransposes}
use Rattle.samr_cluster.specs.declared.accepted.Accepted.{Accepted}
use Rattle.samr_cluster.specs.Cluster.{Clustering, IsClustering}
use Rattle.samr_cluster.specs.Accepting.{near_accepted, own_accepted, cluster_of, held_by, to_owners, to_near}
use Rattle.samr_cluster.proofs.NodeLaws.{Member-near, Member-from_near, Member-own, Member-from_own, accepted_near_below, owner_below}

abbrev pub to_owner : ℕ → Accepted → Link
to_owner r a = link (held_by r a) (cluster_of a) (alike (pos 0))

abbrev pub to_rank : ℕ → Accepted → ℕ → Link
to_rank o a r = link (held_by o a) (held_by r a) (alike (pos 0))

pub Member-to_owners : (w : Clustering) (r : ℕ) (a : Accepted) → Member a (near_accepted w r) → Member (to_owner r a) (to_owners w r)
unfolding to_owners
Member-to_owners w r a m = Member-map (to_owner r) a (near_accepted w r) m

pub Member-from_to_owners : (w : Clustering) (r : ℕ) (e : Link) → Member e (to_owners w r) → (a : Accepted) × Member a (near_accepted w r) × (e ≡ to_owner r a)
unfolding to_owners
Member-from_to_owners w r e m = Member-from_map (to_owner r) e (near_accepted w r) m

pub Member-to_near : (w : Clustering) (o : ℕ) (a : Accepted) (r : ℕ) → Member a (own_accepted w o) → Member r a.near → Member (to_rank o a r) (to_near w o)
unfolding to_near
Member-to_near w o a r m n = Member-flat_map (λ a. map (to_rank o a) a.near) (to_rank o a r) a (own_accepted w o) m (Member-map (to_rank o a) r a.near n)

pub Member-from_to_near : (w : Clustering) (o : ℕ) (e : Link) → Member e (to_near w o) → (a : Accepted) × (r : ℕ) × Member a (own_accepted w o) × Member r a.near × (e ≡ to_rank o a r)
unfolding to_near
Member-from_to_near w o e m =
    let s = Member-from_flat_map (λ a. map (to_rank o a) a.near) e (own_accepted w o) m in
    let t = Member-from_map (to_rank o s.0) e s.0.near s.2 in
    (s.0, t.0, s.1, t.1, t.2)

module _ (w : Clustering) (is : IsClustering w) where
  forth : TurnsInto w.ranks (to_owners w) (to_near w)
  forth r e m =
      let s = Member-from_to_owners w r e m in
      let a = s.0 in
      let n = Member-from_near w is r a s.1 in
      let back : Member (turned (to_owner r a)) (to_near w a.owner) = Member-to_near w a.owner a r (Member-own w is a.owner a n.0 refl) n.1 in
      subst (λ (v : Link). (v.base.owner ≡ r) × (v.head.owner < w.ranks) × Member (turned v) (to_near w v.head.owner)) (sym s.2) (refl, owner_below w is a n.0, back)

  home : TurnsInto w.ranks (to_near w) (to_owners w)
  home o e m =
      let s = Member-from_to_near w o e m in
      let a = s.0 in
      let r = s.1 in
      let n = Member-from_own w is o a s.2 in
      let there = Member-to_owners w r a (Member-near w is r a n.0 s.3) in
      let back : Member (turned (to_rank o a r)) (to_owners w r) =
      subst (λ (k : ℕ). Member (let l : Link = record { base = record { owner = r; bx = a.bx }; head = record { owner = k; bx = a.bx }; shift = alike (pos 0) } in l) (to_owners w r)) n.1 there in
      subst (λ (v : Link). (v.base.owner ≡ o) × (v.head.owner < w.ranks) × Member (turned v) (to_owners w v.head.owner)) (sym s.4) (refl, accepted_near_below w is a r n.0 s.3, back)

  pub joined : AreTransposes w.ranks (to_owners w) (to_near w)
  joined = record { forth = forth; home = home }
