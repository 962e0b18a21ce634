-- The boxes that a rank is told of in all rounds are those whose nodes it is near.
use Rattle.std.proofs.Common.{ℕ, zero, suc, ◌<◌, sym, subst, inl, inr, arith, map, not, nat_eq}
use Rattle.std.proofs.lemmas.Bool.{cases_eq}
use Rattle.std.specs.Prelude.{List, ◌↔◌}
use Rattle.std.specs.List.{flat_map, range_with_len}
use Rattle.samr_box.specs.Corners.{Corners}
use Rattle.samr_box.specs.Lists.{Member}
use Rattle.samr_box.proofs.Members.{Member-map, Member-from_map, Member-filter, Member-from_filter, Member-flat_map, Member-from_flat_map}
use Rattle.samr_rounds.specs.Rounds.{opened}
use Rattle.samr_rounds.proofs.Open.{Member-below, Member-from_below}
use Rattle.samr_rounds.proofs.DirectedRoots.{each_directed}
use Rattle.samr_peers.proofs.PeerRows.{is_not_same, Member-range, Member-from_range}
use Rattle.samr_cluster.specs.declared.accepted.Accepted.{Accepted}
use Rattle.samr_cluster.specs.Cluster.{Clustering, IsClustering, near, accepted_in}
use Rattle.samr_cluster.specs.Accepting.{accepted_as, near_accepted}
use Rattle.samr_cluster.specs.Rounds.{Round, open_of, near_of, directors, accepted_state}
use Rattle.samr_cluster.proofs.NodeLaws.{open_node, node_open, near_below, near_member, Member-accepted, Member-from_accepted, Member-near, Member-from_near}

module _ (w : Clustering) (is : IsClustering w) where
  abbrev at_round : ℕ → Round
  at_round q = record { whole = w; number = q }

  -- a node is open exactly where a director has it open
  pub directed_open : (q d : ℕ) (b : Corners) → d < w.ranks → Member b (open_of (at_round q) d) → Member b (opened w.tags w.rule w.roots q)
  unfolding opened
  directed_open zero d b less m = (each_directed w.ranks w.roots b (omega (arith, less))).1 (d, less, m)
  directed_open (suc q) d b less m =
      let s = Member-from_below w.tags w.rule b (open_of (at_round q) d) m in
      Member-below w.tags w.rule s.0 b (opened w.tags w.rule w.roots q) (directed_open q d s.0 less s.1) s.2

  pub open_directed : (q : ℕ) (b : Corners) → 0 < w.ranks → Member b (opened w.tags w.rule w.roots q) → (d : ℕ) × (d < w.ranks) × Member b (open_of (at_round q) d)
  unfolding opened
  open_directed zero b some m = (each_directed w.ranks w.roots b some).0 m
  open_directed (suc q) b some m =
      let s = Member-from_below w.tags w.rule b (opened w.tags w.rule w.roots q) m in
      let r = open_directed q s.0 some s.1 in
      (r.0, r.1, Member-below w.tags w.rule s.0 b (open_of (at_round q) r.0) r.2 s.2)

  is_director : (r d : ℕ) → d < w.ranks → Member d (directors w r)
  is_director r d less = elim (cases_eq d r) [
    | inl same ↦ inl same
    | inr other ↦ inr (Member-filter (λ d. not (nat_eq d r)) d (range_with_len 0 w.ranks) (Member-range w.ranks 0 d (omega arith) (omega (arith, less))) (is_not_same d r other))
  ]

  director_below : (r d : ℕ) → r < w.ranks → Member d (directors w r) → d < w.ranks
  director_below r d less (inl e) = omega (arith, less, e)
  director_below r d less (inr m) =
      let f = Member-from_filter (λ d. not (nat_eq d r)) d (range_with_len 0 w.ranks) m in
      let p = (Member-from_range w.ranks 0 d f.0).1 in
      omega (arith, p)

  into_rounds : (r : ℕ) (a : Accepted) → r < w.ranks → Member a (near_accepted w r) → (q : ℕ) × Member a (accepted_state (at_round q) r)
  unfolding accepted_state
  into_rounds r a less m =
      let n = Member-from_near w is r a m in
      let s = Member-from_accepted w is a n.0 in
      let b = s.0 in
      let o = node_open w is b s.2 in
      let d = open_directed o.0 b (omega (arith, less)) o.1 in
      let near_too = (near_below w is b r (subst (λ (v : Accepted). Member r v.near) s.4 n.1)).1 in
      let here = Member-map (λ c. accepted_as w b c) s.1 (accepted_in w b) s.3 in
      let taken : Corners → List Accepted = λ b. map (λ c. accepted_as w b c) (accepted_in w b) in (
        o.0,
        subst (λ (v : Accepted). Member v (flat_map (λ d. flat_map taken (near_of (at_round o.0) d r)) (directors w r))) (sym s.4)
            (Member-flat_map (λ d. flat_map taken (near_of (at_round o.0) d r)) (accepted_as w b s.1) d.0 (directors w r) (is_director r d.0 d.1)
            (Member-flat_map taken (accepted_as w b s.1) b (near_of (at_round o.0) d.0 r) (Member-filter (λ b. near w r b) b (open_of (at_round o.0) d.0) d.2 near_too) here)),
      )

  from_rounds : (r : ℕ) (a : Accepted) → r < w.ranks → (q : ℕ) → Member a (accepted_state (at_round q) r) → Member a (near_accepted w r)
  unfolding accepted_state
  from_rounds r a less q m =
      let taken : Corners → List Accepted = λ b. map (λ c. accepted_as w b c) (accepted_in w b) in
      let s = Member-from_flat_map (λ d. flat_map taken (near_of (at_round q) d r)) a (directors w r) m in
      let t = Member-from_flat_map taken a (near_of (at_round q) s.0 r) s.2 in
      let b = t.0 in
      let f = Member-from_filter (λ b. near w r b) b (open_of (at_round q) s.0) t.1 in
      let c = Member-from_map (λ c. accepted_as w b c) a (accepted_in w b) t.2 in
      let open_too = open_node w is q b (directed_open q s.0 b (director_below r s.0 less s.1) f.0) in
      subst (λ (v : Accepted). Member v (near_accepted w r)) (sym c.2)
      (Member-near w is r (accepted_as w b c.0) (Member-accepted w is b c.0 open_too c.1) (near_member w is b r less f.1))

  pub rounds_tell : (r : ℕ) (a : Accepted) → r < w.ranks → Member a (near_accepted w r) ↔ ((q : ℕ) × Member a (accepted_state (at_round q) r))
  rounds_tell r a less = (λ m. into_rounds r a less m, λ s. from_rounds r a less s.0 s.1)
