-- The ranks that a director keeps with a node are those that were told it.
use Rattle.std.proofs.Common.{◌≡◌, ℕ, zero, suc, ◌<◌, refl, sym, ap, subst, arith}
use Rattle.std.specs.Prelude.{List, ◌↔◌}
use Rattle.std.specs.List.{flat_map, range_with_len}
use Rattle.samr_box.specs.Corners.{Corners}
use Rattle.samr_box.specs.Space.{finer}
use Rattle.samr_box.specs.Lists.{Member}
use Rattle.samr_box.proofs.Members.{Member-map, Member-from_map, Member-filter, Member-from_filter, Member-flat_map, Member-from_flat_map}
use Rattle.samr_level.specs.Levels.{own_boxes}
use Rattle.samr_rounds.specs.Clusters.{parts, decided}
use Rattle.samr_rounds.specs.Rounds.{below, told, directed}
use Rattle.samr_rounds.proofs.Open.{Member-below, Member-from_below}
use Rattle.samr_rounds.proofs.Sorting.{Member-sorted, Member-from_sorted}
use Rattle.samr_rounds.proofs.NearLaws.{near_told}
use Rattle.samr_peers.proofs.PeerRows.{Member-range}
use Rattle.samr_cluster.specs.declared.nodes.Directed.{Directed}
use Rattle.samr_cluster.specs.Cluster.{Clustering, IsClustering, near, near_to}
use Rattle.samr_cluster.specs.Rounds.{Round, open_of, told_of, near_of, asked_of, directed_less, directed_after}
use Rattle.samr_cluster.proofs.NodeLaws.{near_below, near_member}
use Rattle.samr_cluster.proofs.DecideLaws.{directed_nodes}

abbrev node_asked : List ℕ → Corners → Directed
node_asked ranks b = record { node = b; asked = ranks }

module _ (w : Clustering) (is : IsClustering w) (d r : ℕ) (less : d < w.ranks) (rank : r < w.ranks) where
  abbrev at_round : ℕ → Round
  at_round q = record { whole = w; number = q }

  abbrev roots : List Corners
  roots = directed w.ranks d w.roots

  abbrev asked_parts : ℕ → List Directed
  asked_parts q = flat_map (λ b. asked_of (near_to w b) (parts (decided w.tags w.rule b))) (open_of (at_round q) d)

  told_next : (q : ℕ) → told_of (at_round (suc q)) d r ≡ below w.tags w.rule (near_of (at_round q) d r)
  unfolding told
  told_next q =
      ap (below w.tags w.rule) (near_told (finer w.frame w.ratio) w.width (own_boxes r w.level) w.tags w.rule roots q (directed_nodes (at_round q) is d less))

  first_told : told_of (at_round zero) d r ≡ roots
  unfolding told
  first_told = refl

  into_asked : (q : ℕ) (b : Corners) → Member b (told_of (at_round q) d r) → (p : Directed) × Member p (directed_after w d q) × (p.node ≡ b) × Member r p.asked
  unfolding directed_after
  into_asked zero b m =
      (node_asked (range_with_len 0 w.ranks) b, Member-map (node_asked (range_with_len 0 w.ranks)) b roots (subst (λ l. Member b l) first_told m), refl, Member-range w.ranks 0 r (omega arith) (omega (arith, rank)))
  into_asked (suc q) b m =
      let s = Member-from_below w.tags w.rule b (near_of (at_round q) d r) (subst (λ l. Member b l) (told_next q) m) in
      let f = Member-from_filter (λ b. near w r b) s.0 (open_of (at_round q) d) s.1 in (
        node_asked (near_to w s.0) b,
        Member-sorted directed_less (node_asked (near_to w s.0) b) (asked_parts q)
            (Member-flat_map (λ b. asked_of (near_to w b) (parts (decided w.tags w.rule b))) (node_asked (near_to w s.0) b) s.0 (open_of (at_round q) d) f.0
            (Member-map (node_asked (near_to w s.0)) b (parts (decided w.tags w.rule s.0)) s.2)),
        refl,
        near_member w is s.0 r rank f.1,
      )

  from_asked : (q : ℕ) (p : Directed) → Member p (directed_after w d q) → Member r p.asked → Member p.node (told_of (at_round q) d r)
  unfolding directed_after
  from_asked zero p m n =
      let s = Member-from_map (node_asked (range_with_len 0 w.ranks)) p roots m in
      subst (λ l. Member p.node l) (sym first_told) (subst (λ (v : Directed). Member v.node roots) (sym s.2) s.1)
  from_asked (suc q) p m n =
      let s = Member-from_flat_map (λ b. asked_of (near_to w b) (parts (decided w.tags w.rule b))) p (open_of (at_round q) d) (Member-from_sorted directed_less p (asked_parts q) m) in
      let t = Member-from_map (node_asked (near_to w s.0)) p (parts (decided w.tags w.rule s.0)) s.2 in
      let near_too = (near_below w is s.0 r (subst (λ (v : Directed). Member r v.asked) t.2 n)).1 in
      let kept = Member-filter (λ b. near w r b) s.0 (open_of (at_round q) d) s.1 near_too in
      subst (λ l. Member p.node l) (sym (told_next q))
      (subst (λ (v : Directed). Member v.node (below w.tags w.rule (near_of (at_round q) d r))) (sym t.2) (Member-below w.tags w.rule s.0 t.0 (near_of (at_round q) d r) kept t.1))

  pub asked_told : (q : ℕ) (b : Corners) → Member b (told_of (at_round q) d r) ↔ ((p : Directed) × Member p (directed_after w d q) × (p.node ≡ b) × Member r p.asked)
  asked_told q b = (λ m. into_asked q b m, λ s. subst (λ (v : Corners). Member v (told_of (at_round q) d r)) s.2 (from_asked q s.0 s.1 s.3))
