-- What all ranks find are the true overlaps of east and west, and no others.
use Rattle.std.proofs.Common.{◌≡◌, ℕ, zero, suc, ◌+◌, ◌<◌, ◌≤◌, refl, sym, subst, inl, inr, arith}
use Rattle.std.proofs.lemmas.Bool.{cases_eq}
use Rattle.std.specs.Prelude.{pos, List, map}
use Rattle.std.specs.List.{range_with_len}
use Rattle.samr_box.specs.Vector.{alike}
use Rattle.samr_box.specs.Lists.{Member}
use Rattle.samr_box.proofs.Members.{Member-map, Member-from_map, Member-flat_map, Member-from_flat_map, Member-append_left, Member-append_right}
use Rattle.samr_level.specs.Refs.{Link, link, turned}
use Rattle.samr_level.specs.RefOrders.{edge_cmp, in_order}
use Rattle.samr_level.specs.Overlaps.{scale, true_overlaps, of_rank, IsTrueOverlap, shifts}
use Rattle.samr_level.proofs.RefLaws.{edge_total, same_from_edge_cmp}
use Rattle.samr_level.proofs.Sorting.{Member-in_order, Member-from_in_order, sorted-in_order}
use Rattle.samr_level.proofs.Overlapping.{Member-overlaps, Member-from_overlaps, Member-of_rank, Member-from_of_rank, connector_is, turn, turned_twice}
use Rattle.samr_bridge.specs.Bridge.{Bridging, IsBridge}
use Rattle.samr_bridge.specs.Found.{found, all_found, bridge_pair, bridge_scale}
use Rattle.samr_bridge.specs.BridgeRow.{from_centre}
use Rattle.samr_bridge.proofs.FoundLaws.{Member-found_by, Member-from_found_by, leave-is}
use Rattle.samr_bridge.proofs.Ways.{way}

-- the numbers of a range
pub Member-range : (n a k : ℕ) → a ≤ k → k < a + n → Member k (range_with_len a n)
Member-range zero a k low high = absurd (omega arith)
Member-range (suc n) a k low high = elim (cases_eq k a) [
  | inl here ↦ inl here
  | inr later ↦ inr (Member-range n (a + 1) k (omega (arith, later)) (omega arith))
]

pub Member-from_range : (n a k : ℕ) → Member k (range_with_len a n) → (a ≤ k) × (k < a + n)
Member-from_range zero a k m = absurd m
Member-from_range (suc n) a k (inl here) = (omega arith, omega arith)
Member-from_range (suc n) a k (inr later) = let r = Member-from_range n (a + 1) k later in let low = r.0 in let high = r.1 in (omega arith, omega arith)

-- a rank that finds an edge, and its edges from the centre to both boxes
pub record Finds (w : Bridging) (rank : ℕ) (e a b : Link) : Type 0 where
  pub within : rank < w.ranks
  pub is_found : Member e (found w rank)
  pub to_base : Member a (from_centre w rank)
  pub base : a.head ≡ e.base
  pub to_head : Member b (from_centre w rank)
  pub head : b.head ≡ e.head

module _ (w : Bridging) (b : IsBridge w) where
  -- what a rank finds is a true overlap
  pub sound : (rank : ℕ) (e : Link) → Member e (found w rank) → IsTrueOverlap (bridge_scale w) w.east w.west e
  unfolding found
  sound rank e m =
      let east = true_overlaps (scale w.frame w.east_width w.centre_ratio w.east_ratio) w.centre w.east in
      let west = true_overlaps (scale w.frame w.west_width w.centre_ratio w.west_ratio) w.centre w.west in
      let r = Member-from_found_by (bridge_scale w) (of_rank rank east) (of_rank rank west) e m in
      let h = r.2 in
      let p = Member-from_overlaps (scale w.frame w.east_width w.centre_ratio w.east_ratio) w.centre w.east r.0 (Member-from_of_rank rank east r.0 h.east).0 in
      let q = Member-from_overlaps (scale w.frame w.west_width w.centre_ratio w.west_ratio) w.centre w.west r.1 (Member-from_of_rank rank west r.1 h.west).0 in
      record {
        is_base = subst (λ (v : Link). Member v.base w.east) (sym h.is) p.is_head;
        is_head = subst (λ (v : Link). Member v.head w.west) (sym h.is) q.is_head;
        is_shift = subst (λ (v : Link). Member v.shift (shifts w.frame.periodic)) (sym h.is) q.is_shift;
        is_near = h.near;
      }

  -- every true overlap is found by a rank
  pub complete : (e : Link) → IsTrueOverlap (bridge_scale w) w.east w.west e
      → (rank : ℕ) × (a d : Link) × Finds w rank e a d
  unfolding found
  complete e h =
      let r = way w b e h in
      let c = r.0 in
      let rank = c.owner in
      let a = link c e.base (alike (pos 0)) in
      let d = link c e.head e.shift in
      let east = true_overlaps (scale w.frame w.east_width w.centre_ratio w.east_ratio) w.centre w.east in
      let west = true_overlaps (scale w.frame w.west_width w.centre_ratio w.west_ratio) w.centre w.west in
      let p = Member-of_rank rank east a (Member-overlaps (scale w.frame w.east_width w.centre_ratio w.east_ratio) w.centre w.east a r.1.to_east) refl in
      let q = Member-of_rank rank west d (Member-overlaps (scale w.frame w.west_width w.centre_ratio w.west_ratio) w.centre w.west d r.1.to_west) refl in (
        rank,
        a,
        d,
        record {
          within = b.owned.centre c r.1.to_east.is_base;
          is_found = Member-found_by (bridge_scale w) (of_rank rank east) (of_rank rank west) e a d
              (record { east = p; west = q; pair = leave-is a d refl refl; is = refl; near = h.is_near });
          to_base = Member-append_left a (of_rank rank east) (of_rank rank west) p;
          base = refl;
          to_head = Member-append_right d (of_rank rank east) (of_rank rank west) q;
          head = refl;
        },
      )

  -- a list with what is found about a rank, settled, is the rank's connector, and turned the one back
  pub forth_is : (rank : ℕ) (xs : List Link) → ((e : Link) → Member e xs → (q : ℕ) × Member e (found w q))
      → ((q : ℕ) (e a d : Link) → Finds w q e a d → e.base.owner ≡ rank → Member e xs)
      → in_order edge_cmp (of_rank rank xs) ≡ (bridge_pair w rank).forth.edges
  forth_is rank xs only all =
      connector_is (bridge_scale w) w.east w.west rank (in_order edge_cmp (of_rank rank xs)) b.east.in_order b.west.in_order
      (sorted-in_order edge_total (of_rank rank xs))
      (λ e m. let f = Member-from_of_rank rank xs e (Member-from_in_order edge_total e (of_rank rank xs) m) in let q = only e f.0 in (sound q.0 e q.1, f.1))
      (λ e h o. let r = complete e h in
      Member-in_order edge_total same_from_edge_cmp e (of_rank rank xs) (Member-of_rank rank xs e (all r.0 e r.1 r.2 r.3 o) o))

  pub back_is : (rank : ℕ) (xs : List Link) → ((e : Link) → Member e xs → (q : ℕ) × Member e (found w q))
      → ((q : ℕ) (e a d : Link) → Finds w q e a d → e.head.owner ≡ rank → Member e xs)
      → in_order edge_cmp (of_rank rank (map (λ e. turned e) xs)) ≡ (bridge_pair w rank).back.edges
  back_is rank xs only all =
      let ys = map (λ e. turned e) xs in
      connector_is (scale w.frame w.width w.west_ratio w.east_ratio) w.west w.east rank (in_order edge_cmp (of_rank rank ys)) b.west.in_order b.east.in_order
      (sorted-in_order edge_total (of_rank rank ys))
      (λ e m.
      let f = Member-from_of_rank rank ys e (Member-from_in_order edge_total e (of_rank rank ys) m) in
      let t = Member-from_map (λ e. turned e) e xs f.0 in
      let q = only t.0 t.1 in
      let h = turn w.frame w.width w.east_ratio w.west_ratio w.east w.west t.0 (sound q.0 t.0 q.1) in
      (subst (λ (v : Link). IsTrueOverlap (scale w.frame w.width w.west_ratio w.east_ratio) w.west w.east v) (sym t.2) h, f.1))
      (λ e h o.
      let r = complete (turned e) (turn w.frame w.width w.west_ratio w.east_ratio w.west w.east e h) in
      let m = Member-map (λ e. turned e) (turned e) xs (all r.0 (turned e) r.1 r.2 r.3 o) in
      let here = subst (λ (v : Link). Member v ys) (turned_twice e) m in
      Member-in_order edge_total same_from_edge_cmp e (of_rank rank ys) (Member-of_rank rank ys e here o))

  -- all that is found
  found_out : (e : Link) → Member e (all_found w) → (q : ℕ) × Member e (found w q)
  found_out e m = let r = Member-from_flat_map (λ q. found w q) e (range_with_len 0 w.ranks) m in (r.0, r.2)

  found_in : (q : ℕ) (e a d : Link) → Finds w q e a d → Member e (all_found w)
  found_in q e a d h =
      Member-flat_map (λ q. found w q) e q (range_with_len 0 w.ranks) (Member-range w.ranks 0 q (omega arith) (omega (arith, h.within))) h.is_found

  pub all_forth : (rank : ℕ) → in_order edge_cmp (of_rank rank (all_found w)) ≡ (bridge_pair w rank).forth.edges
  all_forth rank = forth_is rank (all_found w) found_out (λ q e a d h o. found_in q e a d h)

  pub all_back : (rank : ℕ) → in_order edge_cmp (of_rank rank (map (λ e. turned e) (all_found w))) ≡ (bridge_pair w rank).back.edges
  all_back rank = back_is rank (all_found w) found_out (λ q e a d h o. found_in q e a d h)
