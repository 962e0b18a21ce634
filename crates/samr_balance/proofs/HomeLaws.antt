-- What a balance keeps, as the owners of boxes learn of it.
use Rattle.std.proofs.Common.{◌≡◌, ℕ, ◌<◌, ◌≤◌, refl, nat_eq, sym, subst, ◌∙◌, arith}
use Rattle.std.specs.Prelude.{Bool, cond, map, sum_by}
use Rattle.std.specs.List.{flat_map, range_with_len}
use Rattle.std.specs.Ordering.{is_eq}
use Rattle.samr_box.specs.declared.vector.IVec.{IVec}
use Rattle.samr_box.specs.Vector.{AtMost}
use Rattle.samr_box.specs.Corners.{Corners, Holds, holds, longest_of}
use Rattle.samr_box.specs.Lists.{Member}
use Rattle.samr_box.proofs.Members.{Member-from_map, Member-from_filter, Member-from_flat_map, Member-flat_map}
use Rattle.samr_boxlist.specs.Covers.{cover}
use Rattle.samr_level.specs.Refs.{Owned}
use Rattle.samr_level.specs.RefOrders.{ref_cmp}
use Rattle.samr_level.specs.Levels.{own}
use Rattle.samr_level.specs.declared.parts.Move.{Move}
use Rattle.samr_level.proofs.RefLaws.{same_from_ref_cmp}
use Rattle.samr_load.specs.Pieces.{Placed, whole, size_of, of_origin}
use Rattle.samr_load.specs.Taking.{across}
use Rattle.samr_load.specs.Descent.{pieces_of}
use Rattle.samr_load.specs.Balanced.{owned_by, all_pieces}
use Rattle.samr_load.specs.Laws.{boxes_of, same_as, AreAllCells, IsThin}
use Rattle.samr_load.proofs.Totals.{Each, each_sorted}
use Rattle.samr_load.proofs.Bound.{balance_bound}
use Rattle.samr_load.proofs.Wholes.{all_cells, all_owned, range_below}
use Rattle.samr_balance.specs.declared.homed.Homed.{Homed}
use Rattle.samr_balance.specs.Home.{Homes, balancing_of, pieces_in, news_on, news_of, move_of, olds_of, homed_of, AreHomes}
use Rattle.samr_balance.specs.Laws.{IsKept, IsHomed}
use Rattle.samr_balance.proofs.Counts.{sum-sorted, sum-map, sum-filter, sum-same, sum-flat_map, is_equal}

module _ (w : Homes) (h : AreHomes w) where
  whole_cells : AreAllCells w.boxes (all_pieces (balancing_of w))
  whole_cells = all_cells w.quota w.ranks w.smallest w.boxes h.some (λ o m. (h.owned o m).0) (λ o m. (h.owned o m).1)

  module _ (old : Owned) where
    record IsNew (n : Owned) : Type 0 where
      not_empty : AtMost n.bx.lo n.bx.hi
      owner : n.owner < w.ranks
      inside : (x : IVec) → Holds n.bx x → Holds old.bx x

    all_new : Each IsNew (flat_map (news_on w old) (range_with_len 0 w.ranks))
    all_new n m =
        let r = Member-from_flat_map (news_on w old) n (range_with_len 0 w.ranks) m in
        let q = Member-from_map (owned_by r.0) n (of_origin old (pieces_in w r.0)) r.2 in
        let f = Member-from_filter (λ (p : Placed). is_eq (ref_cmp p.origin old)) q.0 (pieces_in w r.0) q.1 in
        let origin = same_from_ref_cmp q.0.origin old (is_equal (ref_cmp q.0.origin old) f.1) in
        let there = Member-flat_map (pieces_of (balancing_of w)) q.0 r.0 (range_with_len 0 w.ranks) r.1 f.0 in
        let it : IsNew (owned_by r.0 q.0) = record {
          not_empty = whole_cells.not_empty q.0 there;
          owner = omega (arith, range_below 0 w.ranks r.0 r.1);
          inside = λ x p. subst (λ (o : Owned). Holds o.bx x) origin (whole_cells.inside q.0 x there p);
        } in
        subst IsNew (sym q.2) it

    news_new : Each IsNew (news_of w old)
    unfolding news_of
    news_new = each_sorted IsNew ref_cmp (flat_map (news_on w old) (range_with_len 0 w.ranks)) all_new

    news_cells : (x : IVec) → cover x (boxes_of (news_of w old)) ≡ cover x (boxes_of (same_as old w.boxes))
    unfolding news_of
    news_cells x =
        let one : Corners → ℕ = λ c. cond (holds c x) 1 0 in
        let test : Placed → Bool = λ q. is_eq (ref_cmp q.origin old) in
        let ranks = range_with_len 0 w.ranks in
        let news = flat_map (news_on w old) ranks in
        let pieces = pieces_of (balancing_of w) in
        sum-map one (λ (o : Owned). o.bx) (news_of w old)
        ∙ sum-sorted (λ (o : Owned). one o.bx) ref_cmp news
        ∙ sum-flat_map (λ (o : Owned). one o.bx) (news_on w old) ranks
        ∙ sum-same (λ k. sum_by (λ (o : Owned). one o.bx) (news_on w old k)) (λ k. sum_by (λ (q : Placed). cond (test q) (one q.bx) 0) (pieces k)) ranks
        (λ k. sum-map (λ (o : Owned). one o.bx) (owned_by k) (of_origin old (pieces k)) ∙ sum-filter (λ (q : Placed). one q.bx) test (pieces k))
        ∙ sym (sum-flat_map (λ (q : Placed). cond (test q) (one q.bx) 0) pieces ranks)
        ∙ sym (sum-filter (λ (q : Placed). one q.bx) test (flat_map pieces ranks))
        ∙ sym (sum-map one (λ (q : Placed). q.bx) (of_origin old (flat_map pieces ranks)))
        ∙ whole_cells.cells_of_one old x

    pub news_kept : IsKept w old (news_of w old)
    news_kept = record {
      not_empty = λ n m. (news_new n m).not_empty;
      owners = λ n m. (news_new n m).owner;
      inside = λ n x m p. (news_new n m).inside x p;
      cells = news_cells;
    }

  thin_own : (most : ℕ) → ((o : Owned) → Member o w.boxes → across (longest_of o.bx) o.bx ≤ most) → (rank : ℕ) → Each (IsThin most) (map whole (own rank w.boxes))
  unfolding own
  thin_own most thin rank q m =
      let o = Member-from_map whole q (own rank w.boxes) m in
      let there = (Member-from_filter (λ (c : Owned). nat_eq c.owner rank) o.0 w.boxes o.1).0 in
      let it : IsThin most (whole o.0) = record { not_empty = (h.owned o.0 there).0; thin = thin o.0 there } in
      subst (IsThin most) (sym o.2) it

  pub homed_laws : (rank : ℕ) → rank < w.ranks → (out : Homed) → out ≡ homed_of w rank → IsHomed w rank out
  unfolding homed_of
  homed_laws rank inside out is =
      let all : IsHomed w rank (homed_of w rank) = record {
        is = refl;
        kept = λ m there.
            let o = Member-from_map (move_of w) m (olds_of w rank) there in
            subst (λ (v : Move). IsKept w v.old v.news) (sym o.2) (news_kept o.0);
        bound = λ most thin even.
            balance_bound (balancing_of w) most h.some (λ r p. thin_own most thin r)
            (even ∙ sym (all_owned size_of w.ranks w.boxes (λ o m. (h.owned o m).1))) rank inside;
      } in
      subst (IsHomed w rank) (sym is) all
