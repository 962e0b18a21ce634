-- The boxes of a rank in the new level, and their overlaps with the level below.
use Rattle.std.proofs.Common.{◌≡◌, ℕ, suc, refl, sym, ap, subst, ◌∙◌, arith}
use Rattle.std.proofs.lemmas.Bool.Decides.{nat_tests}
use Rattle.std.proofs.lemmas.List.Kept.{IsStrictlySortedBy-filter}
use Rattle.std.specs.Prelude.{List, map, nat_eq}
use Rattle.std.specs.List.{All}
use Rattle.std.specs.List.Sorted.{IsStrictlySortedBy}
use Rattle.samr_box.specs.declared.vector.IVec.{IVec}
use Rattle.samr_box.specs.Vector.{IsRatio, times}
use Rattle.samr_box.specs.Corners.{Corners, IsBox, Holds}
use Rattle.samr_box.specs.Ratios.{refined}
use Rattle.samr_box.specs.Space.{whole}
use Rattle.samr_box.specs.Lists.{Member}
use Rattle.samr_box.proofs.CellSets.{Holds-lo, Holds-hi}
use Rattle.samr_box.proofs.Members.{All-from_members, Member-map, Member-from_map, Member-filter, Member-from_filter, Member-flat_map, Member-from_flat_map}
use Rattle.samr_level.specs.declared.parts.Move.{Move}
use Rattle.samr_level.specs.declared.parts.Pair.{Pair}
use Rattle.samr_level.specs.Levels.{own, own_boxes}
use Rattle.samr_level.specs.Overlaps.{scale, true_overlaps}
use Rattle.samr_level.specs.Refs.{Owned, Link}
use Rattle.samr_level.specs.RefOrders.{ref_cmp}
use Rattle.samr_level.specs.Refined.{refined_box}
use Rattle.samr_level.proofs.Overlapping.{Member-from_overlaps, Member-from_of_rank}
use Rattle.samr_level.proofs.RefLaws.{ref_total, same_from_ref_cmp}
use Rattle.samr_level.proofs.Sorting.{in_order_is, Member-in_order, Member-from_in_order}
use Rattle.samr_modify.specs.Pieces.{Piece}
use Rattle.samr_modify.specs.Modify.{news_of, modify_pair}
use Rattle.samr_modify.specs.ModifyParts.{ArePieces}
use Rattle.samr_nest.proofs.StayLaws.{cell_of_frame}
use Rattle.samr_problem.specs.Fields.{Fields}
use Rattle.samr_mesh.specs.Domains.{area_of, area_at, frame_at, step_of, ratio_to}
use Rattle.samr_mesh.specs.Passes.{Pass, pieces_of, new_level}
use Rattle.samr_mesh.specs.Soundness.{CanRun}
use Rattle.samr_mesh.proofs.Passing.{in_frame, passed}
use Rattle.samr_mesh.proofs.Scaling.{space_of}
use Rattle.samr_wholes.specs.Wholes.{modifying}
use Rattle.samr_wholes.proofs.Moves.{news_are_pieces}
use Rattle.samr_wholes.proofs.PassedOn.{pairs_refined}
use Rattle.samr_regrid.specs.Ranks.{pair_at}
use Rattle.samr_connecting.specs.Joining.{new_box, own_news, refined_pair}

module _ (p : Fields) (w : Pass) (run : CanRun p w) where
  new_member : (b : Owned) → Member b (pieces_of p w) → Member (refined_box (step_of p w.number) b) (new_level p w)
  unfolding new_level
  new_member b m = Member-map (refined_box (step_of p w.number)) b (pieces_of p w) m

  from_new : (b : Owned) → Member b (new_level p w) → (o : Owned) × Member o (pieces_of p w) × (b ≡ refined_box (step_of p w.number) o)
  unfolding new_level
  from_new b m = Member-from_map (refined_box (step_of p w.number)) b (pieces_of p w) m

  -- a piece of the pass, refined, is a box
  piece_box : (b : Owned) → Member b (pieces_of p w) → IsBox (refined b.bx (step_of p w.number))
  piece_box b m =
      let level = (passed p w run).is_level in
      let new : Owned = refined_box (step_of p w.number) b in
      let here = new_member b m in
      let order = level.not_empty new here in
      let home : (x : IVec) → Holds new.bx x → Holds (whole (frame_at p (suc w.number))) x = λ x h. cell_of_frame (area_at p (suc w.number)) x run.can.next.is_area (level.inside new x here h) in
      in_frame (frame_at p (suc w.number)) new.bx (space_of p (suc w.number) run.can.next) order (home new.bx.lo (Holds-lo {b = new.bx} order)) (home new.bx.hi (Holds-hi {b = new.bx} order))

  in_news : (b : Owned) → Member b (news_of (modifying p w)) → Member b (pieces_of p w)
  in_news b m = subst (Member b) (news_are_pieces p w run) m

  module _ (rank : ℕ) (pieces : List Piece) (are : ArePieces (modifying p w) rank pieces) where
    abbrev as_owned : Piece → Owned
    as_owned n = record { owner = rank; bx = n.bx }

    into_pieces : (n : Piece) → Member n pieces → Member (as_owned n) (pieces_of p w)
    unfolding news_of
    into_pieces n m =
        let (v, there, old, new) = are.only n m in
        in_news (as_owned n) (Member-in_order ref_total same_from_ref_cmp (as_owned n) _ (Member-flat_map (λ (v : Move). v.news) (as_owned n) v (modifying p w).moves there new))

    -- each piece of the rank is among them
    out_of_pieces : (o : Owned) → Member o (pieces_of p w) → o.owner ≡ rank → (n : Piece) × Member n pieces × (as_owned n ≡ o)
    unfolding news_of
    out_of_pieces o m mine =
        let (v, there, new) = Member-from_flat_map (λ (v : Move). v.news) o (modifying p w).moves (Member-from_in_order ref_total o _ (subst (Member o) (sym (news_are_pieces p w run)) m)) in
        let n : Piece = record { bx = o.bx; old_owner = v.old.owner } in
        let same : o ≡ as_owned n = ap (λ k. let u : Owned = record { owner = k; bx = o.bx } in u) mine in
        (n, are.all n (v, there, refl, subst (λ (u : Owned). Member u v.news) same new), sym same)

    pub pieces_fit : (step : IVec) → step ≡ step_of p w.number → All (λ (n : Piece). IsBox (refined n.bx step)) pieces
    pieces_fit step same =
        All-from_members (λ (n : Piece). IsBox (refined n.bx step)) pieces
        (λ n m. subst (λ (s : IVec). IsBox (refined n.bx s)) (sym same) (piece_box (as_owned n) (into_pieces n m)))

    own_sorted : IsStrictlySortedBy ref_cmp (own rank (new_level p w))
    unfolding own
    own_sorted = IsStrictlySortedBy-filter ref_cmp (λ b. nat_eq b.owner rank) (new_level p w) (passed p w run).is_level.in_order

    into_own : (b : Owned) → Member b (map (new_box rank (step_of p w.number)) pieces) → Member b (own rank (new_level p w))
    unfolding own
    into_own b m =
        let (n, there, is) = Member-from_map (new_box rank (step_of p w.number)) b pieces m in
        subst (λ (u : Owned). Member u (own rank (new_level p w))) (sym is)
        (Member-filter (λ b. nat_eq b.owner rank) (new_box rank (step_of p w.number) n) (new_level p w) (new_member (as_owned n) (into_pieces n there)) (grind (arith, nat_tests)))

    out_of_own : (b : Owned) → Member b (own rank (new_level p w)) → Member b (map (new_box rank (step_of p w.number)) pieces)
    unfolding own
    out_of_own b m =
        let f = Member-from_filter (λ b. nat_eq b.owner rank) b (new_level p w) m in
        let (o, there, is) = from_new b f.0 in
        let t = f.1 in
        let mine : b.owner ≡ rank = grind (arith, nat_tests, t) in
        let owner : o.owner ≡ rank = sym (ap (λ (u : Owned). u.owner) is) ∙ mine in
        let (n, here, same) = out_of_pieces o there owner in
        let whole : b ≡ new_box rank (step_of p w.number) n = is ∙ ap (refined_box (step_of p w.number)) (sym same) in
        subst (λ (u : Owned). Member u (map (new_box rank (step_of p w.number)) pieces)) (sym whole) (Member-map (new_box rank (step_of p w.number)) n pieces here)

    news_are_own : own_news rank (step_of p w.number) pieces ≡ own_boxes rank (new_level p w)
    unfolding own_news
    news_are_own =
        ap (λ (l : List Owned). map (λ (b : Owned). b.bx) l)
        (sym (in_order_is ref_total same_from_ref_cmp (map (new_box rank (step_of p w.number)) pieces) (own rank (new_level p w)) own_sorted out_of_own into_own))

    pub boxes_are : (me : ℕ) (step : IVec) (boxes : List Corners) → me ≡ rank → step ≡ step_of p w.number → boxes ≡ own_news me step pieces → boxes ≡ own_boxes rank (new_level p w)
    boxes_are me step boxes mine same is =
        is ∙ ap (λ k. own_news k step pieces) mine ∙ ap (λ (s : IVec). own_news rank s pieces) same ∙ news_are_own

  -- the overlaps with the pieces
  base_fits : (rank : ℕ) (e : Link) → Member e (modify_pair (modifying p w) rank).back.edges → IsBox (refined e.base.bx (step_of p w.number))
  base_fits rank e m =
      let r = ratio_to p w.number in
      let n = scale (area_of p).frame p.width r r in
      let is = Member-from_overlaps n (news_of (modifying p w)) w.level e (Member-from_of_rank rank (true_overlaps n (news_of (modifying p w)) w.level) e m).0 in
      piece_box e.base (in_news e.base is.is_base)

  head_fits : (rank : ℕ) (e : Link) → Member e (modify_pair (modifying p w) rank).forth.edges → IsBox (refined e.head.bx (step_of p w.number))
  head_fits rank e m =
      let r = ratio_to p w.number in
      let n = scale (area_of p).frame p.width r r in
      let is = Member-from_overlaps n w.level (news_of (modifying p w)) e (Member-from_of_rank rank (true_overlaps n w.level (news_of (modifying p w))) e m).0 in
      piece_box e.head (in_news e.head is.is_head)

  module _ (rank : ℕ) (placed : Pair) (step : IVec) (is : placed ≡ modify_pair (modifying p w) rank) (same : step ≡ step_of p w.number) where
    pub bases_fit : All (λ (e : Link). IsBox (refined e.base.bx step)) placed.back.edges
    bases_fit =
        let all = All-from_members (λ (e : Link). IsBox (refined e.base.bx (step_of p w.number))) (modify_pair (modifying p w) rank).back.edges (base_fits rank) in
        subst (λ (s : IVec). All (λ (e : Link). IsBox (refined e.base.bx s)) placed.back.edges) (sym same)
        (subst (λ (v : Pair). All (λ (e : Link). IsBox (refined e.base.bx (step_of p w.number))) v.back.edges) (sym is) all)

    pub heads_fit : All (λ (e : Link). IsBox (refined e.head.bx step)) placed.forth.edges
    heads_fit =
        let all = All-from_members (λ (e : Link). IsBox (refined e.head.bx (step_of p w.number))) (modify_pair (modifying p w) rank).forth.edges (head_fits rank) in
        subst (λ (s : IVec). All (λ (e : Link). IsBox (refined e.head.bx s)) placed.forth.edges) (sym same)
        (subst (λ (v : Pair). All (λ (e : Link). IsBox (refined e.head.bx (step_of p w.number))) v.forth.edges) (sym is) all)

    pub new_ratio_back : IsRatio (times placed.back.base_ratio step)
    new_ratio_back =
        subst (λ (s : IVec). IsRatio (times placed.back.base_ratio s)) (sym same) (subst (λ (v : Pair). IsRatio (times v.back.base_ratio (step_of p w.number))) (sym is) run.can.next.ratio)

    pub new_ratio_forth : IsRatio (times placed.forth.head_ratio step)
    new_ratio_forth =
        subst (λ (s : IVec). IsRatio (times placed.forth.head_ratio s)) (sym same) (subst (λ (v : Pair). IsRatio (times v.forth.head_ratio (step_of p w.number))) (sym is) run.can.next.ratio)

    with_edges : (a b : List Link) (c d : List Link) (width base head : IVec) → a ≡ c → b ≡ d
        → (let v : Pair = record { forth = record { width = width; base_ratio = base; head_ratio = head; edges = a }; back = record { width = width; base_ratio = head; head_ratio = base; edges = b } } in v)
        ≡ record { forth = record { width = width; base_ratio = base; head_ratio = head; edges = c }; back = record { width = width; base_ratio = head; head_ratio = base; edges = d } }
    with_edges a b c d width base head e f =
        ap (λ (l : List Link). let v : Pair = record { forth = record { width = width; base_ratio = base; head_ratio = head; edges = l }; back = record { width = width; base_ratio = head; head_ratio = base; edges = b } } in v) e
        ∙ ap (λ (l : List Link). let v : Pair = record { forth = record { width = width; base_ratio = base; head_ratio = head; edges = c }; back = record { width = width; base_ratio = head; head_ratio = base; edges = l } } in v) f

    refined_is : refined_pair (step_of p w.number) (modify_pair (modifying p w) rank) ≡ pair_at p (new_level p w) (suc w.number) w.level w.number rank
    unfolding refined_pair
    refined_is =
        let both = pairs_refined p w run rank in
        with_edges _ _ _ _ p.width (ratio_to p (suc w.number)) (ratio_to p w.number) (sym both.1) (sym both.0)

    pub under_is : (under : Pair) → under ≡ refined_pair step placed → under ≡ pair_at p (new_level p w) (suc w.number) w.level w.number rank
    under_is under made =
        made ∙ ap (λ (s : IVec). refined_pair s placed) same ∙ ap (refined_pair (step_of p w.number)) is ∙ refined_is
