-- A rank's stage of the overlaps against the whole.
use Rattle.std.proofs.Common.{◌≡◌, ◌≢◌, ℕ, ◌<◌, refl, sym, ap, subst, ◌∙◌, inl, inr, ◌++◌, map, filter, not, nat_eq}
use Rattle.std.proofs.lemmas.Bool.{cases_eq}
use Rattle.std.proofs.lemmas.Cmp.{nat_cmp_total}
use Rattle.std.proofs.lemmas.List.Kept.{IsStrictlySortedBy-filter}
use Rattle.std.specs.Prelude.{List, [], Bool, true, false, ◌↔◌, ◌⊎◌, if◌then◌else◌}
use Rattle.std.specs.List.{flat_map}
use Rattle.std.specs.List.Sorted.{IsStrictlySortedBy}
use Rattle.std.specs.Ordering.{nat_cmp}
use Rattle.samr_box.specs.declared.vector.IVec.{IVec}
use Rattle.samr_box.specs.Corners.{Corners}
use Rattle.samr_box.specs.Space.{Space, finer}
use Rattle.samr_box.specs.Lists.{Member}
use Rattle.samr_box.proofs.Members.{Member-map, Member-from_map, Member-filter, Member-from_filter, Member-flat_map, Member-from_flat_map, Member-append_left, Member-append_right, Member-from_append}
use Rattle.samr_stage.specs.declared.stage.Held.{Held}
use Rattle.samr_stage.specs.Row.{told, heard, column}
use Rattle.samr_level.specs.declared.parts.Connector.{Connector}
use Rattle.samr_level.specs.declared.parts.Pair.{Pair}
use Rattle.samr_level.specs.Refs.{Owned, Link, turned}
use Rattle.samr_level.specs.RefOrders.{ref_cmp, edge_cmp, in_order}
use Rattle.samr_level.specs.Overlaps.{scale_in, true_overlaps, of_rank, IsTrueOverlap}
use Rattle.samr_level.proofs.RefLaws.{same_nat, edge_total, same_from_edge_cmp, ref_total}
use Rattle.samr_level.proofs.Sorting.{in_order_is, sorted-in_order, Member-in_order, Member-from_in_order}
use Rattle.samr_level.proofs.Overlapping.{connector_is, overlaps_sorted, turn, turned_twice, Member-of_rank, Member-from_of_rank}
use Rattle.samr_level.specs.Levels.{own_boxes}
use Rattle.samr_rounds.specs.Owners.{cluster_level}
use Rattle.samr_peers.specs.Peers.{other_owners}
use Rattle.samr_peers.proofs.PeerRows.{letters_are, heard_out, heard_in, not_same, is_not_same}
use Rattle.samr_cluster.specs.declared.accepted.Accepted.{Accepted}
use Rattle.samr_cluster.specs.Cluster.{Clustering, IsClustering, clusters_of}
use Rattle.samr_cluster.specs.Accepting.{near_accepted, cluster_of, to_owners, to_near}
use Rattle.samr_cluster.specs.EdgesRow.{cluster_scale, with_boxes_of, edges_row, cluster_pair}
use Rattle.samr_cluster.specs.EdgesParts.{HasAccepted, HasCompared}
use Rattle.samr_cluster.proofs.ListLaws.{same_in_order, same_number, is_same_number}
use Rattle.samr_cluster.proofs.NodeLaws.{Member-near, Member-from_near, Member-own, Member-from_own, owner_near, level_is_accepted}
use Rattle.samr_cluster.proofs.JoinLaws.{to_owner, to_rank, Member-to_owners, Member-from_to_owners, Member-to_near, Member-from_to_near, joined}
use Rattle.samr_cluster.proofs.OverlapLaws.{scale_from, found_is, overlap_near, Member-with_boxes, Member-from_with_boxes}

abbrev body_of : Clustering → ℕ → ℕ → List Link
body_of w from to = of_rank to (with_boxes_of w from)

abbrev near_others : ℕ → Accepted → List ℕ
near_others r a = if nat_eq a.owner r then filter (λ k. not (nat_eq k r)) a.near else []

Member-near_others : (r k : ℕ) (a : Accepted) → a.owner ≡ r → Member k a.near → k ≢ r → Member k (near_others r a)
Member-near_others r k a e m other = by_test (nat_eq a.owner r) (is_same_number a.owner r e)
  where
    by_test : (v : Bool) → v ≡ true → Member k (if v then filter (λ k. not (nat_eq k r)) a.near else [])
    by_test true t = Member-filter (λ k. not (nat_eq k r)) k a.near m (is_not_same k r other)
    by_test false t = absurd (no_truth t)
      where
        no_truth : ◌≡◌ {A = Bool} false true → ⊥
        no_truth h = cc

Member-from_near_others : (r k : ℕ) (a : Accepted) → Member k (near_others r a) → (a.owner ≡ r) × Member k a.near × (k ≢ r)
Member-from_near_others r k a m = by_test (nat_eq a.owner r) refl m
  where
    by_test : (v : Bool) → nat_eq a.owner r ≡ v → Member k (if v then filter (λ k. not (nat_eq k r)) a.near else []) → (a.owner ≡ r) × Member k a.near × (k ≢ r)
    by_test true t n = let f = Member-from_filter (λ k. not (nat_eq k r)) k a.near n in (same_number a.owner r t, f.0, not_same k r f.1)
    by_test false t n = absurd n

module _ (w : Clustering) (is : IsClustering w) (r : ℕ) where
  -- whom the rank tells, and who tells it
  module _ (list : List Accepted) (same : (a : Accepted) → Member a list ↔ Member a (near_accepted w r)) where
    pub addressees_are : in_order nat_cmp (filter (λ k. not (nat_eq k r)) (map (λ a. a.owner) list)) ≡ other_owners r (to_owners w r)
    unfolding other_owners
    addressees_are =
        let owners : List ℕ = map (λ a. a.owner) list in
        let heads : List ℕ = map (λ e. e.head.owner) (to_owners w r) in
        same_in_order nat_cmp_total same_nat (filter (λ k. not (nat_eq k r)) owners) (filter (λ k. not (nat_eq k r)) heads)
        (λ k m.
        let f = Member-from_filter (λ k. not (nat_eq k r)) k owners m in
        let s = Member-from_map (λ (a : Accepted). a.owner) k list f.0 in
        let t = Member-to_owners w r s.0 ((same s.0).0 s.1) in
        Member-filter (λ k. not (nat_eq k r)) k heads (subst (λ (v : ℕ). Member v heads) (sym s.2) (Member-map (λ (e : Link). e.head.owner) (to_owner r s.0) (to_owners w r) t)) f.1)
        (λ k m.
        let f = Member-from_filter (λ k. not (nat_eq k r)) k heads m in
        let s = Member-from_map (λ (e : Link). e.head.owner) k (to_owners w r) f.0 in
        let t = Member-from_to_owners w r s.0 s.1 in
        let k_is : k ≡ t.0.owner = s.2 ∙ ap (λ (e : Link). e.head.owner) t.2 in
        Member-filter (λ k. not (nat_eq k r)) k owners (subst (λ (v : ℕ). Member v owners) (sym k_is) (Member-map (λ (a : Accepted). a.owner) t.0 list ((same t.0).1 t.1))) f.1)

    pub senders_are : in_order nat_cmp (flat_map (λ a. near_others r a) list) ≡ other_owners r (to_near w r)
    unfolding other_owners
    senders_are =
        let others : List ℕ = flat_map (λ a. near_others r a) list in
        let heads : List ℕ = map (λ e. e.head.owner) (to_near w r) in
        same_in_order nat_cmp_total same_nat others (filter (λ k. not (nat_eq k r)) heads)
        (λ k m.
        let s = Member-from_flat_map (λ a. near_others r a) k list m in
        let o = Member-from_near_others r k s.0 s.2 in
        let n = Member-from_near w is r s.0 ((same s.0).0 s.1) in
        let t = Member-to_near w r s.0 k (Member-own w is r s.0 n.0 o.0) o.1 in
        Member-filter (λ k. not (nat_eq k r)) k heads (Member-map (λ (e : Link). e.head.owner) (to_rank r s.0 k) (to_near w r) t) (is_not_same k r o.2))
        (λ k m.
        let f = Member-from_filter (λ k. not (nat_eq k r)) k heads m in
        let s = Member-from_map (λ (e : Link). e.head.owner) k (to_near w r) f.0 in
        let t = Member-from_to_near w r s.0 s.1 in
        let a = t.0 in
        let k_is : k ≡ t.1 = s.2 ∙ ap (λ (e : Link). e.head.owner) t.4 in
        let own = Member-from_own w is r a t.2 in
        let near = Member-near w is r a own.0 (subst (λ (v : ℕ). Member v a.near) own.1 (owner_near w is a own.0)) in
        let n = subst (λ (v : ℕ). Member v a.near) (sym k_is) t.3 in
        Member-flat_map (λ a. near_others r a) k a list ((same a).1 near) (Member-near_others r k a own.1 n (not_same k r f.1)))

  -- what the rank tells another
  module _ (found : List Link) (same : (e : Link) → Member e found ↔ Member e (with_boxes_of w r)) where
    level_sorted : IsStrictlySortedBy ref_cmp (clusters_of w)
    unfolding cluster_level
    level_sorted = sorted-in_order ref_total _

    body_sorted : (to : ℕ) → IsStrictlySortedBy edge_cmp (body_of w r to)
    unfolding of_rank with_boxes_of
    body_sorted to =
        let all = true_overlaps (cluster_scale w) (clusters_of w) w.level in
        IsStrictlySortedBy-filter edge_cmp (λ e. nat_eq e.base.owner to) (filter (λ e. nat_eq e.head.owner r) all)
        (IsStrictlySortedBy-filter edge_cmp (λ e. nat_eq e.head.owner r) all (overlaps_sorted (cluster_scale w) (clusters_of w) w.level level_sorted is.level.in_order))

    pub body_is : (to : ℕ) → in_order edge_cmp (of_rank to found) ≡ body_of w r to
    body_is to =
        sym (in_order_is edge_total same_from_edge_cmp (of_rank to found) (body_of w r to) (body_sorted to)
        (λ e m. let f = Member-from_of_rank to (with_boxes_of w r) e m in Member-of_rank to found e ((same e).1 f.0) f.1)
        (λ e m. let f = Member-from_of_rank to found e m in Member-of_rank to (with_boxes_of w r) e ((same e).0 f.0) f.1))

    pub letters_told : r < w.ranks → map (λ to. (to, in_order edge_cmp (of_rank to found))) (other_owners r (to_owners w r)) ≡ told (edges_row w r) w.ranks
    unfolding edges_row
    letters_told within =
        ap (λ (f : ℕ → ℕ × List Link). map f (other_owners r (to_owners w r))) (λ i to. (to, body_is to i))
        ∙ sym (letters_are w.ranks (to_owners w) (to_near w) (body_of w) (joined w is) r within)

    -- the connector from the level to the clusters
    pub forth_is : in_order edge_cmp (map (λ e. turned e) found) ≡ of_rank r (true_overlaps (cluster_scale w) w.level (clusters_of w))
    forth_is =
        let back : List Link = map (λ e. turned e) found in
        connector_is (cluster_scale w) w.level (clusters_of w) r (in_order edge_cmp back) is.level.in_order level_sorted (sorted-in_order edge_total back)
        (λ e m.
        let s = Member-from_map (λ e. turned e) e found (Member-from_in_order edge_total e back m) in
        let h = Member-from_with_boxes w is r s.0 ((same s.0).0 s.1) in
        subst (λ (v : Link). IsTrueOverlap (cluster_scale w) w.level (clusters_of w) v × (v.base.owner ≡ r)) (sym s.2) (turn w.frame w.width w.ratio w.ratio (clusters_of w) w.level s.0 h.0, h.1))
        (λ e h own.
        let t = turn w.frame w.width w.ratio w.ratio w.level (clusters_of w) e h in
        let m = Member-map (λ e. turned e) (turned e) found ((same (turned e)).1 (Member-with_boxes w is r (turned e) t own)) in
        Member-in_order edge_total same_from_edge_cmp e back (subst (λ (v : Link). Member v back) (turned_twice e) m))

    -- the connector from the clusters to the level
    module _ (within : r < w.ranks) (held : List (Held (List Link))) (are : held ≡ heard (column (edges_row w) r) w.ranks) where
      abbrev all : List Link
      all = found ++ flat_map (λ letter. letter.body) held

      told_sound : (e : Link) (h : Held (List Link)) → Member h held → Member e h.body → IsTrueOverlap (cluster_scale w) (clusters_of w) w.level e
      unfolding edges_row
      told_sound e h m n =
          let o = heard_out w.ranks (to_owners w) (to_near w) (body_of w) (joined w is) r within h (subst (λ (l : List (Held (List Link))). Member h l) are m) in
          let b = Member-from_of_rank r (with_boxes_of w h.sender) e (subst (λ (l : List Link). Member e l) o.0 n) in
          (Member-from_with_boxes w is h.sender e b.0).0

      told_whole : (e : Link) → IsTrueOverlap (cluster_scale w) (clusters_of w) w.level e → e.base.owner ≡ r → e.head.owner ≢ r → Member e (flat_map (λ (letter : Held (List Link)). letter.body) held)
      unfolding edges_row
      told_whole e h own other =
          let k = e.head.owner in
          let s = level_is_accepted w is e.base h.is_base in
          let near = s.4 k (is.level.owners e.head h.is_head) (overlap_near w is e h) in
          let link = Member-to_near w r s.0 k (Member-own w is r s.0 s.1 (s.2 ∙ own)) near in
          let letter : Held (List Link) = record { sender = k; body = body_of w k r } in
          let there = heard_in w.ranks (to_owners w) (to_near w) (body_of w) (joined w is) r within (to_rank r s.0 k) link other in
          Member-flat_map (λ (letter : Held (List Link)). letter.body) e letter held
          (subst (λ (l : List (Held (List Link))). Member letter l) (sym are) there)
          (Member-of_rank r (with_boxes_of w k) e (Member-with_boxes w is k e h refl) own)

      all_sound : (e : Link) → Member e all ⊎ ⊥ → IsTrueOverlap (cluster_scale w) (clusters_of w) w.level e
      all_sound e (inr never) = absurd never
      all_sound e (inl m) = elim (Member-from_append e found (flat_map (λ letter. letter.body) held) m) [
        | inl own ↦ (Member-from_with_boxes w is r e ((same e).0 own)).0
        | inr told ↦ let s = Member-from_flat_map (λ (letter : Held (List Link)). letter.body) e held told in told_sound e s.0 s.1 s.2
      ]

      all_whole : (e : Link) → IsTrueOverlap (cluster_scale w) (clusters_of w) w.level e → e.base.owner ≡ r → Member e all
      all_whole e h own = elim (cases_eq e.head.owner r) [
        | inl here ↦ Member-append_left e found (flat_map (λ letter. letter.body) held) ((same e).1 (Member-with_boxes w is r e h here))
        | inr other ↦ Member-append_right e found (flat_map (λ letter. letter.body) held) (told_whole e h own other)
      ]

      pub back_is : in_order edge_cmp (of_rank r all) ≡ of_rank r (true_overlaps (cluster_scale w) (clusters_of w) w.level)
      back_is =
          connector_is (cluster_scale w) (clusters_of w) w.level r (in_order edge_cmp (of_rank r all)) level_sorted is.level.in_order (sorted-in_order edge_total (of_rank r all))
          (λ e m. let f = Member-from_of_rank r all e (Member-from_in_order edge_total e (of_rank r all) m) in (all_sound e (inl f.0), f.1))
          (λ e h own. Member-in_order edge_total same_from_edge_cmp e (of_rank r all) (Member-of_rank r all e (all_whole e h own) own))

-- a rank's stage, whatever its fields
connectors : (width width' base base' head head' : IVec) (edges edges' : List Link) → width ≡ width' → base ≡ base' → head ≡ head' → edges ≡ edges'
    → (let x : Connector = record { width = width; base_ratio = base; head_ratio = head; edges = edges } in x)
    ≡ record { width = width'; base_ratio = base'; head_ratio = head'; edges = edges' }
connectors width width' base base' head head' edges edges' e f g h = rw (e, f, g, h)

pairs : (forth forth' back back' : Connector) → forth ≡ forth' → back ≡ back' → (let x : Pair = record { forth = forth; back = back } in x) ≡ record { forth = forth'; back = back' }
pairs forth forth' back back' e f = rw (e, f)

pub tells : (rank : ℕ) (width ratio : IVec) (found : List Link) (addressees senders : List ℕ) (w : Clustering) (r : ℕ)
    → HasCompared rank width ratio found addressees senders w r
    → map (λ to. (to, in_order edge_cmp (of_rank to found))) addressees ≡ told (edges_row w r) w.ranks
tells rank width ratio found addressees senders w r h =
    ap (map (λ (to : ℕ). (to, in_order edge_cmp (of_rank to found)))) h.same_addressees
    ∙ letters_told w h.is r found h.same_edges h.within

pub ends : (rank : ℕ) (width ratio : IVec) (found : List Link) (addressees senders : List ℕ) (w : Clustering) (r : ℕ)
    → HasCompared rank width ratio found addressees senders w r
    → (held : List (Held (List Link))) → held ≡ heard (column (edges_row w) r) w.ranks
    → (forth back : List Link) → forth ≡ in_order edge_cmp (map (λ e. turned e) found) → back ≡ in_order edge_cmp (of_rank rank (found ++ flat_map (λ letter. letter.body) held))
    → (let x : Pair = record {
      forth = record { width = width; base_ratio = ratio; head_ratio = ratio; edges = forth };
      back = record { width = width; base_ratio = ratio; head_ratio = ratio; edges = back };
    } in x) ≡ cluster_pair w r
ends rank width ratio found addressees senders w r h held are forth back f b =
    let there = f ∙ forth_is w h.is r found h.same_edges in
    let here = b ∙ ap (λ (k : ℕ). in_order edge_cmp (of_rank k (found ++ flat_map (λ letter. letter.body) held))) h.same_rank ∙ back_is w h.is r found h.same_edges h.within held are in
    pairs _ _ _ _
    (connectors width w.width ratio w.ratio ratio w.ratio forth _ h.same_width h.same_ratio h.same_ratio there)
    (connectors width w.width ratio w.ratio ratio w.ratio back _ h.same_width h.same_ratio h.same_ratio here)

-- what the rank has once it has compared its boxes
abbrev compared_by : Space → IVec → IVec → List Accepted → ℕ → List Corners → List Link
compared_by d width ratio list rank boxes =
    true_overlaps (scale_in d width ratio ratio) (map (λ a. cluster_of a) list) (map (λ b. let o : Owned = record { owner = rank; bx = b } in o) boxes)

pub begins : (rank : ℕ) (frame : Space) (boxes : List Corners) (list : List Accepted) (width ratio : IVec) (w : Clustering) (r : ℕ)
    → HasAccepted rank frame boxes list width ratio w r
    → (d : Space) (found : List Link) (addressees senders : List ℕ) → d ≡ finer frame ratio
    → found ≡ compared_by d width ratio list rank boxes
    → addressees ≡ in_order nat_cmp (filter (λ k. not (nat_eq k rank)) (map (λ a. a.owner) list))
    → senders ≡ in_order nat_cmp (flat_map (λ a. near_others rank a) list)
    → HasCompared rank width ratio found addressees senders w r
begins rank frame boxes list width ratio w r h d found addressees senders finest e to from =
    let same : found ≡ true_overlaps (cluster_scale w) (map (λ a. cluster_of a) list) (map (λ b. let o : Owned = record { owner = r; bx = b } in o) (own_boxes r w.level)) =
    e
    ∙ ap (λ (s : Space). compared_by s width ratio list rank boxes) finest
    ∙ ap (λ (s : Space). compared_by (finer s ratio) width ratio list rank boxes) h.same_frame
    ∙ ap (λ (v : IVec). compared_by (finer w.frame v) width v list rank boxes) h.same_ratio
    ∙ ap (λ (v : IVec). compared_by (finer w.frame w.ratio) v w.ratio list rank boxes) h.same_width
    ∙ ap (λ (k : ℕ). compared_by (finer w.frame w.ratio) w.width w.ratio list k boxes) h.same_rank
    ∙ ap (λ (l : List Corners). compared_by (finer w.frame w.ratio) w.width w.ratio list r l) h.same_boxes
    ∙ ap (λ n. true_overlaps n (map (λ a. cluster_of a) list) (map (λ b. let o : Owned = record { owner = r; bx = b } in o) (own_boxes r w.level))) (scale_from w.frame w.width w.ratio) in
    record {
      is = h.is;
      same_rank = h.same_rank;
      within = h.within;
      same_width = h.same_width;
      same_ratio = h.same_ratio;
      same_edges = λ x. subst (λ (l : List Link). Member x l ↔ Member x (with_boxes_of w r)) (sym same) (found_is w h.is r list h.same_accepted x);
      same_addressees = to ∙ ap (λ (n : ℕ). in_order nat_cmp (filter (λ k. not (nat_eq k n)) (map (λ a. a.owner) list))) h.same_rank ∙ addressees_are w h.is r list h.same_accepted;
      same_senders = from ∙ ap (λ (n : ℕ). in_order nat_cmp (flat_map (λ a. near_others n a) list)) h.same_rank ∙ senders_are w h.is r list h.same_accepted;
    }
