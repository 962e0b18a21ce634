-- The overlaps of the clusters and the level, by what one rank knows.
use Rattle.std.proofs.Common.{◌≡◌, ℕ, refl, sym, ap, subst, ◌∙◌, arith}
use Rattle.std.proofs.lemmas.Int.{ints, clamps}
use Rattle.std.specs.Prelude.{pos, true, List, map, nat_eq, ◌↔◌}
use Rattle.samr_box.specs.declared.vector.IVec.{IVec}
use Rattle.samr_box.specs.Vector.{alike, times, greatest, IsRatio}
use Rattle.samr_box.specs.Corners.{Corners, meets, grown}
use Rattle.samr_box.specs.Ratios.{coarse, refined}
use Rattle.samr_box.specs.Space.{Space, finer, image, opposite}
use Rattle.samr_box.specs.Lists.{Member}
use Rattle.samr_box.proofs.Vectors.{same_cell}
use Rattle.samr_box.proofs.Floors.{floor_self}
use Rattle.samr_box.proofs.Totals.{same_corners}
use Rattle.samr_box.proofs.Members.{Member-map, Member-from_map, Member-filter, Member-from_filter}
use Rattle.samr_level.specs.Refs.{Owned, Link, turned}
use Rattle.samr_level.specs.Levels.{own, own_boxes}
use Rattle.samr_level.specs.Overlaps.{Scale, scale, scale_in, near, shifts, true_overlaps, IsTrueOverlap}
use Rattle.samr_level.proofs.RefLaws.{same_owned}
use Rattle.samr_level.proofs.Overlapping.{turn, Member-overlaps, Member-from_overlaps}
use Rattle.samr_rounds.specs.Near.{meets_at, meets_an_image, is_near}
use Rattle.samr_rounds.proofs.Lists.{any_member}
use Rattle.samr_cluster.specs.declared.accepted.Accepted.{Accepted}
use Rattle.samr_cluster.specs.Cluster.{Clustering, IsClustering, clusters_of}
use Rattle.samr_cluster.specs.Cluster as whole
use Rattle.samr_cluster.specs.Accepting.{near_accepted, cluster_of}
use Rattle.samr_cluster.specs.EdgesRow.{cluster_scale, with_boxes_of}
use Rattle.samr_cluster.proofs.ListLaws.{same_number, is_same_number}
use Rattle.samr_cluster.proofs.NodeLaws.{Member-near, Member-from_near, accepted_in_level, level_is_accepted}

-- how boxes of one level are compared
abbrev plain : Space → IVec → Scale
plain d width = record { base = alike (pos 1); head = alike (pos 1); reach = width; domain = d }

greatest_same : (r : IVec) → greatest r r ≡ r
greatest_same r = same_cell (omega (arith, ints, clamps)) (omega (arith, ints, clamps)) (omega (arith, ints, clamps))

coarse_same : (r : IVec) → IsRatio r → coarse r r ≡ alike (pos 1)
coarse_same r h = same_cell (floor_self r.k (omega (arith, ints, h.low.k))) (floor_self r.j (omega (arith, ints, h.low.j))) (floor_self r.i (omega (arith, ints, h.low.i)))

times_one : (x : IVec) → times x (alike (pos 1)) ≡ x
times_one x = same_cell (omega (arith, ints)) (omega (arith, ints)) (omega (arith, ints))

abbrev scale_of : Space → IVec → IVec → IVec → Scale
scale_of d width base head = record { base = base; head = head; reach = times (times width base) head; domain = d }

pub scale_from : (frame : Space) (width r : IVec) → scale_in (finer frame r) width r r ≡ scale frame width r r
scale_from frame width r =
    ap (λ (g : IVec). scale_of (finer frame g) width (coarse (greatest r r) r) (coarse (greatest r r) r)) (sym (greatest_same r))

scale_plain : (frame : Space) (width r : IVec) → IsRatio r → scale frame width r r ≡ plain (finer frame r) width
scale_plain frame width r h =
    ap (λ (g : IVec). scale_of (finer frame g) width (coarse g r) (coarse g r)) (greatest_same r)
    ∙ ap (λ (o : IVec). scale_of (finer frame r) width o o) (coarse_same r h)
    ∙ ap (λ (v : IVec). let n : Scale = record { base = alike (pos 1); head = alike (pos 1); reach = v; domain = finer frame r } in n) (times_one (times width (alike (pos 1))) ∙ times_one width)

refined_one : (b : Corners) → refined b (alike (pos 1)) ≡ b
refined_one b =
    same_corners (times_one b.lo) (same_cell (omega (arith, ints)) (omega (arith, ints)) (omega (arith, ints)))

near_plain : (d : Space) (width : IVec) (a b : Corners) (s : IVec) → near (plain d width) a b s ≡ meets_at d width b a s
unfolding meets_at
near_plain d width a b s =
    ap (λ (x : Corners). meets (grown x width) (image d (refined b (alike (pos 1))) s)) (refined_one a)
    ∙ ap (λ (x : Corners). meets (grown a width) (image d x s)) (refined_one b)

overlap_meets : (frame : Space) (width r : IVec) (bases heads : List Owned) (e : Link) → IsRatio r → IsTrueOverlap (scale frame width r r) bases heads e
    → meets_at (finer frame r) width e.head.bx e.base.bx e.shift ≡ true
overlap_meets frame width r bases heads e ratio h =
    sym (ap (λ (n : Scale). near n e.base.bx e.head.bx e.shift) (scale_plain frame width r ratio) ∙ near_plain (finer frame r) width e.base.bx e.head.bx e.shift) ∙ h.is_near

near_by : (d : Space) (width : IVec) (boxes : List Corners) (node b : Corners) (s : IVec) → Member b boxes → Member s (shifts d.periodic) → meets_at d width node b s ≡ true → is_near d width boxes node ≡ true
unfolding is_near meets_an_image
near_by d width boxes node b s m n t =
    any_member (λ b. meets_an_image d width node b) b boxes m (any_member (meets_at d width node b) s (shifts d.periodic) n t)

-- the boxes of a rank
pub Member-own_boxes : (r : ℕ) (level : List Owned) (o : Owned) → Member o level → o.owner ≡ r → Member o.bx (own_boxes r level)
unfolding own
Member-own_boxes r level o m e = Member-map (λ b. b.bx) o (own r level) (Member-filter (λ b. nat_eq b.owner r) o level m (is_same_number o.owner r e))

pub Member-from_own_boxes : (r : ℕ) (level : List Owned) (b : Corners) → Member b (own_boxes r level) → Member (let o : Owned = record { owner = r; bx = b } in o) level
unfolding own
Member-from_own_boxes r level b m =
    let s = Member-from_map (λ (b : Owned). b.bx) b (own r level) m in
    let f = Member-from_filter (λ (b : Owned). nat_eq b.owner r) s.0 level s.1 in
    let o : Owned = record { owner = r; bx = b } in
    subst (λ (v : Owned). Member v level) (same_owned {a = s.0} {b = o} (same_number s.0.owner r f.1) (sym s.2)) f.0

module _ (w : Clustering) (is : IsClustering w) where
  -- a rank with a box near a cluster is near it
  pub overlap_near : (e : Link) → IsTrueOverlap (cluster_scale w) (clusters_of w) w.level e → whole.near w e.head.owner e.base.bx ≡ true
  overlap_near e h =
      let t = turn w.frame w.width w.ratio w.ratio (clusters_of w) w.level e h in
      near_by (finer w.frame w.ratio) w.width (own_boxes e.head.owner w.level) e.base.bx e.head.bx (opposite e.shift)
      (Member-own_boxes e.head.owner w.level e.head h.is_head refl) t.is_shift
      (overlap_meets w.frame w.width w.ratio w.level (clusters_of w) (turned e) is.ratio t)

  pub Member-with_boxes : (r : ℕ) (e : Link) → IsTrueOverlap (cluster_scale w) (clusters_of w) w.level e → e.head.owner ≡ r → Member e (with_boxes_of w r)
  unfolding with_boxes_of
  Member-with_boxes r e h own =
      Member-filter (λ e. nat_eq e.head.owner r) e (true_overlaps (cluster_scale w) (clusters_of w) w.level)
      (Member-overlaps (cluster_scale w) (clusters_of w) w.level e h) (is_same_number e.head.owner r own)

  pub Member-from_with_boxes : (r : ℕ) (e : Link) → Member e (with_boxes_of w r) → IsTrueOverlap (cluster_scale w) (clusters_of w) w.level e × (e.head.owner ≡ r)
  unfolding with_boxes_of
  Member-from_with_boxes r e m =
      let f = Member-from_filter (λ e. nat_eq e.head.owner r) e (true_overlaps (cluster_scale w) (clusters_of w) w.level) m in
      (Member-from_overlaps (cluster_scale w) (clusters_of w) w.level e f.0, same_number e.head.owner r f.1)

  abbrev own_ref : ℕ → Corners → Owned
  own_ref r b = record { owner = r; bx = b }

  -- the overlaps of the accepted boxes that a rank is told of with its boxes are all overlaps of clusters with these
  module _ (r : ℕ) (list : List Accepted) (same : (a : Accepted) → Member a list ↔ Member a (near_accepted w r)) where
    found_sound : (e : Link) → IsTrueOverlap (cluster_scale w) (map (λ a. cluster_of a) list) (map (own_ref r) (own_boxes r w.level)) e → Member e (with_boxes_of w r)
    found_sound e h =
        let s = Member-from_map (λ a. cluster_of a) e.base list h.is_base in
        let a = Member-from_near w is r s.0 ((same s.0).0 s.1) in
        let t = Member-from_map (own_ref r) e.head (own_boxes r w.level) h.is_head in
        Member-with_boxes r e
        (record {
          is_base = subst (λ (v : Owned). Member v (clusters_of w)) (sym s.2) (accepted_in_level w is s.0 a.0);
          is_head = subst (λ (v : Owned). Member v w.level) (sym t.2) (Member-from_own_boxes r w.level t.0 t.1);
          is_shift = h.is_shift;
          is_near = h.is_near;
        }) (ap (λ (v : Owned). v.owner) t.2)

    found_whole : (e : Link) → Member e (with_boxes_of w r) → IsTrueOverlap (cluster_scale w) (map (λ a. cluster_of a) list) (map (own_ref r) (own_boxes r w.level)) e
    found_whole e m =
        let p = Member-from_with_boxes r e m in
        let h = p.0 in
        let s = level_is_accepted w is e.base h.is_base in
        let k = s.4 e.head.owner (is.level.owners e.head h.is_head) (overlap_near e h) in
        let a = (same s.0).1 (Member-near w is r s.0 s.1 (subst (λ (v : ℕ). Member v s.0.near) p.1 k)) in
        let base : cluster_of s.0 ≡ e.base = same_owned {a = cluster_of s.0} {b = e.base} s.2 s.3 in
        let head : own_ref r e.head.bx ≡ e.head = same_owned {a = own_ref r e.head.bx} {b = e.head} (sym p.1) refl in
        record {
          is_base = subst (λ (v : Owned). Member v (map (λ a. cluster_of a) list)) base (Member-map (λ a. cluster_of a) s.0 list a);
          is_head = subst (λ (v : Owned). Member v (map (own_ref r) (own_boxes r w.level))) head (Member-map (own_ref r) e.head.bx (own_boxes r w.level) (Member-own_boxes r w.level e.head h.is_head p.1));
          is_shift = h.is_shift;
          is_near = h.is_near;
        }

    pub found_is : (e : Link) → Member e (true_overlaps (cluster_scale w) (map (λ a. cluster_of a) list) (map (own_ref r) (own_boxes r w.level))) ↔ Member e (with_boxes_of w r)
    found_is e = (
      λ m. found_sound e (Member-from_overlaps (cluster_scale w) (map (λ a. cluster_of a) list) (map (own_ref r) (own_boxes r w.level)) e m),
      λ m. Member-overlaps (cluster_scale w) (map (λ a. cluster_of a) list) (map (own_ref r) (own_boxes r w.level)) e (found_whole e m),
    )
