-- The cut of a level of clusters is a level.
use Rattle.std.proofs.Common.{◌≡◌, ℕ, ◌<◌, ◌≤◌, refl, sym, ap, subst, ◌∙◌, inl, inr, arith}
use Rattle.std.specs.Prelude.{true, cond, List, [], ◌∷◌, map, ◌↔◌}
use Rattle.std.specs.List.{All, flat_map}
use Rattle.samr_box.specs.declared.vector.IVec.{IVec}
use Rattle.samr_box.specs.Corners.{Corners, IsBox, Holds, holds, grown, Meet}
use Rattle.samr_box.specs.Space.{whole}
use Rattle.samr_box.specs.Lists.{Member}
use Rattle.samr_box.proofs.CellSets.{holds-from, holds_box-means, meets-means, meets-from, Meet-cell}
use Rattle.samr_box.proofs.Members.{Member-map, Member-from_map, Member-flat_map, Member-from_flat_map, member_of_All, All-from_members}
use Rattle.samr_boxlist.specs.Covers.{cover, held, IsDisjoint}
use Rattle.samr_boxlist.specs.Pieces.{chopped}
use Rattle.samr_boxlist.proofs.Covering.{one, cover-cons, cover-intersect}
use Rattle.samr_level.specs.declared.parts.Move.{Move}
use Rattle.samr_level.specs.Refs.{Owned}
use Rattle.samr_level.specs.Regions.{Area, IsArea, boxes_of}
use Rattle.samr_level.specs.Levels.{IsLevel, IsCellIn}
use Rattle.samr_level.specs.Neighbours.{IsWidth}
use Rattle.samr_level.proofs.RefLaws.{ref_total, same_from_ref_cmp}
use Rattle.samr_level.proofs.Sorting.{Member-from_in_order, Member-in_order, sorted-in_order}
use Rattle.samr_nest.specs.Starts.{inner}
use Rattle.samr_nest.specs.Nested.{holes, nested, owned, cut_of, Stays, IsPieceOf, IsPlain}
use Rattle.samr_nest.proofs.NearParts.{AllWithin, AllFull, within_all_subtracted}
use Rattle.samr_nest.proofs.NestedBy.{inner_within, holes_within, gaps_full, within_full}
use Rattle.samr_nest.proofs.Subtracting.{cover-all_subtracted}
use Rattle.samr_nest.proofs.StayLaws.{nested_cells}
use Rattle.samr_nest.proofs.LeftLaws.{left_once}
use Rattle.samr_nest.proofs.NewLaws.{new_cells, new_once, new_pieces}
use Rattle.samr_nest.specs.CutLevels.{cuts, news_of, CanCut, IsCut}
use Rattle.samr_boxlist.proofs.ChoppedLists.{chopped_are}

-- two members of a list with a common cell, of which no cell lies in two boxes
member_covers : (x : IVec) (o : Owned) (os : List Owned) → Member o os → holds o.bx x ≡ true → 0 < cover x (map (λ b. b.bx) os)
member_covers x o [] m h = absurd m
member_covers x o (p ∷ os) (inl e) h =
    let here : holds p.bx x ≡ true = subst (λ (q : Owned). holds q.bx x ≡ true) e h in
    let is_one = ap one here in
    omega (arith, cover-cons x p.bx (map (λ b. b.bx) os), is_one)
member_covers x o (p ∷ os) (inr m) h = omega (arith, cover-cons x p.bx (map (λ b. b.bx) os), member_covers x o os m h)

one_owned : (x : IVec) (os : List Owned) (a b : Owned) → Member a os → Member b os → holds a.bx x ≡ true → holds b.bx x ≡ true
    → cover x (map (λ b. b.bx) os) ≤ 1 → a ≡ b
one_owned x [] a b m n h k few = absurd m
one_owned x (p ∷ os) a b (inl e) (inl f) h k few = e ∙ sym f
one_owned x (p ∷ os) a b (inl e) (inr n) h k few =
    let here = ap one (subst (λ (q : Owned). holds q.bx x ≡ true) e h) in
    absurd (omega (arith, few, cover-cons x p.bx (map (λ b. b.bx) os), here, member_covers x b os n k))
one_owned x (p ∷ os) a b (inr m) (inl f) h k few =
    let here = ap one (subst (λ (q : Owned). holds q.bx x ≡ true) f k) in
    absurd (omega (arith, few, cover-cons x p.bx (map (λ b. b.bx) os), here, member_covers x a os m h))
one_owned x (p ∷ os) a b (inr m) (inr n) h k few =
    one_owned x os a b m n h k (omega (arith, few, cover-cons x p.bx (map (λ b. b.bx) os)))

-- what the cut leaves of one cluster
pub record IsCutOf (area : Area) (level : List Owned) (nest : IVec) (largest : ℕ) (c : Owned) : Type 0 where
  pub cells : (x : IVec) → IsCellIn (cut_of area level nest largest c).news x ↔ Stays area level nest c.bx x
  pub once : IsDisjoint (map (λ b. b.bx) (cut_of area level nest largest c).news)
  pub pieces : (b : Owned) → Member b (cut_of area level nest largest c).news → IsPieceOf c largest b

module _ (area : Area) (ranks : ℕ) (level : List Owned) (nest : IVec) (largest : ℕ) (c : Owned)
    (is_area : IsArea area) (plain : IsPlain area) (is_level : IsLevel area ranks level) (width : IsWidth area.frame nest) (some : 0 < largest)
    (box : IsBox c.bx) (room : IsBox (grown c.bx nest)) (home : (x : IVec) → Holds c.bx x → Holds (whole area.frame) x) where
  rest : List Corners
  rest = nested area level nest c.bx

  gaps : List Corners
  gaps = map (λ m. grown m nest) (holes area level (grown c.bx nest))

  gaps_are_full : AllFull gaps
  unfolding gaps
  gaps_are_full =
      gaps_full nest (holes area level (grown c.bx nest)) width.low
      (within_full (grown c.bx nest) (holes area level (grown c.bx nest)) (holes_within area level (grown c.bx nest) is_area room is_level.not_empty))

  rest_within : AllWithin c.bx rest
  unfolding nested rest gaps
  rest_within = within_all_subtracted c.bx gaps (inner area c.bx) box (inner_within area is_area c.bx box) gaps_are_full

  rest_once : (x : IVec) → cover x rest ≤ cond (holds c.bx x) 1 0
  unfolding nested rest gaps
  rest_once x =
      left_once area x c.bx (boxes_of area) (inner area c.bx) rest (held x gaps) is_area refl
      (cover-intersect x (boxes_of area) c.bx) (cover-all_subtracted x gaps (inner area c.bx) gaps_are_full)

  pub one_cut : IsCutOf area level nest largest c
  unfolding rest
  one_cut =
      let chop = chopped_are largest rest some (λ b m. (rest_within b m).box) in
      let news = owned c.owner (chopped largest rest) in
      let stay = nested_cells area ranks level nest c.bx is_area is_level width box room home plain in
      record {
        cells = λ x.
            let into = new_cells c.owner (chopped largest rest) rest news x refl (chop.cells x) in
            (λ h. (stay x).0 (into.0 h), λ s. into.1 ((stay x).1 s));
        once = new_once c.owner (chopped largest rest) rest news c.bx refl chop.cells rest_once;
        pieces = λ b m.
            member_of_All (IsPieceOf c largest) b news
            (new_pieces c largest rest rest (chopped largest rest) news refl refl chop.cells rest_once (All_boxes (chopped largest rest) chop.boxes)) m;
      }
    where
      All_boxes : (list : List Corners) → ((q : Corners) → Member q list → IsBox q) → All IsBox list
      All_boxes list h = All-from_members IsBox list h

-- of a whole level of clusters
module _ (area : Area) (ranks : ℕ) (level : List Owned) (nest : IVec) (largest : ℕ) (clusters : List Owned) (can : CanCut area ranks level nest largest clusters) where
  unfoldable pub moves : List Move
  moves = cuts area level nest largest clusters

  all : List Owned
  all = flat_map (λ m. m.news) moves

  pub of_one : (c : Owned) → Member c clusters → IsCutOf area level nest largest c
  of_one c m = one_cut area ranks level nest largest c can.is_area can.plain can.is_level can.width can.some (can.boxes c m) (can.room c m) (λ x h. can.home c x m h)

  pub from_news : (b : Owned) → Member b (news_of moves) → (c : Owned) × Member c clusters × Member b (cut_of area level nest largest c).news
  unfolding moves all
  from_news b m =
      let o = Member-from_flat_map (λ (v : Move). v.news) b moves (Member-from_in_order ref_total b all m) in
      let c = Member-from_map (cut_of area level nest largest) o.0 clusters o.1 in
      (c.0, c.1, subst (λ (v : Move). Member b v.news) c.2 o.2)

  to_news : (b c : Owned) → Member c clusters → Member b (cut_of area level nest largest c).news → Member b (news_of moves)
  unfolding moves all
  to_news b c m n =
      Member-in_order ref_total same_from_ref_cmp b all
      (Member-flat_map (λ (v : Move). v.news) b (cut_of area level nest largest c) moves (Member-map (cut_of area level nest largest) c clusters m) n)

  pub piece : (b : Owned) (m : Member b (news_of moves)) → IsPieceOf (from_news b m).0 largest b
  piece b m = let o = from_news b m in (of_one o.0 o.1).pieces b o.2

  pub of_cluster : (b : Owned) (m : Member b (news_of moves)) (x : IVec) → Holds b.bx x → Holds (from_news b m).0.bx x
  of_cluster b m x h = let p = piece b m in (holds_box-means (from_news b m).0.bx b.bx p.is_box.order).0 p.inside x h

  apart : (a b : Owned) → Member a (news_of moves) → Member b (news_of moves) → Meet a.bx b.bx → a ≡ b
  apart a b m n meet =
      let o = from_news a m in
      let u = from_news b n in
      let cell = (meets-means a.bx b.bx (piece a m).is_box.order (piece b n).is_box.order).0 (meets-from {a = a.bx} {b = b.bx} meet) in
      let same : o.0 ≡ u.0 = can.are_clusters.disjoint o.0 u.0 o.1 u.1 (Meet-cell (of_cluster a m cell.0 cell.1) (of_cluster b n cell.0 cell.2)) in
      let there = subst (λ (v : Owned). Member b (cut_of area level nest largest v).news) (sym same) u.2 in
      one_owned cell.0 (cut_of area level nest largest o.0).news a b o.2 there (holds-from cell.1) (holds-from cell.2) ((of_one o.0 o.1).once cell.0)

  pub is_cut : IsCut area ranks level nest largest clusters
  unfolding moves all
  is_cut = record {
    is_level = record {
      in_order = sorted-in_order ref_total all;
      not_empty = λ b m. (piece b m).is_box.order;
      inside = λ b x m h. let o = from_news b m in (((of_one o.0 o.1).cells x).0 (b, o.2, h)).in_domain;
      disjoint = apart;
      owners = λ b m. let o = from_news b m in subst (λ (n : ℕ). n < ranks) (sym (piece b m).owner) (can.are_clusters.owners o.0 o.1);
    };
    boxes = λ b m. (piece b m).is_box;
    cells = λ x. (
      λ (b, m, h).
          let o = from_news b m in
          let s = ((of_one o.0 o.1).cells x).0 (b, o.2, h) in
          ((o.0, o.1, s.in_cluster), record { in_domain = s.in_domain; in_level = s.in_level }),
      λ ((c, m, h), deep).
          let s = ((of_one c m).cells x).1 (record { in_cluster = h; in_domain = deep.in_domain; in_level = deep.in_level }) in
          (s.0, to_news s.0 c m s.1, s.2),
    );
  }
