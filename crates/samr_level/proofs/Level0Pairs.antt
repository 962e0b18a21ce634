-- The edges found by windows are the connector of level 0 to itself.
use Rattle.std.proofs.Common.{◌≡◌, ℕ, sym, ap, subst, ◌∙◌, arith}
use Rattle.std.proofs.lemmas.Int.{ints}
use Rattle.std.proofs.lemmas.Bool.Decides.{nat_tests}
use Rattle.std.specs.Prelude.{true, List, filter, nat_eq, ℤ, pos, ◌+ℤ◌, ◌-ℤ◌, ◌*ℤ◌, ◌≤ℤ◌}
use Rattle.samr_box.specs.declared.vector.IVec.{IVec}
use Rattle.samr_box.specs.Vector.{alike}
use Rattle.samr_box.specs.Corners.{Corners, meets, grown}
use Rattle.samr_box.specs.Ratios.{refined}
use Rattle.samr_box.specs.Space.{image}
use Rattle.samr_box.specs.Lists.{Member}
use Rattle.samr_box.proofs.CellSets.{Meet-test, meets-from}
use Rattle.samr_box.proofs.Members.{Member-map, Member-from_map, Member-flat_map, Member-from_flat_map, Member-filter, Member-from_filter}
use Rattle.samr_level.specs.Refs.{Owned, Link, link}
use Rattle.samr_level.specs.RefOrders.{ref_cmp, edge_cmp, in_order}
use Rattle.samr_level.specs.Regions.{Area, boxes_of}
use Rattle.samr_level.specs.Levels.{own}
use Rattle.samr_level.specs.Overlaps.{scale, near, shifts, true_overlaps, of_rank, IsTrueOverlap}
use Rattle.samr_level.specs.Blocks.{blocks_in, with_owners, level0}
use Rattle.samr_level.specs.Neighbours.{Layout, about, found_at, found_from, found}
use Rattle.samr_level.proofs.RefLaws.{ref_total, edge_total, same_from_ref_cmp, same_from_edge_cmp}
use Rattle.samr_level.proofs.Sorting.{Member-in_order, Member-from_in_order, sorted-in_order}
use Rattle.samr_level.proofs.Overlapping.{connector_is}

pub Member-own : (rank : ℕ) (level : List Owned) (b : Owned) → Member b level → b.owner ≡ rank → Member b (own rank level)
unfolding own
Member-own rank level b m e = Member-filter (λ b. nat_eq b.owner rank) b level m (grind (arith, nat_tests, e))

pub Member-from_own : (rank : ℕ) (level : List Owned) (b : Owned) → Member b (own rank level) → Member b level × (b.owner ≡ rank)
unfolding own
Member-from_own rank level b m =
    let r = Member-from_filter (λ b. nat_eq b.owner rank) b level m in
    let t = r.1 in
    (r.0, grind (arith, nat_tests, t))

-- what was found, as facts of an edge
Member-found : (l : Layout) (bases : List Owned) (ss : List IVec) (e : Link) → Member e.base bases → Member e.shift ss
    → Member e.head (with_owners l.ranks (blocks_in l.block l.boxes)) → meets (about l e.base.bx e.shift) e.head.bx ≡ true → Member e (found l bases ss)
unfolding found found_from found_at
Member-found l bases ss e a s b t =
    Member-flat_map (λ a. found_from l ss a) e e.base bases a
    (Member-flat_map (λ s. found_at l e.base s) e e.shift ss s
    (Member-map (λ b. link e.base b e.shift) e.head (filter (λ b. meets (about l e.base.bx e.shift) b.bx) (with_owners l.ranks (blocks_in l.block l.boxes)))
    (Member-filter (λ b. meets (about l e.base.bx e.shift) b.bx) e.head (with_owners l.ranks (blocks_in l.block l.boxes)) b t)))

record IsFound (l : Layout) (bases : List Owned) (ss : List IVec) (e : Link) : Type 0 where
  is_base : Member e.base bases
  is_shift : Member e.shift ss
  is_head : Member e.head (with_owners l.ranks (blocks_in l.block l.boxes))
  is_near : meets (about l e.base.bx e.shift) e.head.bx ≡ true

Member-from_found : (l : Layout) (bases : List Owned) (ss : List IVec) (e : Link) → Member e (found l bases ss) → IsFound l bases ss e
unfolding found found_from found_at
Member-from_found l bases ss e m =
    let a = Member-from_flat_map (λ a. found_from l ss a) e bases m in
    let s = Member-from_flat_map (λ s. found_at l a.0 s) e ss a.2 in
    let b = Member-from_map (λ b. link a.0 b s.0) e (filter (λ b. meets (about l a.0.bx s.0) b.bx) (with_owners l.ranks (blocks_in l.block l.boxes))) s.2 in
    let f = Member-from_filter (λ b. meets (about l a.0.bx s.0) b.bx) b.0 (with_owners l.ranks (blocks_in l.block l.boxes)) b.1 in
    subst (λ (v : Link). IsFound l bases ss v) (sym b.2) (record { is_base = a.1; is_shift = s.1; is_head = f.0; is_near = f.1 })

-- the window about a box has a cell of another exactly where the two are near at ratio 1: on one axis
module _ (a b w s n : ℤ) where
  times_one : s *ℤ (n *ℤ pos 1) ≡ s *ℤ n
  times_one = let e : n *ℤ pos 1 ≡ n = omega (arith, ints) in ap (λ (v : ℤ). s *ℤ v) e

  low_near : ((a -ℤ w) -ℤ (s *ℤ n)) ≤ℤ b → ((a *ℤ pos 1) -ℤ ((w *ℤ pos 1) *ℤ pos 1)) ≤ℤ (((b *ℤ pos 1) +ℤ (pos 1 -ℤ pos 1)) +ℤ (s *ℤ (n *ℤ pos 1)))
  low_near h = let e = times_one in omega (arith, ints, e, h)

  low_about : ((a *ℤ pos 1) -ℤ ((w *ℤ pos 1) *ℤ pos 1)) ≤ℤ (((b *ℤ pos 1) +ℤ (pos 1 -ℤ pos 1)) +ℤ (s *ℤ (n *ℤ pos 1))) → ((a -ℤ w) -ℤ (s *ℤ n)) ≤ℤ b
  low_about h = let e = times_one in omega (arith, ints, e, h)

  high_near : b ≤ℤ ((a +ℤ w) -ℤ (s *ℤ n)) → ((b *ℤ pos 1) +ℤ (s *ℤ (n *ℤ pos 1))) ≤ℤ (((a *ℤ pos 1) +ℤ (pos 1 -ℤ pos 1)) +ℤ ((w *ℤ pos 1) *ℤ pos 1))
  high_near h = let e = times_one in omega (arith, ints, e, h)

  high_about : ((b *ℤ pos 1) +ℤ (s *ℤ (n *ℤ pos 1))) ≤ℤ (((a *ℤ pos 1) +ℤ (pos 1 -ℤ pos 1)) +ℤ ((w *ℤ pos 1) *ℤ pos 1)) → b ≤ℤ ((a +ℤ w) -ℤ (s *ℤ n))
  high_about h = let e = times_one in omega (arith, ints, e, h)

near-about : (l : Layout) (a b : Corners) (s : IVec) → meets (about l a s) b ≡ true → near (scale l.frame l.width (alike (pos 1)) (alike (pos 1))) a b s ≡ true
near-about l a b s t =
    let n = scale l.frame l.width (alike (pos 1)) (alike (pos 1)) in
    let h = Meet-test {a = about l a s} {b = b} t in
    meets-from {a = grown (refined a n.base) n.reach} {b = image n.domain (refined b n.head) s}
    (record {
      low = record {
        k = low_near a.lo.k b.hi.k l.width.k s.k l.frame.size.k h.low.k;
        j = low_near a.lo.j b.hi.j l.width.j s.j l.frame.size.j h.low.j;
        i = low_near a.lo.i b.hi.i l.width.i s.i l.frame.size.i h.low.i;
      };
      high = record {
        k = high_near a.hi.k b.lo.k l.width.k s.k l.frame.size.k h.high.k;
        j = high_near a.hi.j b.lo.j l.width.j s.j l.frame.size.j h.high.j;
        i = high_near a.hi.i b.lo.i l.width.i s.i l.frame.size.i h.high.i;
      };
    })

about-near : (l : Layout) (a b : Corners) (s : IVec) → near (scale l.frame l.width (alike (pos 1)) (alike (pos 1))) a b s ≡ true → meets (about l a s) b ≡ true
about-near l a b s t =
    let n = scale l.frame l.width (alike (pos 1)) (alike (pos 1)) in
    let h = Meet-test {a = grown (refined a n.base) n.reach} {b = image n.domain (refined b n.head) s} t in
    meets-from {a = about l a s} {b = b}
    (record {
      low = record {
        k = low_about a.lo.k b.hi.k l.width.k s.k l.frame.size.k h.low.k;
        j = low_about a.lo.j b.hi.j l.width.j s.j l.frame.size.j h.low.j;
        i = low_about a.lo.i b.hi.i l.width.i s.i l.frame.size.i h.low.i;
      };
      high = record {
        k = high_about a.hi.k b.lo.k l.width.k s.k l.frame.size.k h.high.k;
        j = high_about a.hi.j b.lo.j l.width.j s.j l.frame.size.j h.high.j;
        i = high_about a.hi.i b.lo.i l.width.i s.i l.frame.size.i h.high.i;
      };
    })

pub layout_of : Area → IVec → ℕ → IVec → Layout
layout_of area block ranks width = record { frame = area.frame; boxes = boxes_of area; block = block; ranks = ranks; width = width }

pub found_is : (area : Area) (block : IVec) (ranks rank : ℕ) (width : IVec)
    → in_order edge_cmp (found (layout_of area block ranks width) (own rank (level0 area block ranks)) (shifts area.frame.periodic))
    ≡ of_rank rank (true_overlaps (scale area.frame width (alike (pos 1)) (alike (pos 1))) (level0 area block ranks) (level0 area block ranks))
unfolding layout_of level0
found_is area block ranks rank width =
    let l = layout_of area block ranks width in
    let members = with_owners ranks (blocks_in block (boxes_of area)) in
    let level = in_order ref_cmp members in
    let n = scale area.frame width (alike (pos 1)) (alike (pos 1)) in
    let ss = shifts area.frame.periodic in
    let edges = found l (own rank level) ss in
    let sorted = sorted-in_order ref_total members in
    connector_is n level level rank (in_order edge_cmp edges) sorted sorted (sorted-in_order edge_total edges)
    (λ e m.
    let f = Member-from_found l (own rank level) ss e (Member-from_in_order edge_total e edges m) in
    let o = Member-from_own rank level e.base f.is_base in
    let t : IsTrueOverlap n level level e = record {
      is_base = o.0;
      is_head = Member-in_order ref_total same_from_ref_cmp e.head members f.is_head;
      is_shift = f.is_shift;
      is_near = near-about l e.base.bx e.head.bx e.shift f.is_near;
    } in
    (t, o.1))
    (λ e h o. Member-in_order edge_total same_from_edge_cmp e edges
    (Member-found l (own rank level) ss e (Member-own rank level e.base h.is_base o) h.is_shift
    (Member-from_in_order ref_total e.head members h.is_head) (about-near l e.base.bx e.head.bx e.shift h.is_near)))

-- the same, of the code's own parts
pub found_pair : (area : Area) (block : IVec) (ranks rank : ℕ) (width : IVec) (l : Layout) (bases level : List Owned) (ss : List IVec) (edges : List Link)
    → l ≡ record { frame = area.frame; boxes = boxes_of area; block = block; ranks = ranks; width = width }
    → bases ≡ own rank level → level ≡ level0 area block ranks → ss ≡ shifts area.frame.periodic → edges ≡ found l bases ss
    → in_order edge_cmp edges ≡ of_rank rank (true_overlaps (scale area.frame width (alike (pos 1)) (alike (pos 1))) (level0 area block ranks) (level0 area block ranks))
unfolding layout_of
found_pair area block ranks rank width l bases level ss edges is_layout is_own is_level is_shifts is_found =
    ap (in_order edge_cmp)
    (is_found
    ∙ ap (λ (m : Layout). found m bases ss) is_layout
    ∙ ap (λ (bs : List Owned). found (layout_of area block ranks width) bs ss) (is_own ∙ ap (own rank) is_level)
    ∙ ap (λ (v : List IVec). found (layout_of area block ranks width) (own rank (level0 area block ranks)) v) is_shifts)
    ∙ found_is area block ranks rank width
