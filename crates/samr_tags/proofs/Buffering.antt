-- What the edges of a level mark are its tags.
use Rattle.std.proofs.Common.{◌≡◌, refl, sym, ap, subst, ◌∙◌, arith}
use Rattle.std.proofs.lemmas.Int.{ints}
use Rattle.std.proofs.lemmas.Bool.{and_parts, and_from}
use Rattle.std.proofs.lemmas.Cmp.{tied_itself}
use Rattle.std.specs.Prelude.{ℤ, pos, neg_ℤ, ◌≤ℤ◌, ◌+ℤ◌, ◌-ℤ◌, ◌*ℤ◌, Bool, true, false, List, [], filter, cond, Option, Some, None}
use Rattle.std.specs.Option.{option_map_or}
use Rattle.std.specs.Ordering.{is_eq}
use Rattle.std.specs.declared.cmp.Ordering.{Ordering}
use Rattle.std.specs.declared.cmp.Ordering.TheVariants.{Less, Equal, Greater}
use Rattle.samr_box.specs.declared.vector.IVec.{IVec}
use Rattle.samr_box.specs.Vector.{alike, plus, minus, times, AtMost}
use Rattle.samr_box.specs.Corners.{Corners, Holds, holds, grown, common, met, meets}
use Rattle.samr_box.specs.Space.{Space, whole, wrapped, opposite}
use Rattle.samr_box.specs.Lists.{Member}
use Rattle.samr_box.proofs.Vectors.{same_cell, Within-sym, AtMost-trans}
use Rattle.samr_box.proofs.CellSets.{holds-from, Holds-test, Holds-common, Holds-moved, Meet-cell, Meet-test, meets-from, order-common}
use Rattle.samr_box.proofs.Members.{Member-filter, Member-from_filter}
use Rattle.samr_box.proofs.Products.{mul-neg, mul_le, mul_comm, mul_one}
use Rattle.samr_find.specs.Cells.{cells_in}
use Rattle.samr_find.proofs.CellLists.{Member-cells, Holds-cells}
use Rattle.samr_level.specs.Refs.{Owned, Link, link}
use Rattle.samr_level.specs.RefOrders.{ref_cmp}
use Rattle.samr_level.specs.Levels.{IsCellIn}
use Rattle.samr_level.specs.Overlaps.{scale, IsTrueOverlap}
use Rattle.samr_level.proofs.RefLaws.{ref_total, same_from_ref_cmp}
use Rattle.samr_level.proofs.Overlapping.{opposite-shifts}
use Rattle.samr_border.specs.Turns.{turns}
use Rattle.samr_border.proofs.TurnLaws.{turns_shift, turns_home, turns_is, near_of_shift, near_neighbour}
use Rattle.samr_tags.specs.Buffer.{Tagging, IsTagging, IsTagged, space, in_level, is_shaped, tags_of}
use Rattle.samr_tags.specs.Seeing.{about, seen_cells, spread}
use Rattle.samr_tags.proofs.Marks.{met_part, met_is}
use Rattle.samr_tags.proofs.Spots.{any_member, member_any, near_some, near_has, self_near}
use Rattle.samr_tags.proofs.Shifts.{shifts_are}

-- the test for a cell of a level, and that for a box
pub in_level_from : (level : List Owned) (x : IVec) → in_level level x ≡ true → IsCellIn level x
in_level_from level x t = let r = member_any (λ (b : Owned). holds b.bx x) level t in (r.0, r.1, Holds-test r.2)

pub in_level_is : (level : List Owned) (x : IVec) → IsCellIn level x → in_level level x ≡ true
in_level_is level x h = any_member (λ (b : Owned). holds b.bx x) h.0 level h.1 (holds-from h.2)

by_order : (o : Ordering) → is_eq o ≡ true → o ≡ Equal
by_order Less e = absurd cc
by_order Equal e = refl
by_order Greater e = absurd cc

pub same_ref : (a b : Owned) → is_eq (ref_cmp a b) ≡ true → a ≡ b
same_ref a b t = same_from_ref_cmp a b (by_order (ref_cmp a b) t)

pub ref_itself : (a : Owned) → is_eq (ref_cmp a a) ≡ true
ref_itself a = ap is_eq (tied_itself ref_total a)

-- tags as a fact
pub tags_from : (w : Tagging) (x : IVec) → AtMost (alike (pos 0)) w.buffer → tags_of w x ≡ true → IsTagged w x
unfolding tags_of
tags_from w x low t =
    let p = and_parts (in_level w.level x) _ t in
    let y = near_some (is_shaped w) w.buffer x low p.1 in
    let q = and_parts (in_level w.level (wrapped (space w) y.0)) (w.shape (wrapped (space w) y.0)) y.2 in
    record { is_cell = in_level_from w.level x p.0; tag = y.0; close = y.1; tag_cell = in_level_from w.level (wrapped (space w) y.0) q.0; shaped = q.1 }

pub tags_is : (w : Tagging) (x : IVec) → IsTagged w x → tags_of w x ≡ true
unfolding tags_of
tags_is w x h =
    and_from (in_level w.level x) _ (in_level_is w.level x h.is_cell)
    (near_has (is_shaped w) w.buffer x h.tag h.close
    (and_from (in_level w.level (wrapped (space w) h.tag)) (w.shape (wrapped (space w) h.tag)) (in_level_is w.level (wrapped (space w) h.tag) h.tag_cell) h.shaped))

-- the cells that the base of an edge has for its head
met_true : (t : Bool) (c v : Corners) → cond t (Some c) None ≡ Some v → t ≡ true
met_true true c v e = refl
met_true false c v e = absurd cc

picked_in : (shape : IVec → Bool) (o : Option Corners) (c : IVec) → Member c (option_map_or (λ b. filter shape (cells_in b)) o [])
    → (b : Corners) × (o ≡ Some b) × Member c (cells_in b) × (shape c ≡ true)
picked_in shape None c m = absurd m
picked_in shape (Some b) c m = let r = Member-from_filter shape c (cells_in b) m in (b, refl, r.0, r.1)

about_order : (d : Space) (buffer : IVec) (e : Link) → AtMost e.head.bx.lo e.head.bx.hi → AtMost (alike (pos 0)) buffer
    → AtMost (about d buffer e).lo (about d buffer e).hi
about_order d buffer e o l = record { k = omega (arith, ints, o.k, l.k); j = omega (arith, ints, o.j, l.j); i = omega (arith, ints, o.i, l.i) }

pub part_in : (d : Space) (buffer : IVec) (e : Link) (v : Corners) (c : IVec) → AtMost e.base.bx.lo e.base.bx.hi → AtMost e.head.bx.lo e.head.bx.hi
    → AtMost (alike (pos 0)) buffer → met e.base.bx (about d buffer e) ≡ Some v → Member c (cells_in v) → Holds e.base.bx c
part_in d buffer e v c base head low some m =
    let b = e.base.bx in
    let r = about d buffer e in
    let meet = Meet-test {a = b} {b = r} (met_true (meets b r) (common b r) v some) in
    let order = subst (λ (v : Corners). AtMost v.lo v.hi) (sym (met_is b r v some)) (order-common {a = b} {b = r} base (about_order d buffer e head low) meet) in
    met_part b r v some c (Holds-cells v c order m)

pub seen_from : (d : Space) (buffer : IVec) (shape : IVec → Bool) (e : Link) (c : IVec) → AtMost e.base.bx.lo e.base.bx.hi → AtMost e.head.bx.lo e.head.bx.hi
    → AtMost (alike (pos 0)) buffer → Member c (seen_cells d buffer shape e) → Holds e.base.bx c × (shape c ≡ true)
seen_from d buffer shape e c base head low m =
    let p = picked_in shape (met e.base.bx (about d buffer e)) c m in
    (part_in d buffer e p.0 c base head low p.1 p.2, p.3)

pub seen_has : (d : Space) (buffer : IVec) (shape : IVec → Bool) (e : Link) (c : IVec) → Holds e.base.bx c → Holds (about d buffer e) c → shape c ≡ true
    → Member c (seen_cells d buffer shape e)
seen_has d buffer shape e c h g t =
    let b = e.base.bx in
    let r = about d buffer e in
    let is : met b r ≡ Some (common b r) = ap (λ (v : Bool). cond v (Some (common b r)) None) (meets-from (Meet-cell {a = b} {b = r} {x = c} h g)) in
    let In : Option Corners → Type 0 = λ o. Member c (option_map_or (λ b. filter shape (cells_in b)) o []) in
    subst In (sym is) (Member-filter shape c (cells_in (common b r)) (Member-cells (common b r) c ((Holds-common b r c).1 (h, g))) t)

-- a cell less a shift turns back to the cell
back_on : (c s n : ℤ) → ((c -ℤ (s *ℤ n)) -ℤ ((neg_ℤ s) *ℤ n)) ≡ c
back_on c s n = let e = mul-neg s n in omega (arith, ints, e)

pub turned_back : (c s n : IVec) → minus (minus c (times s n)) (times (opposite s) n) ≡ c
turned_back c s n = same_cell (back_on c.k s.k n.k) (back_on c.j s.j n.j) (back_on c.i s.i n.i)

-- a tagged cell on one axis: y where the head stands, c = y + m where the base does
window_low : (lo c y x m buffer width : ℤ) → lo ≤ℤ c → c ≡ (y +ℤ m) → y ≤ℤ (x +ℤ buffer) → buffer ≤ℤ width → (lo -ℤ width) ≤ℤ (x +ℤ m)
window_low lo c y x m buffer width p e q r = omega (arith, ints, p, e, q, r)

window_high : (hi c y x m buffer width : ℤ) → c ≤ℤ hi → c ≡ (y +ℤ m) → (x -ℤ buffer) ≤ℤ y → buffer ≤ℤ width → (x +ℤ m) ≤ℤ (hi +ℤ width)
window_high hi c y x m buffer width p e q r = omega (arith, ints, p, e, q, r)

about_low : (lo c y x m buffer : ℤ) → lo ≤ℤ x → c ≡ (y +ℤ m) → (x -ℤ buffer) ≤ℤ y → ((lo +ℤ m) -ℤ buffer) ≤ℤ c
about_low lo c y x m buffer p e q = omega (arith, ints, p, e, q)

about_high : (hi c y x m buffer : ℤ) → x ≤ℤ hi → c ≡ (y +ℤ m) → y ≤ℤ (x +ℤ buffer) → c ≤ℤ ((hi +ℤ m) +ℤ buffer)
about_high hi c y x m buffer p e q = omega (arith, ints, p, e, q)

spread_low : (c y x m buffer : ℤ) → c ≡ (y +ℤ m) → y ≤ℤ (x +ℤ buffer) → ((c -ℤ m) -ℤ buffer) ≤ℤ x
spread_low c y x m buffer e q = omega (arith, ints, e, q)

spread_high : (c y x m buffer : ℤ) → c ≡ (y +ℤ m) → (x -ℤ buffer) ≤ℤ y → x ≤ℤ ((c -ℤ m) +ℤ buffer)
spread_high c y x m buffer e q = omega (arith, ints, e, q)

moved_on : (y t n c : ℤ) → (y -ℤ (t *ℤ n)) ≡ c → c ≡ (y +ℤ ((neg_ℤ t) *ℤ n))
moved_on y t n c e = let f = mul-neg t n in omega (arith, ints, e, f)

not_longer : (a n r : ℤ) → a ≤ℤ n → pos 1 ≤ℤ n → pos 1 ≤ℤ r → a ≤ℤ (n *ℤ r)
not_longer a n r p one rest =
    let h = mul_le n (pos 1) r (omega (arith, ints, one)) rest in
    let e = mul_comm r n in
    let f = mul_one n in
    omega (arith, ints, p, h, e, f)

-- the edges of a level mark tags
module _ (w : Tagging) (t : IsTagging w) where
  pub buffer_fits : AtMost w.buffer (space w).size
  buffer_fits =
      let m = AtMost-trans (t.width) t.reach in
      record {
        k = not_longer w.buffer.k w.frame.size.k w.ratio.k m.k t.frame.low.k t.ratio.low.k;
        j = not_longer w.buffer.j w.frame.size.j w.ratio.j m.j t.frame.low.j t.ratio.low.j;
        i = not_longer w.buffer.i w.frame.size.i w.ratio.i m.i t.frame.low.i t.ratio.low.i;
      }

  pub mark_tags : (e : Link) (c x : IVec) → IsTrueOverlap (scale w.frame w.width w.ratio w.ratio) w.level w.level e
      → Member c (seen_cells (space w) w.buffer w.shape e) → Holds (spread (space w) w.buffer e.shift c) x → Holds e.head.bx x → IsTagged w x
  mark_tags e c x h m near hx =
      let d = space w in
      let y = minus c (times e.shift d.size) in
      let s = opposite e.shift in
      let seen = seen_from d w.buffer w.shape e c (t.owned.boxes e.base h.is_base).order (t.owned.boxes e.head h.is_head).order t.buffer m in
      let back = turned_back c e.shift d.size in
      let Frame : IVec → Type 0 = λ v. Holds (whole d) v in
      let inside = subst Frame (sym back) (t.inside e.base c h.is_base seen.0) in
      let shift = (shifts_are d s).0 (opposite-shifts d.periodic e.shift h.is_shift) in
      let home : c ≡ wrapped d y =
      sym back ∙ ap (λ (v : IVec). minus y (times v d.size)) (turns_is d y s t.finer shift inside) ∙ turns_home d y t.finer (near_of_shift d y s t.finer shift inside) in
      record {
        is_cell = (e.head, h.is_head, hx);
        tag = y;
        close = Within-sym w.buffer y x (record { low = near.low; high = near.high });
        tag_cell = (e.base, h.is_base, subst (λ (v : IVec). Holds e.base.bx v) home seen.0);
        shaped = ap w.shape (sym home) ∙ seen.1;
      }

  pub tags_mark : (a : Owned) (x : IVec) → Member a w.level → Holds a.bx x → IsTagged w x
      → (e : Link) × IsTrueOverlap (scale w.frame w.width w.ratio w.ratio) w.level w.level e × (e.head ≡ a)
      × ((c : IVec) × Member c (seen_cells (space w) w.buffer w.shape e) × Holds (spread (space w) w.buffer e.shift c) x)
  tags_mark a x ma hx h =
      let d = space w in
      let y = h.tag in
      let near = near_neighbour d w.buffer x y buffer_fits (t.inside a x ma hx) h.close in
      let s = opposite (turns d y) in
      let m = times s d.size in
      let c = wrapped d y in
      let b = h.tag_cell.0 in
      let mb = h.tag_cell.1 in
      let hb = h.tag_cell.2 in
      let home = turns_home d y t.finer near in
      let k = moved_on y.k (turns d y).k d.size.k c.k (ap (λ (v : IVec). v.k) home) in
      let j = moved_on y.j (turns d y).j d.size.j c.j (ap (λ (v : IVec). v.j) home) in
      let i = moved_on y.i (turns d y).i d.size.i c.i (ap (λ (v : IVec). v.i) home) in
      let e : Link = link b a s in
      let z = plus x m in
      let window : Holds (grown b.bx w.width) z = record {
        low = record {
          k = window_low b.bx.lo.k c.k y.k x.k m.k w.buffer.k w.width.k hb.low.k k h.close.high.k t.width.k;
          j = window_low b.bx.lo.j c.j y.j x.j m.j w.buffer.j w.width.j hb.low.j j h.close.high.j t.width.j;
          i = window_low b.bx.lo.i c.i y.i x.i m.i w.buffer.i w.width.i hb.low.i i h.close.high.i t.width.i;
        };
        high = record {
          k = window_high b.bx.hi.k c.k y.k x.k m.k w.buffer.k w.width.k hb.high.k k h.close.low.k t.width.k;
          j = window_high b.bx.hi.j c.j y.j x.j m.j w.buffer.j w.width.j hb.high.j j h.close.low.j t.width.j;
          i = window_high b.bx.hi.i c.i y.i x.i m.i w.buffer.i w.width.i hb.high.i i h.close.low.i t.width.i;
        };
      } in
      let close : Holds (about d w.buffer e) c = record {
        low = record {
          k = about_low a.bx.lo.k c.k y.k x.k m.k w.buffer.k hx.low.k k h.close.low.k;
          j = about_low a.bx.lo.j c.j y.j x.j m.j w.buffer.j hx.low.j j h.close.low.j;
          i = about_low a.bx.lo.i c.i y.i x.i m.i w.buffer.i hx.low.i i h.close.low.i;
        };
        high = record {
          k = about_high a.bx.hi.k c.k y.k x.k m.k w.buffer.k hx.high.k k h.close.high.k;
          j = about_high a.bx.hi.j c.j y.j x.j m.j w.buffer.j hx.high.j j h.close.high.j;
          i = about_high a.bx.hi.i c.i y.i x.i m.i w.buffer.i hx.high.i i h.close.high.i;
        };
      } in
      let spreads : Holds (spread d w.buffer s c) x = record {
        low = record {
          k = spread_low c.k y.k x.k m.k w.buffer.k k h.close.high.k;
          j = spread_low c.j y.j x.j m.j w.buffer.j j h.close.high.j;
          i = spread_low c.i y.i x.i m.i w.buffer.i i h.close.high.i;
        };
        high = record {
          k = spread_high c.k y.k x.k m.k w.buffer.k k h.close.low.k;
          j = spread_high c.j y.j x.j m.j w.buffer.j j h.close.low.j;
          i = spread_high c.i y.i x.i m.i w.buffer.i i h.close.low.i;
        };
      } in (
        e,
        record {
          is_base = mb;
          is_head = ma;
          is_shift = opposite-shifts d.periodic (turns d y) ((shifts_are d (turns d y)).1 (turns_shift d y));
          is_near = self_near w.frame w.width w.ratio b.bx a.bx s z t.ratio window ((Holds-moved a.bx m x).1 hx);
        },
        refl,
        (c, seen_has d w.buffer w.shape e c hb close h.shaped, spreads),
      )
