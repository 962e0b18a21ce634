-- New boxes against their old ones: which level they make, and that their overlaps are those of the old boxes.
use Rattle.std.proofs.Common.{◌≡◌, refl, subst}
use Rattle.std.specs.Prelude.{true, List}
use Rattle.std.specs.List.{flat_map}
use Rattle.std.specs.List.Sorted.{IsStrictlySortedBy}
use Rattle.samr_box.specs.declared.vector.IVec.{IVec}
use Rattle.samr_box.specs.Vector.{IsRatio}
use Rattle.samr_box.specs.Lists.{Member}
use Rattle.samr_box.proofs.Members.{Member-map, Member-flat_map, Member-from_flat_map}
use Rattle.samr_level.specs.declared.parts.Move.{Move}
use Rattle.samr_level.specs.Refs.{Owned, link}
use Rattle.samr_level.specs.RefOrders.{ref_cmp}
use Rattle.samr_level.specs.Overlaps.{near, IsTrueOverlap}
use Rattle.samr_level.proofs.RefLaws.{ref_total, same_from_ref_cmp}
use Rattle.samr_level.proofs.Sorting.{Member-in_order, Member-from_in_order, sorted-in_order}
use Rattle.samr_level.proofs.Reaches.{IsRatio-factor, greatest-ratio, greatest-left, greatest-right}
use Rattle.samr_modify.specs.Modify.{Modifying, IsModifying, news_of, forth_scale, back_scale, TakesPlace, IsKept, LiesIn}
use Rattle.samr_modify.proofs.Near.{near_head, near_base}

pub in_news : (w : Modifying) (m : Move) (n : Owned) → Member m w.moves → Member n m.news → Member n (news_of w)
unfolding news_of
in_news w m n p q =
    Member-in_order ref_total same_from_ref_cmp n (flat_map (λ (m : Move). m.news) w.moves) (Member-flat_map (λ (m : Move). m.news) n m w.moves p q)

pub from_news : (w : Modifying) (n : Owned) → Member n (news_of w) → (m : Move) × Member m w.moves × Member n m.news
unfolding news_of
from_news w n h = Member-from_flat_map (λ (m : Move). m.news) n w.moves (Member-from_in_order ref_total n (flat_map (λ (m : Move). m.news) w.moves) h)

pub news_sorted : (w : Modifying) → IsStrictlySortedBy ref_cmp (news_of w)
unfolding news_of
news_sorted w = sorted-in_order ref_total (flat_map (λ (m : Move). m.news) w.moves)

module _ (w : Modifying) (b : IsModifying w) where
  head_ratio : IsRatio (forth_scale w).head
  head_ratio = IsRatio-factor (greatest-ratio b.anchor_ratio b.old_ratio) (greatest-right w.anchor_ratio w.old_ratio) b.old_ratio

  base_ratio : IsRatio (back_scale w).base
  base_ratio = IsRatio-factor (greatest-ratio b.old_ratio b.anchor_ratio) (greatest-left w.old_ratio w.anchor_ratio) b.old_ratio

  pub old_of : (m : Move) → Member m w.moves → Member m.old w.olds
  old_of m p = subst (λ (l : List Owned). Member m.old l) b.moves (Member-map (λ (m : Move). m.old) m w.moves p)

  pub whole : (a n o : Owned) (s : IVec) → TakesPlace w n o → near (forth_scale w) a.bx n.bx s ≡ true → near (forth_scale w) a.bx o.bx s ≡ true
  whole a n o s p t =
      near_head (forth_scale w) a.bx n.bx o.bx s head_ratio (subst (λ (v : Owned). LiesIn n.bx v.bx) p.2 (b.inside p.0 n p.1 p.3)) t

  pub whole_back : (m : Move) (n a : Owned) (s : IVec) → Member m w.moves → Member n m.news → near (back_scale w) n.bx a.bx s ≡ true → near (back_scale w) m.old.bx a.bx s ≡ true
  whole_back m n a s p q t = near_base (back_scale w) n.bx m.old.bx a.bx s base_ratio (b.inside m n p q) t

  pub kept : (a n : Owned) (s : IVec) → IsTrueOverlap (forth_scale w) w.anchors (news_of w) (link a n s) → IsKept w a n s
  kept a n s h =
      let r = from_news w n h.is_head in
      let p : TakesPlace w n r.0.old = (r.0, r.1, refl, r.2) in
      record {
        old = r.0.old;
        place = p;
        overlap = record { is_base = h.is_base; is_head = old_of r.0 r.1; is_shift = h.is_shift; is_near = whole a n r.0.old s p h.is_near };
        near = h.is_near;
      }

  pub is_kept : (a n : Owned) (s : IVec) → IsKept w a n s → IsTrueOverlap (forth_scale w) w.anchors (news_of w) (link a n s)
  is_kept a n s k = record {
    is_base = k.overlap.is_base;
    is_head = in_news w k.place.0 n k.place.1 k.place.3;
    is_shift = k.overlap.is_shift;
    is_near = k.near;
  }
