-- What the callers of the cut have at hand.
use Rattle.std.proofs.Common.{◌≡◌, ℕ, sym, ap, ◌∙◌, subst, inl, inr, arith}
use Rattle.std.proofs.lemmas.Int.{ints}
use Rattle.std.proofs.lemmas.Bool.{and_parts}
use Rattle.std.proofs.lemmas.List.Kept.{IsStrictlySortedBy-filter}
use Rattle.std.specs.Prelude.{pos, Bool, IsTrue, List, [], ◌∷◌, filter, nat_eq, ◌↔◌}
use Rattle.std.specs.List.Sorted.{IsStrictlySortedBy}
use Rattle.samr_box.specs.declared.vector.IVec.{IVec}
use Rattle.samr_box.specs.Vector.{alike, AtMost, at_most}
use Rattle.samr_box.specs.Corners.{Corners, IsBox, holds_box, grown}
use Rattle.samr_box.specs.Space.{Space, whole}
use Rattle.samr_box.specs.Lists.{Member}
use Rattle.samr_box.proofs.CellSets.{AtMost-test}
use Rattle.samr_box.proofs.Members.{Member-filter, Member-from_filter}
use Rattle.samr_box.proofs.Ascending.{same_from_members}
use Rattle.samr_level.specs.Refs.{Owned, Link}
use Rattle.samr_level.specs.RefOrders.{ref_cmp, edge_cmp}
use Rattle.samr_level.specs.Overlaps.{Scale, true_overlaps, of_rank}
use Rattle.samr_level.specs.Neighbours.{IsWidth}
use Rattle.samr_level.proofs.RefLaws.{edge_total}
use Rattle.samr_level.proofs.Overlapping.{overlaps_sorted, Member-overlaps, Member-from_overlaps, Member-of_rank, Member-from_of_rank}

one_sorted : (c : Owned) → IsStrictlySortedBy ref_cmp (c ∷ [])
unfolding IsStrictlySortedBy
one_sorted c = (tt, tt)

rank_sorted : (n : Scale) (clusters level : List Owned) (rank : ℕ) → IsStrictlySortedBy ref_cmp clusters → IsStrictlySortedBy ref_cmp level
    → IsStrictlySortedBy edge_cmp (of_rank rank (true_overlaps n clusters level))
unfolding of_rank
rank_sorted n clusters level rank p q =
    IsStrictlySortedBy-filter edge_cmp (λ e. nat_eq e.base.owner rank) (true_overlaps n clusters level) (overlaps_sorted n clusters level p q)

pub edges_of_one : (n : Scale) (clusters level : List Owned) (rank : ℕ) (c : Owned) (starts_at : Link → Bool)
    → IsStrictlySortedBy ref_cmp clusters → IsStrictlySortedBy ref_cmp level → Member c clusters → c.owner ≡ rank
    → ((e : Link) → IsTrue (starts_at e) ↔ (e.base ≡ c))
    → filter starts_at (of_rank rank (true_overlaps n clusters level)) ≡ true_overlaps n (c ∷ []) level
edges_of_one n clusters level rank c starts_at p q member own tests =
    same_from_members edge_total (filter starts_at (of_rank rank (true_overlaps n clusters level))) (true_overlaps n (c ∷ []) level)
    (IsStrictlySortedBy-filter edge_cmp starts_at (of_rank rank (true_overlaps n clusters level)) (rank_sorted n clusters level rank p q))
    (overlaps_sorted n (c ∷ []) level (one_sorted c) q)
    (λ e m.
    let f = Member-from_filter starts_at e (of_rank rank (true_overlaps n clusters level)) m in
    let o = Member-from_overlaps n clusters level e (Member-from_of_rank rank (true_overlaps n clusters level) e f.0).0 in
    Member-overlaps n (c ∷ []) level e (record {
      is_base = inl ((tests e).0 f.1);
      is_head = o.is_head;
      is_shift = o.is_shift;
      is_near = o.is_near;
    }))
    (λ e m.
    let o = Member-from_overlaps n (c ∷ []) level e m in
    let same = one_base e o.is_base in
    Member-filter starts_at e (of_rank rank (true_overlaps n clusters level))
    (Member-of_rank rank (true_overlaps n clusters level) e
    (Member-overlaps n clusters level e (record {
      is_base = subst (λ (v : Owned). Member v clusters) (sym same) member;
      is_head = o.is_head;
      is_shift = o.is_shift;
      is_near = o.is_near;
    }))
    (ap (λ (v : Owned). v.owner) same ∙ own))
    ((tests e).1 same))
  where
    one_base : (e : Link) → Member e.base (c ∷ []) → e.base ≡ c
    one_base e (inl same) = same
    one_base e (inr none) = absurd none

pub room : (d : Space) (nest : IVec) (c : Corners) → AtMost d.size (alike (pos 536870912)) → IsWidth d nest → IsBox c
    → IsTrue (holds_box (whole d) c) → IsBox (grown c nest)
room d nest c small width box home =
    let h = and_parts (at_most (whole d).lo c.lo) (at_most c.hi (whole d).hi) home in
    let low = AtMost-test {a = (whole d).lo} {b = c.lo} h.0 in
    let high = AtMost-test {a = c.hi} {b = (whole d).hi} h.1 in
    record {
      low = record {
        k = omega (arith, ints, low.k, width.high.k, small.k);
        j = omega (arith, ints, low.j, width.high.j, small.j);
        i = omega (arith, ints, low.i, width.high.i, small.i);
      };
      order = record {
        k = omega (arith, ints, box.order.k, width.low.k);
        j = omega (arith, ints, box.order.j, width.low.j);
        i = omega (arith, ints, box.order.i, width.low.i);
      };
      high = record {
        k = omega (arith, ints, high.k, width.high.k, small.k);
        j = omega (arith, ints, high.j, width.high.j, small.j);
        i = omega (arith, ints, high.i, width.high.i, small.i);
      };
    }
