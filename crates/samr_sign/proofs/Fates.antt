-- What a decision can be.
use Rattle.std.proofs.Common.{◌≡◌, ℕ, zero, suc, ◌+◌, ◌*◌, ◌<◌, ◌≤◌, Bool, true, false, get_or, refl, ap, ◌∙◌, arith}
use Rattle.std.proofs.lemmas.Int.{ints}
use Rattle.std.proofs.lemmas.Bool.{and_from, and_parts, cond_both, eqb-true, eqb-false, ltb-false, ne_eqb, not-true}
use Rattle.std.proofs.lemmas.List.FromFn.{get_or-map-range_with_len}
use Rattle.std.specs.Prelude.{ℤ, pos, ◌+ℤ◌, ◌<ℤ◌, ◌≤ℤ◌, int_lt, unsigned_abs, nat_eq, nat_le, nat_lt, not, ◌&&◌, map}
use Rattle.std.specs.List.{range_with_len}
use Rattle.samr_box.specs.declared.vector.Axis.{Axis}
use Rattle.samr_box.specs.declared.vector.Axis.TheVariants.{I, J, K}
use Rattle.samr_box.specs.declared.vector.IVec.{IVec}
use Rattle.samr_box.specs.Vector.{at}
use Rattle.samr_box.specs.Corners.{Corners, IsBox, Holds, holds, span, cells_of, before, from_plane}
use Rattle.samr_box.proofs.CellSets.{Holds-test, holds-from, Holds-before, Holds-from_plane}
use Rattle.samr_box.proofs.Slabs.{plane-inside}
use Rattle.samr_box.proofs.Ranges.{IsBox-put_lo, IsBox-put_hi}
use Rattle.samr_bits.specs.Bits.{one}
use Rattle.samr_sign.specs.declared.rule.CutRule.{CutRule}
use Rattle.samr_sign.specs.declared.decision.Decision.TheVariants.{Drop, Accept}
use Rattle.samr_sign.specs.declared.cuts.Cut.{Cut}
use Rattle.samr_sign.specs.Counts.{Sign, IsSign, sign, total, offset, slice, weigh, tally, planes}
use Rattle.samr_sign.specs.Line.{leading, trailing}
use Rattle.samr_sign.specs.Decide.{shrunk, ranked, cut_of, decide_of}
use Rattle.samr_sign.specs.Laws.{depth, AreParts, IsFate}
use Rattle.samr_sign.proofs.Slices.{same_test, slice-Holds, offset_below}
use Rattle.samr_sign.proofs.Tallies.{weigh_member}
use Rattle.samr_sign.proofs.Sums.{length_planes}
use Rattle.samr_sign.proofs.Extents.{behind_leading, before_trailing}
use Rattle.samr_sign.proofs.Shrinking.{IsBox-shrunk, span_shrunk}
use Rattle.samr_sign.proofs.CutLaws.{cut_parts}

-- the cells of two parts
one_split : (a c : Bool) → one (a && c) + one (a && not c) ≡ one a
one_split true true = refl
one_split true false = refl
one_split false c = refl

not_less : (x y : ℤ) → int_lt x y ≡ false → y ≤ℤ x
not_less x y t = grind (arith, ints, t)

is_less : (x y : ℤ) → int_lt x y ≡ true → x <ℤ y
is_less x y t = grind (arith, ints, t)

less_test : (x y : ℤ) → x <ℤ y → int_lt x y ≡ true
less_test x y h = grind (arith, ints, h)

not_less_test : (x y : ℤ) → y ≤ℤ x → not (int_lt x y) ≡ true
not_less_test x y h = grind (arith, ints, h)

parts_cells : (axis : Axis) (b : Corners) (plane : ℤ) (x : IVec) → at axis b.lo ≤ℤ plane → plane ≤ℤ at axis b.hi → one (holds (before axis b plane) x) + one (holds (from_plane axis b plane) x) ≡ one (holds b x)
parts_cells axis b plane x low high =
    let less = int_lt (at axis x) plane in
    let first : holds (before axis b plane) x ≡ (holds b x && less) =
    same_test (holds (before axis b plane) x) (holds b x && less)
    (λ t. let h = (Holds-before axis b plane x high).0 (Holds-test t) in and_from (holds b x) less (holds-from h.0) (less_test (at axis x) plane h.1))
    (λ t. let s = and_parts (holds b x) less t in holds-from ((Holds-before axis b plane x high).1 (Holds-test s.0, is_less (at axis x) plane s.1))) in
    let second : holds (from_plane axis b plane) x ≡ (holds b x && not less) =
    same_test (holds (from_plane axis b plane) x) (holds b x && not less)
    (λ t. let h = (Holds-from_plane axis b plane x low).0 (Holds-test t) in and_from (holds b x) (not less) (holds-from h.0) (not_less_test (at axis x) plane h.1))
    (λ t. let s = and_parts (holds b x) (not less) t in holds-from ((Holds-from_plane axis b plane x low).1 (Holds-test s.0, not_less (at axis x) plane (not-true less s.1)))) in
    ap (λ v. one v + one (holds (from_plane axis b plane) x)) first ∙ ap (λ v. one (holds b x && less) + one v) second ∙ one_split (holds b x) less

before_less : (axis : Axis) (b : Corners) (n : ℕ) → 0 < n → n < span axis b → depth (before axis b (at axis b.lo +ℤ pos n)) < depth b
before_less I b n p q = omega (arith, ints)
before_less J b n p q = omega (arith, ints)
before_less K b n p q = omega (arith, ints)

from_less : (axis : Axis) (b : Corners) (n : ℕ) → IsBox b → 0 < n → n < span axis b → depth (from_plane axis b (at axis b.lo +ℤ pos n)) < depth b
from_less I b n h p q = omega (arith, ints, h.order.i)
from_less J b n h p q = omega (arith, ints, h.order.j)
from_less K b n h p q = omega (arith, ints, h.order.k)

split_parts : (b : Corners) (c : Cut) → IsBox b → 0 < c.place → c.place < span c.axis b → AreParts b (before c.axis b (at c.axis b.lo +ℤ pos c.place)) (from_plane c.axis b (at c.axis b.lo +ℤ pos c.place))
split_parts b c h p q =
    let inside = plane-inside c.axis b c.place h.order p q in
    let low : at c.axis b.lo ≤ℤ (at c.axis b.lo +ℤ pos c.place) = omega (arith, ints, inside.0) in
    record {
      first = IsBox-put_hi c.axis h (omega (arith, ints, inside.0)) (omega (arith, ints, inside.1));
      second = IsBox-put_lo c.axis h low inside.1;
      cells = λ x. parts_cells c.axis b (at c.axis b.lo +ℤ pos c.place) x low inside.1;
      first_less = before_less c.axis b c.place p q;
      second_less = from_less c.axis b c.place h p q;
    }

pub decision_is : (s : Sign) (rule : CutRule) → IsSign s → IsFate s (decide_of s rule)
unfolding decide_of
decision_is s rule h =
    let b = shrunk s in
    let least = unsigned_abs rule.smallest in
    cond_both (nat_eq (total s) 0) Drop _ (IsFate s) (λ t. eqb-true (total s) 0 t)
    (λ f.
    let some : 0 < total s = above (total s) (eqb-false (total s) 0 f) in
    cond_both (nat_le (rule.efficiency * cells_of b) (100 * total s)) (Accept b) _ (IsFate s) (λ _. (some, refl))
    (λ _.
    cond_both (nat_lt (span (ranked b).first b) (2 * least)) (Accept b) _ (IsFate s) (λ _. (some, refl))
    (λ long.
    let cut = cut_of s least b in
    let parts = cut_parts s least b cut (λ axis. span_shrunk axis s h some) (ltb-false (span (ranked b).first b) (2 * least) long) (omega (arith, ints, rule.positive)) refl in
    (some, split_parts b cut (IsBox-shrunk s h some) parts.0 parts.1))))
  where
    above : (n : ℕ) → (n ≡ 0 → ⊥) → 0 < n
    above zero h = absurd (h refl)
    above (suc n) h = omega arith

-- a plane with a tagged cell counts
plane_counts : (axis : Axis) (t : IVec → Bool) (b : Corners) (x : IVec) → Holds b x → t x ≡ true → nat_eq (get_or (planes axis t b) (offset axis b x) 0) 0 ≡ false
unfolding planes tally
plane_counts axis t b x h e =
    let n = offset axis b x in
    let here : get_or (map (λ p. weigh (λ y. one (t y)) (slice axis b p)) (range_with_len 0 (span axis b))) n 0 ≡ weigh (λ y. one (t y)) (slice axis b n) =
    get_or-map-range_with_len (λ p. weigh (λ y. one (t y)) (slice axis b p)) 0 (span axis b) n n 0 (offset_below axis b x h) (omega arith) in
    let some = weigh_member (λ y. one (t y)) (slice axis b n) x (slice-Holds axis b n x h refl) in
    let is : one (t x) ≡ 1 = ap one e in
    ne_eqb (get_or (map (λ p. weigh (λ y. one (t y)) (slice axis b p)) (range_with_len 0 (span axis b))) n 0) 0 (λ z. omega (arith, z, here, some, is))

pub shrunk_keeps : (t : IVec → Bool) (b : Corners) (x : IVec) → Holds b x → t x ≡ true → Holds (shrunk (sign t b)) x
shrunk_keeps t b x h e =
    let i = within I t b x h e in
    let j = within J t b x h e in
    let k = within K t b x h e in
    record {
      low = record { k = omega (arith, ints, k, h.low.k); j = omega (arith, ints, j, h.low.j); i = omega (arith, ints, i, h.low.i) };
      high = record { k = omega (arith, ints, k, h.low.k, h.high.k); j = omega (arith, ints, j, h.low.j, h.high.j); i = omega (arith, ints, i, h.low.i, h.high.i) };
    }
  where
    within : (axis : Axis) (t : IVec → Bool) (b : Corners) (x : IVec) → Holds b x → t x ≡ true
        → (leading (planes axis t b) ≤ offset axis b x) × (offset axis b x + trailing (planes axis t b) < span axis b)
    within axis t b x h e =
        let count = plane_counts axis t b x h e in
        let long = length_planes axis t b in
        let last = before_trailing (planes axis t b) (offset axis b x) (omega (arith, long, offset_below axis b x h)) count in
        (behind_leading (planes axis t b) (offset axis b x) count, omega (arith, last, long))

pub shrunk_inside : (s : Sign) (x : IVec) → IsSign s → Holds (shrunk s) x → Holds s.bx x
shrunk_inside s x h p = record {
  low = record { k = omega (arith, ints, p.low.k); j = omega (arith, ints, p.low.j); i = omega (arith, ints, p.low.i) };
  high = record { k = omega (arith, ints, p.high.k); j = omega (arith, ints, p.high.j); i = omega (arith, ints, p.high.i) };
}
