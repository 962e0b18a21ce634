-- The planes of a box, and loops over them.
use Rattle.std.proofs.Common.{◌≡◌, ℕ, ◌+◌, ◌<◌, ◌≤◌, Bool, true, false, ◌||◌, List, length, refl, ap, sym, ◌∙◌, arith}
use Rattle.std.proofs.lemmas.Int.{ints}
use Rattle.std.proofs.lemmas.Bool.{and_from, and_parts, eqb-true, eq-eqb, le-ltb, lt-ltb, and_right}
use Rattle.std.proofs.lemmas.Bool.Decides.{nat_tests}
use Rattle.std.specs.Prelude.{ℤ, pos, ◌+ℤ◌, ◌≤ℤ◌, nat_eq, nat_lt, ◌&&◌}
use Rattle.samr_box.specs.declared.vector.Axis.{Axis}
use Rattle.samr_box.specs.declared.vector.Axis.TheVariants.{I, J, K}
use Rattle.samr_box.specs.declared.vector.IVec.{IVec}
use Rattle.samr_box.specs.Vector.{at, put, AtMost, at_most}
use Rattle.samr_box.specs.Corners.{Corners, IsBox, Holds, holds, holds_box, span, cells_of}
use Rattle.samr_box.proofs.Vectors.{same_cell, AtMost-at, at-put}
use Rattle.samr_box.proofs.CellSets.{AtMost-test, at_most-from, Holds-test, holds-from}
use Rattle.samr_data.specs.Places.{offset, slice, moved_back}
use Rattle.samr_data.specs.Values.{CanCopy, value_in, listed, changed_in}
use Rattle.samr_data.proofs.PlaceLaws.{same_test, offset_below, part_order}
use Rattle.samr_data.proofs.Lists.{length-listed, value_in-listed, changed_more, changed_none, changed_same}

abbrev pub corners : IVec → IVec → Corners
corners lo hi = record { lo = lo; hi = hi }

pub IsBox-slice : (axis : Axis) (b : Corners) (p : ℕ) → IsBox b → p < span axis b → IsBox (slice axis b p)
IsBox-slice I b p h q = record {
  low = record { k = h.low.k; j = h.low.j; i = omega (arith, ints, h.low.i) };
  order = record { k = h.order.k; j = h.order.j; i = omega (arith, ints) };
  high = record { k = h.high.k; j = h.high.j; i = omega (arith, ints, q, h.order.i, h.high.i) };
}
IsBox-slice J b p h q = record {
  low = record { k = h.low.k; j = omega (arith, ints, h.low.j); i = h.low.i };
  order = record { k = h.order.k; j = omega (arith, ints); i = h.order.i };
  high = record { k = h.high.k; j = omega (arith, ints, q, h.order.j, h.high.j); i = h.high.i };
}
IsBox-slice K b p h q = record {
  low = record { k = omega (arith, ints, h.low.k); j = h.low.j; i = h.low.i };
  order = record { k = omega (arith, ints); j = h.order.j; i = h.order.i };
  high = record { k = omega (arith, ints, q, h.order.k, h.high.k); j = h.high.j; i = h.high.i };
}

-- a cell lies in a plane where it lies in the box and so many planes above its lowest
pub Holds-slice : (axis : Axis) (b : Corners) (p : ℕ) (x : IVec) → AtMost b.lo b.hi → p < span axis b → Holds (slice axis b p) x → Holds b x × (offset axis b x ≡ p)
Holds-slice I b p x h q s = (
  record {
    low = record { k = s.low.k; j = s.low.j; i = omega (arith, ints, s.low.i) };
    high = record { k = s.high.k; j = s.high.j; i = omega (arith, ints, q, h.i, s.high.i) };
  },
  omega (arith, ints, s.low.i, s.high.i),
)
Holds-slice J b p x h q s = (
  record {
    low = record { k = s.low.k; j = omega (arith, ints, s.low.j); i = s.low.i };
    high = record { k = s.high.k; j = omega (arith, ints, q, h.j, s.high.j); i = s.high.i };
  },
  omega (arith, ints, s.low.j, s.high.j),
)
Holds-slice K b p x h q s = (
  record {
    low = record { k = omega (arith, ints, s.low.k); j = s.low.j; i = s.low.i };
    high = record { k = omega (arith, ints, q, h.k, s.high.k); j = s.high.j; i = s.high.i };
  },
  omega (arith, ints, s.low.k, s.high.k),
)

pub slice-Holds : (axis : Axis) (b : Corners) (p : ℕ) (x : IVec) → Holds b x → offset axis b x ≡ p → Holds (slice axis b p) x
slice-Holds I b p x s e = record {
  low = record { k = s.low.k; j = s.low.j; i = omega (arith, ints, e, s.low.i) };
  high = record { k = s.high.k; j = s.high.j; i = omega (arith, ints, e, s.low.i) };
}
slice-Holds J b p x s e = record {
  low = record { k = s.low.k; j = omega (arith, ints, e, s.low.j); i = s.low.i };
  high = record { k = s.high.k; j = omega (arith, ints, e, s.low.j); i = s.high.i };
}
slice-Holds K b p x s e = record {
  low = record { k = omega (arith, ints, e, s.low.k); j = s.low.j; i = s.low.i };
  high = record { k = omega (arith, ints, e, s.low.k); j = s.high.j; i = s.high.i };
}

pub holds_slice : (axis : Axis) (b : Corners) (p : ℕ) (x : IVec) → AtMost b.lo b.hi → p < span axis b → holds (slice axis b p) x ≡ (holds b x && nat_eq (offset axis b x) p)
holds_slice axis b p x h q =
    same_test (holds (slice axis b p) x) (holds b x && nat_eq (offset axis b x) p)
    (λ t. let s = Holds-slice axis b p x h q (Holds-test t) in and_from (holds b x) (nat_eq (offset axis b x) p) (holds-from s.0) (eq-eqb (offset axis b x) p s.1))
    (λ t. let s = and_parts (holds b x) (nat_eq (offset axis b x) p) t in holds-from (slice-Holds axis b p x (Holds-test s.0) (eqb-true (offset axis b x) p s.1)))

-- a plane of a part is a part
pub slice_inside : (axis : Axis) (b part : Corners) (p : ℕ) → AtMost part.lo part.hi → p < span axis part → holds_box b part ≡ true → holds_box b (slice axis part p) ≡ true
slice_inside axis b part p h q t =
    let s = and_parts (at_most b.lo part.lo) (at_most part.hi b.hi) t in
    let low = raised axis b part p (AtMost-test s.0) in
    let high = lowered axis b part p h q (AtMost-test s.1) in
    and_from (at_most b.lo (slice axis part p).lo) (at_most (slice axis part p).hi b.hi) (at_most-from low) (at_most-from high)
  where
    raised : (axis : Axis) (b part : Corners) (p : ℕ) → AtMost b.lo part.lo → AtMost b.lo (slice axis part p).lo
    raised I b part p s = record { k = s.k; j = s.j; i = omega (arith, ints, s.i) }
    raised J b part p s = record { k = s.k; j = omega (arith, ints, s.j); i = s.i }
    raised K b part p s = record { k = omega (arith, ints, s.k); j = s.j; i = s.i }

    lowered : (axis : Axis) (b part : Corners) (p : ℕ) → AtMost part.lo part.hi → p < span axis part → AtMost part.hi b.hi → AtMost (slice axis part p).hi b.hi
    lowered I b part p h q s = record { k = s.k; j = s.j; i = omega (arith, ints, q, h.i, s.i) }
    lowered J b part p h q s = record { k = s.k; j = omega (arith, ints, q, h.j, s.j); i = s.i }
    lowered K b part p h q s = record { k = omega (arith, ints, q, h.k, s.k); j = s.j; i = s.i }

-- the plane that is made from a corner
pub slice_made : (axis : Axis) (b : Corners) (p : ℕ) (lo hi : IVec) (z w : ℤ) → lo ≡ put axis b.lo (at axis b.lo +ℤ pos p) → z ≡ at axis lo → w ≡ z → hi ≡ put axis b.hi w
    → corners lo hi ≡ slice axis b p
slice_made axis b p lo hi z w e f g h =
    let here : w ≡ at axis b.lo +ℤ pos p = g ∙ f ∙ ap (at axis) e ∙ at-put axis b.lo (at axis b.lo +ℤ pos p) in
    same_corners lo (put axis b.lo (at axis b.lo +ℤ pos p)) hi (put axis b.hi (at axis b.lo +ℤ pos p)) e (h ∙ ap (put axis b.hi) here)
  where
    same_corners : (a b c d : IVec) → a ≡ b → c ≡ d → corners a c ≡ corners b d
    same_corners a b c d e f = ap (λ v. corners v c) e ∙ ap (λ v. corners b v) f

pub slice_room : (axis : Axis) (b : Corners) (p : ℕ) → IsBox b → p < span axis b → (at axis b.lo +ℤ pos p) ≤ℤ pos 1073741824
slice_room axis b p h q = let order = AtMost-at axis h.order in let high = high_at axis b h in omega (arith, ints, order, high, q)
  where
    high_at : (axis : Axis) (b : Corners) → IsBox b → at axis b.hi ≤ℤ pos 1073741824
    high_at I b h = h.high.i
    high_at J b h = h.high.j
    high_at K b h = h.high.k

-- the cells of the first so many planes
abbrev pub so_far : Axis → Corners → ℕ → IVec → Bool
so_far axis b n = λ x. holds b x && nat_lt (offset axis b x) n

pub more : (h : Bool) (o n : ℕ) → ((h && nat_eq o n) || (h && nat_lt o n)) ≡ (h && nat_lt o (n + 1))
more true o n = grind (arith, nat_tests)
more false o n = refl

pub none_below : (h : Bool) (o : ℕ) → (h && nat_lt o 0) ≡ false
none_below h o = and_right h (nat_lt o 0) (le-ltb o 0 (omega arith))

pub all_below : (b : Corners) (n : ℕ) (o : IVec → ℕ) → ((x : IVec) → Holds b x → o x < n) → (x : IVec) → (holds b x && nat_lt (o x) n) ≡ holds b x
all_below b n o below x =
    same_test (holds b x && nat_lt (o x) n) (holds b x)
    (λ t. (and_parts (holds b x) (nat_lt (o x) n) t).0)
    (λ t. and_from (holds b x) (nat_lt (o x) n) t (lt-ltb (o x) n (below x (Holds-test t))))

pub slice_more : (axis : Axis) (b plane : Corners) (n : ℕ) → AtMost b.lo b.hi → n < span axis b → plane ≡ slice axis b n → (x : IVec) → (holds plane x || so_far axis b n x) ≡ so_far axis b (n + 1) x
slice_more axis b plane n order below e x =
    ap (λ p. holds p x || so_far axis b n x) e
    ∙ ap (λ v. v || so_far axis b n x) (holds_slice axis b n x order below)
    ∙ more (holds b x) (offset axis b x) n

-- a loop that changes values plane by plane
pub loop_starts : (axis : Axis) (at region : Corners) (old : List ℕ) (f : IVec → ℕ) → AtMost at.lo at.hi → length old ≡ cells_of at
    → old ≡ listed at (changed_in at old (so_far axis region 0) f)
loop_starts axis at region old f order long =
    changed_none at old (so_far axis region 0) f order long (λ x h. none_below (holds region x) (offset axis region x))

pub loop_goes_on : (axis : Axis) (at region plane : Corners) (old was now : List ℕ) (f : IVec → ℕ) (n : ℕ) → AtMost at.lo at.hi → AtMost region.lo region.hi
    → n < span axis region → plane ≡ slice axis region n → was ≡ listed at (changed_in at old (so_far axis region n) f) → now ≡ listed at (changed_in at was (holds plane) f)
    → now ≡ listed at (changed_in at old (so_far axis region (n + 1)) f)
loop_goes_on axis at region plane old was now f n order full below e before step =
    changed_more at old was now (so_far axis region n) (holds plane) (so_far axis region (n + 1)) f order (ap (λ (l : List ℕ). length l) step ∙ length-listed at (changed_in at was (holds plane) f)) before
    (λ x h. ap (λ l. value_in at l x) step ∙ value_in-listed at (changed_in at was (holds plane) f) x h)
    (λ x h. slice_more axis region plane n full below e x)

pub loop_ends : (axis : Axis) (at region : Corners) (old now : List ℕ) (f : IVec → ℕ) (n : ℕ) → AtMost at.lo at.hi → span axis region ≤ n
    → now ≡ listed at (changed_in at old (so_far axis region n) f) → now ≡ listed at (changed_in at old (holds region) f)
loop_ends axis at region old now f n order end e =
    e ∙ changed_same at old (so_far axis region n) (holds region) f order
    (λ x h. all_below region n (offset axis region) (λ y held. let below = offset_below axis region y held in omega (arith, below, end)) x)

-- a plane of a region can be copied where the region can
same_corners : (a b c d : IVec) → a ≡ b → c ≡ d → corners a c ≡ corners b d
same_corners a b c d e f = ap (λ v. corners v c) e ∙ ap (λ v. corners b v) f

moved_back-slice : (axis : Axis) (b : Corners) (by : IVec) (n : ℕ) → moved_back (slice axis b n) by ≡ slice axis (moved_back b by) n
moved_back-slice I b by n = same_corners _ _ _ _ (same_cell refl refl (omega (arith, ints))) (same_cell refl refl (omega (arith, ints)))
moved_back-slice J b by n = same_corners _ _ _ _ (same_cell refl (omega (arith, ints)) refl) (same_cell refl (omega (arith, ints)) refl)
moved_back-slice K b by n = same_corners _ _ _ _ (same_cell (omega (arith, ints)) refl refl) (same_cell (omega (arith, ints)) refl refl)

span-moved_back : (axis : Axis) (b : Corners) (by : IVec) → span axis (moved_back b by) ≡ span axis b
span-moved_back I b by = omega (arith, ints)
span-moved_back J b by = omega (arith, ints)
span-moved_back K b by = omega (arith, ints)

pub order-moved_back : (b : Corners) (by : IVec) → AtMost b.lo b.hi → AtMost (moved_back b by).lo (moved_back b by).hi
order-moved_back b by h = record { k = omega (arith, ints, h.k); j = omega (arith, ints, h.j); i = omega (arith, ints, h.i) }

pub CanCopy-slice : (axis : Axis) (at region source plane : Corners) (by : IVec) (old to from : List ℕ) (n : ℕ) → AtMost region.lo region.hi → n < span axis region
    → plane ≡ slice axis region n → length to ≡ length old → CanCopy old at from source region by → CanCopy to at from source plane by
CanCopy-slice axis at region source plane by old to from n order below e long can = record {
  full = long ∙ can.full;
  few = can.few;
  into = ap (holds_box at) e ∙ slice_inside axis at region n order below can.into;
  source_full = can.source_full;
  source_few = can.source_few;
  out =
      ap (λ p. holds_box source (moved_back p by)) e
      ∙ ap (holds_box source) (moved_back-slice axis region by n)
      ∙ slice_inside axis source (moved_back region by) n (order-moved_back region by order) (omega (arith, below, span-moved_back axis region by)) can.out;
}

pub CanCopy-order : (at region source : Corners) (by : IVec) (to from : List ℕ) → AtMost region.lo region.hi → CanCopy to at from source region by → AtMost at.lo at.hi
CanCopy-order at region source by to from order can = part_order at region can.into order

-- a plane is flat
pub slice_flat_k : (b plane : Corners) (n : ℕ) → plane ≡ slice K b n → plane.hi.k ≡ plane.lo.k
slice_flat_k b plane n e = ap (λ (p : Corners). p.hi.k) e ∙ sym (ap (λ (p : Corners). p.lo.k) e)

pub slice_flat_j : (b plane : Corners) (n : ℕ) → plane ≡ slice J b n → plane.hi.j ≡ plane.lo.j
slice_flat_j b plane n e = ap (λ (p : Corners). p.hi.j) e ∙ sym (ap (λ (p : Corners). p.lo.j) e)

pub slice_keeps_k : (b plane : Corners) (n : ℕ) → plane ≡ slice J b n → b.hi.k ≡ b.lo.k → plane.hi.k ≡ plane.lo.k
slice_keeps_k b plane n e flat = ap (λ (p : Corners). p.hi.k) e ∙ flat ∙ sym (ap (λ (p : Corners). p.lo.k) e)
