-- The planes of a box.
use Rattle.std.proofs.Common.{◌≡◌, ℕ, ◌+◌, ◌<◌, ◌≤◌, Bool, true, false, ◌||◌, refl, ap, sym, ◌∙◌, arith}
use Rattle.std.proofs.lemmas.Int.{ints}
use Rattle.std.proofs.lemmas.Bool.{and_from, and_parts, eqb-true, eq-eqb, le-ltb, lt-ltb}
use Rattle.std.proofs.lemmas.Bool.Decides.{nat_tests}
use Rattle.std.specs.Prelude.{ℤ, pos, ◌+ℤ◌, ◌≤ℤ◌, nat_eq, nat_lt, ◌&&◌}
use Rattle.samr_box.specs.declared.vector.Axis.{Axis}
use Rattle.samr_box.specs.declared.vector.Axis.TheVariants.{I, J, K}
use Rattle.samr_box.specs.declared.vector.IVec.{IVec}
use Rattle.samr_box.specs.Vector.{at, put, AtMost, at_most}
use Rattle.samr_box.specs.Corners.{Corners, IsBox, Holds, holds, holds_box, span}
use Rattle.samr_box.proofs.Vectors.{AtMost-at, AtMost-trans, AtMost-refl, at-put}
use Rattle.samr_box.proofs.CellSets.{AtMost-test, at_most-from, Holds-test, holds-from}
use Rattle.samr_sign.specs.Counts.{offset, slice}

abbrev pub corners : IVec → IVec → Corners
corners lo hi = record { lo = lo; hi = hi }

-- two tests that say the same are equal
pub same_test : (a b : Bool) → (a ≡ true → b ≡ true) → (b ≡ true → a ≡ true) → a ≡ b
same_test true true p q = refl
same_test true false p q = sym (p refl)
same_test false true p q = q refl
same_test false false p q = refl

pub IsBox-slice : (axis : Axis) (b : Corners) (p : ℕ) → IsBox b → p < span axis b → IsBox (slice axis b p)
IsBox-slice I b p h q = record {
  low = record { k = h.low.k; j = h.low.j; i = omega (arith, ints, h.low.i) };
  order = record { k = h.order.k; j = h.order.j; i = omega (arith, ints) };
  high = record { k = h.high.k; j = h.high.j; i = omega (arith, ints, q, h.order.i, h.high.i) };
}
IsBox-slice J b p h q = record {
  low = record { k = h.low.k; j = omega (arith, ints, h.low.j); i = h.low.i };
  order = record { k = h.order.k; j = omega (arith, ints); i = h.order.i };
  high = record { k = h.high.k; j = omega (arith, ints, q, h.order.j, h.high.j); i = h.high.i };
}
IsBox-slice K b p h q = record {
  low = record { k = omega (arith, ints, h.low.k); j = h.low.j; i = h.low.i };
  order = record { k = omega (arith, ints); j = h.order.j; i = h.order.i };
  high = record { k = omega (arith, ints, q, h.order.k, h.high.k); j = h.high.j; i = h.high.i };
}

-- a cell lies in a plane where it lies in the box and so many planes above its lowest
pub Holds-slice : (axis : Axis) (b : Corners) (p : ℕ) (x : IVec) → AtMost b.lo b.hi → p < span axis b → Holds (slice axis b p) x → Holds b x × (offset axis b x ≡ p)
Holds-slice I b p x h q s = (
  record {
    low = record { k = s.low.k; j = s.low.j; i = omega (arith, ints, s.low.i) };
    high = record { k = s.high.k; j = s.high.j; i = omega (arith, ints, q, h.i, s.high.i) };
  },
  omega (arith, ints, s.low.i, s.high.i),
)
Holds-slice J b p x h q s = (
  record {
    low = record { k = s.low.k; j = omega (arith, ints, s.low.j); i = s.low.i };
    high = record { k = s.high.k; j = omega (arith, ints, q, h.j, s.high.j); i = s.high.i };
  },
  omega (arith, ints, s.low.j, s.high.j),
)
Holds-slice K b p x h q s = (
  record {
    low = record { k = omega (arith, ints, s.low.k); j = s.low.j; i = s.low.i };
    high = record { k = omega (arith, ints, q, h.k, s.high.k); j = s.high.j; i = s.high.i };
  },
  omega (arith, ints, s.low.k, s.high.k),
)

pub slice-Holds : (axis : Axis) (b : Corners) (p : ℕ) (x : IVec) → Holds b x → offset axis b x ≡ p → Holds (slice axis b p) x
slice-Holds I b p x s e = record {
  low = record { k = s.low.k; j = s.low.j; i = omega (arith, ints, e, s.low.i) };
  high = record { k = s.high.k; j = s.high.j; i = omega (arith, ints, e, s.low.i) };
}
slice-Holds J b p x s e = record {
  low = record { k = s.low.k; j = omega (arith, ints, e, s.low.j); i = s.low.i };
  high = record { k = s.high.k; j = omega (arith, ints, e, s.low.j); i = s.high.i };
}
slice-Holds K b p x s e = record {
  low = record { k = omega (arith, ints, e, s.low.k); j = s.low.j; i = s.low.i };
  high = record { k = omega (arith, ints, e, s.low.k); j = s.high.j; i = s.high.i };
}

pub holds_slice : (axis : Axis) (b : Corners) (p : ℕ) (x : IVec) → AtMost b.lo b.hi → p < span axis b → holds (slice axis b p) x ≡ (holds b x && nat_eq (offset axis b x) p)
holds_slice axis b p x h q =
    same_test (holds (slice axis b p) x) (holds b x && nat_eq (offset axis b x) p)
    (λ t. let s = Holds-slice axis b p x h q (Holds-test t) in and_from (holds b x) (nat_eq (offset axis b x) p) (holds-from s.0) (eq-eqb (offset axis b x) p s.1))
    (λ t. let s = and_parts (holds b x) (nat_eq (offset axis b x) p) t in holds-from (slice-Holds axis b p x (Holds-test s.0) (eqb-true (offset axis b x) p s.1)))

-- a cell of the box lies in one of its planes
pub offset_below : (axis : Axis) (b : Corners) (x : IVec) → Holds b x → offset axis b x < span axis b
offset_below I b x h = omega (arith, ints, h.low.i, h.high.i)
offset_below J b x h = omega (arith, ints, h.low.j, h.high.j)
offset_below K b x h = omega (arith, ints, h.low.k, h.high.k)

-- a plane of a part is a part
pub slice_inside : (axis : Axis) (b part : Corners) (p : ℕ) → AtMost part.lo part.hi → p < span axis part → holds_box b part ≡ true → holds_box b (slice axis part p) ≡ true
slice_inside axis b part p h q t =
    let s = and_parts (at_most b.lo part.lo) (at_most part.hi b.hi) t in
    let low = raised axis b part p (AtMost-test s.0) in
    let high = lowered axis b part p h q (AtMost-test s.1) in
    and_from (at_most b.lo (slice axis part p).lo) (at_most (slice axis part p).hi b.hi) (at_most-from low) (at_most-from high)
  where
    raised : (axis : Axis) (b part : Corners) (p : ℕ) → AtMost b.lo part.lo → AtMost b.lo (slice axis part p).lo
    raised I b part p s = record { k = s.k; j = s.j; i = omega (arith, ints, s.i) }
    raised J b part p s = record { k = s.k; j = omega (arith, ints, s.j); i = s.i }
    raised K b part p s = record { k = omega (arith, ints, s.k); j = s.j; i = s.i }

    lowered : (axis : Axis) (b part : Corners) (p : ℕ) → AtMost part.lo part.hi → p < span axis part → AtMost part.hi b.hi → AtMost (slice axis part p).hi b.hi
    lowered I b part p h q s = record { k = s.k; j = s.j; i = omega (arith, ints, q, h.i, s.i) }
    lowered J b part p h q s = record { k = s.k; j = omega (arith, ints, q, h.j, s.j); i = s.i }
    lowered K b part p h q s = record { k = omega (arith, ints, q, h.k, s.k); j = s.j; i = s.i }

-- a loop over the planes: one plane more, and all
pub planes_more : (h t : Bool) (o z : ℕ) → ((h && nat_eq o z) || ((h && nat_lt o z) || t)) ≡ ((h && nat_lt o (z + 1)) || t)
planes_more true t o z = grind (arith, nat_tests)
planes_more false t o z = refl

pub planes_none : (h t : Bool) (o : ℕ) → t ≡ ((h && nat_lt o 0) || t)
planes_none h t o = sym (ap (λ v. (h && v) || t) (le-ltb o 0 (omega arith)) ∙ nothing h t)
  where
    nothing : (h t : Bool) → ((h && false) || t) ≡ t
    nothing true t = refl
    nothing false t = refl

pub planes_all : (axis : Axis) (b : Corners) (x : IVec) → holds b x ≡ (holds b x && nat_lt (offset axis b x) (span axis b))
planes_all axis b x = same_test (holds b x) (holds b x && nat_lt (offset axis b x) (span axis b)) (λ t. and_from (holds b x) (nat_lt (offset axis b x) (span axis b)) t (lt-ltb (offset axis b x) (span axis b) (offset_below axis b x (Holds-test t)))) (λ t. (and_parts (holds b x) (nat_lt (offset axis b x) (span axis b)) t).0)

-- the plane that is made from a corner
pub slice_made : (axis : Axis) (b : Corners) (p : ℕ) (lo hi : IVec) (z w : ℤ) → lo ≡ put axis b.lo (at axis b.lo +ℤ pos p) → z ≡ at axis lo → w ≡ z → hi ≡ put axis b.hi w
    → corners lo hi ≡ slice axis b p
slice_made axis b p lo hi z w e f g h =
    let here : w ≡ at axis b.lo +ℤ pos p = g ∙ f ∙ ap (at axis) e ∙ at-put axis b.lo (at axis b.lo +ℤ pos p) in
    same_corners lo (put axis b.lo (at axis b.lo +ℤ pos p)) hi (put axis b.hi (at axis b.lo +ℤ pos p)) e (h ∙ ap (put axis b.hi) here)
  where
    same_corners : (a b c d : IVec) → a ≡ b → c ≡ d → corners a c ≡ corners b d
    same_corners a b c d e f = ap (λ v. corners v c) e ∙ ap (λ v. corners b v) f

pub slice_room : (axis : Axis) (b : Corners) (p : ℕ) → IsBox b → p < span axis b → (at axis b.lo +ℤ pos p) ≤ℤ pos 1073741824
slice_room axis b p h q = let order = AtMost-at axis h.order in let high = high_at axis b h in omega (arith, ints, order, high, q)
  where
    high_at : (axis : Axis) (b : Corners) → IsBox b → at axis b.hi ≤ℤ pos 1073741824
    high_at I b h = h.high.i
    high_at J b h = h.high.j
    high_at K b h = h.high.k

-- the loop over the planes, for a test `t` of the field's cells
pub loop_starts : (axis : Axis) (b : Corners) (t : IVec → Bool) (x : IVec) → t x ≡ ((holds b x && nat_lt (offset axis b x) 0) || t x)
loop_starts axis b t x = planes_none (holds b x) (t x) (offset axis b x)

pub loop_goes_on : (axis : Axis) (b plane : Corners) (z : ℕ) (t before after : IVec → Bool) → AtMost b.lo b.hi → z < span axis b → plane ≡ slice axis b z
    → ((x : IVec) → before x ≡ ((holds b x && nat_lt (offset axis b x) z) || t x)) → ((x : IVec) → after x ≡ (holds plane x || before x))
    → (x : IVec) → after x ≡ ((holds b x && nat_lt (offset axis b x) (z + 1)) || t x)
loop_goes_on axis b plane z t before after h q e f g x =
    g x
    ∙ ap (λ p. holds p x || before x) e
    ∙ ap (λ v. v || before x) (holds_slice axis b z x h q)
    ∙ ap (λ v. (holds b x && nat_eq (offset axis b x) z) || v) (f x)
    ∙ planes_more (holds b x) (t x) (offset axis b x) z

pub loop_ends : (axis : Axis) (b : Corners) (z : ℕ) (t after : IVec → Bool) → span axis b ≤ z → z ≤ span axis b
    → ((x : IVec) → after x ≡ ((holds b x && nat_lt (offset axis b x) z) || t x)) → (x : IVec) → after x ≡ (holds b x || t x)
loop_ends axis b z t after p q f x =
    let all : z ≡ span axis b = omega arith in
    f x ∙ ap (λ v. (holds b x && nat_lt (offset axis b x) v) || t x) all ∙ ap (λ v. v || t x) (sym (planes_all axis b x))

pub plane_inside : (axis : Axis) (old now part plane : Corners) (z : ℕ) → AtMost part.lo part.hi → z < span axis part → now ≡ old → plane ≡ slice axis part z → holds_box old part ≡ true → holds_box now plane ≡ true
plane_inside axis old now part plane z h q e f t = ap (λ b. holds_box b plane) e ∙ ap (holds_box old) f ∙ slice_inside axis old part z h q t

-- one cell as a box
pub IsBox-cell : (b : Corners) (x : IVec) → IsBox b → Holds b x → IsBox (record { lo = x; hi = x })
IsBox-cell b x h s = record { low = AtMost-trans h.low s.low; order = AtMost-refl x; high = AtMost-trans s.high h.high }
