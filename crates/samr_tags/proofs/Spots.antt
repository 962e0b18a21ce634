-- Some member of a list passes a test, some cell about a cell does, and two boxes of one index space are near.
use Rattle.std.proofs.Common.{◌≡◌, ℕ, zero, suc, ◌<◌, refl, sym, ap, ◌∙◌, inl, inr, arith}
use Rattle.std.proofs.lemmas.Int.{ints, clamps}
use Rattle.std.proofs.lemmas.Bool.{or_cases, or_left, or_right, false≢true, lt-ltb, ltb-true}
use Rattle.std.specs.Prelude.{ℤ, pos, ◌≤ℤ◌, ◌*ℤ◌, ◌+ℤ◌, ◌-ℤ◌, Bool, true, false, List, [], ◌∷◌, filter, cond}
use Rattle.std.specs.List.{list_any}
use Rattle.samr_box.specs.declared.vector.Axis.TheVariants.{I, J, K}
use Rattle.samr_box.specs.declared.vector.IVec.{IVec}
use Rattle.samr_box.specs.Vector.{alike, AtMost, Within, IsRatio, times, greatest}
use Rattle.samr_box.specs.Corners.{Corners, Holds, grown, span}
use Rattle.samr_box.specs.Ratios.{coarse, refined}
use Rattle.samr_box.specs.Space.{Space, finer, image}
use Rattle.samr_box.specs.Lists.{Member}
use Rattle.samr_box.proofs.Vectors.{same_cell}
use Rattle.samr_box.proofs.Floors.{floor_self}
use Rattle.samr_box.proofs.CellSets.{meets-from}
use Rattle.samr_bits.specs.Bits.{one}
use Rattle.samr_bits.specs.Sums.{sum_below}
use Rattle.samr_level.specs.Overlaps.{Scale, scale, near}
use Rattle.samr_sign.specs.Counts.{cell_at, weigh, tally}
use Rattle.samr_sign.proofs.Tallies.{weigh_member, cell_Holds}
use Rattle.samr_tags.specs.Buffer.{some_near}

-- a member that passes a test
pub any_member : {X : Type 0} (p : X → Bool) (x : X) (xs : List X) → Member x xs → p x ≡ true → list_any p xs ≡ true
any_member p x [] m t = absurd m
any_member p x (y ∷ ys) (inl same) t = or_left (p y) (list_any p ys) (ap p (sym same) ∙ t)
any_member p x (y ∷ ys) (inr m) t = or_right (p y) (list_any p ys) (any_member p x ys m t)

pub member_any : {X : Type 0} (p : X → Bool) (xs : List X) → list_any p xs ≡ true → (x : X) × Member x xs × (p x ≡ true)
member_any p [] t = absurd (false≢true t)
member_any p (y ∷ ys) t = elim (or_cases (p y) (list_any p ys) t) [
  | inl here ↦ (y, inl refl, here)
  | inr later ↦ let r = member_any p ys later in (r.0, inr r.1, r.2)
]

-- tests that agree on the members pick the same
pub same_filter : {X : Type 0} (p q : X → Bool) (xs : List X) → ((x : X) → Member x xs → p x ≡ q x) → filter p xs ≡ filter q xs
same_filter p q [] h = refl
same_filter {X = X} p q (x ∷ xs) h =
    ap (λ (t : Bool). cond t (x ∷ filter p xs) (filter p xs)) (h x (inl refl))
    ∙ ap (λ (l : List X). cond (q x) (x ∷ l) l) (same_filter p q xs (λ y m. h y (inr m)))

-- a number above 0 in a sum
pub sum_some : (f : ℕ → ℕ) (n : ℕ) → 0 < sum_below f n → (i : ℕ) × (i < n) × (0 < f i)
sum_some f zero h = absurd (omega (arith, h))
sum_some f (suc n) h = by (f n) refl (λ p. sum_some f n p)
  where
    by : (m : ℕ) → f n ≡ m → (0 < sum_below f n → (i : ℕ) × (i < n) × (0 < f i)) → (i : ℕ) × (i < suc n) × (0 < f i)
    by zero e before = let r = before (omega (arith, h, e)) in let below = r.1 in (r.0, omega (arith, below), r.2)
    by (suc m) e before = (n, omega arith, omega (arith, e))

-- a box with a tagged cell
one_true : (t : Bool) → 0 < one t → t ≡ true
one_true true h = refl
one_true false h = absurd (omega (arith, h))

pub tally_some : (t : IVec → Bool) (b : Corners) → AtMost b.lo b.hi → 0 < tally t b → (x : IVec) × Holds b x × (t x ≡ true)
unfolding tally weigh
tally_some t b order h =
    let z = sum_some (λ z. sum_below (λ y. sum_below (λ x. one (t (cell_at b x y z))) (span I b)) (span J b)) (span K b) h in
    let y = sum_some (λ y. sum_below (λ x. one (t (cell_at b x y z.0))) (span I b)) (span J b) z.2 in
    let x = sum_some (λ x. one (t (cell_at b x y.0 z.0))) (span I b) y.2 in
    (cell_at b x.0 y.0 z.0, cell_Holds b x.0 y.0 z.0 x.1 y.1 z.1 order, one_true (t (cell_at b x.0 y.0 z.0)) x.2)

pub tally_has : (t : IVec → Bool) (b : Corners) (x : IVec) → Holds b x → t x ≡ true → 0 < tally t b
unfolding tally
tally_has t b x h e =
    let least = weigh_member (λ y. one (t y)) b x h in
    let is : one (t x) ≡ 1 = ap one e in
    omega (arith, least, is)

-- the cells about a cell
about_order : (x w : IVec) → AtMost (alike (pos 0)) w → (let b : Corners = grown (record { lo = x; hi = x }) w in AtMost b.lo b.hi)
about_order x w h = record { k = omega (arith, ints, h.k); j = omega (arith, ints, h.j); i = omega (arith, ints, h.i) }

pub near_some : (t : IVec → Bool) (w x : IVec) → AtMost (alike (pos 0)) w → some_near t w x ≡ true → (y : IVec) × Within w x y × (t y ≡ true)
near_some t w x low h =
    let r = tally_some t (grown (record { lo = x; hi = x }) w) (about_order x w low) (ltb-true 0 (tally t (grown (record { lo = x; hi = x }) w)) h) in
    (r.0, record { low = r.1.low; high = r.1.high }, r.2)

pub near_has : (t : IVec → Bool) (w x y : IVec) → Within w x y → t y ≡ true → some_near t w x ≡ true
near_has t w x y h e =
    lt-ltb 0 (tally t (grown (record { lo = x; hi = x }) w)) (tally_has t (grown (record { lo = x; hi = x }) w) y (record { low = h.low; high = h.high }) e)

-- two levels of one ratio are compared in cells of theirs
pub greatest_self : (r : IVec) → greatest r r ≡ r
greatest_self r = same_cell (omega (arith, ints, clamps)) (omega (arith, ints, clamps)) (omega (arith, ints, clamps))

pub coarse_self : (r : IVec) → IsRatio r → coarse r r ≡ alike (pos 1)
coarse_self r h =
    same_cell (floor_self r.k (omega (arith, ints, h.low.k))) (floor_self r.j (omega (arith, ints, h.low.j))) (floor_self r.i (omega (arith, ints, h.low.i)))

plain_scale : Space → IVec → Scale
plain_scale d width = record { base = alike (pos 1); head = alike (pos 1); reach = times (times width (alike (pos 1))) (alike (pos 1)); domain = d }

scale_with : Space → IVec → IVec → IVec → Scale
scale_with d width base head = record { base = base; head = head; reach = times (times width base) head; domain = d }

self_scale : (frame : Space) (width r : IVec) → IsRatio r → scale frame width r r ≡ plain_scale (finer frame r) width
unfolding plain_scale scale_with
self_scale frame width r h =
    ap (λ (g : IVec). scale_with (finer frame g) width (coarse g r) (coarse g r)) (greatest_self r)
    ∙ ap (λ (f : IVec). scale_with (finer frame r) width f f) (coarse_self r h)

-- on one axis: the corners of a box grown, and of an image
low_near : (a w b off z : ℤ) → (a -ℤ w) ≤ℤ z → z ≤ℤ (b +ℤ off) → ((a *ℤ pos 1) -ℤ ((w *ℤ pos 1) *ℤ pos 1)) ≤ℤ (((b *ℤ pos 1) +ℤ (pos 1 -ℤ pos 1)) +ℤ off)
low_near a w b off z p q = omega (arith, ints, p, q)

high_near : (a w b off z : ℤ) → z ≤ℤ (a +ℤ w) → (b +ℤ off) ≤ℤ z → ((b *ℤ pos 1) +ℤ off) ≤ℤ (((a *ℤ pos 1) +ℤ (pos 1 -ℤ pos 1)) +ℤ ((w *ℤ pos 1) *ℤ pos 1))
high_near a w b off z p q = omega (arith, ints, p, q)

plain_near : (d : Space) (width : IVec) (a b : Corners) (s z : IVec) → Holds (grown a width) z → Holds (image d b s) z → near (plain_scale d width) a b s ≡ true
unfolding plain_scale
plain_near d width a b s z g i =
    let n = plain_scale d width in
    let m = times s d.size in
    meets-from {a = grown (refined a n.base) n.reach} {b = image d (refined b n.head) s}
    (record {
      low = record {
        k = low_near a.lo.k width.k b.hi.k m.k z.k g.low.k i.high.k;
        j = low_near a.lo.j width.j b.hi.j m.j z.j g.low.j i.high.j;
        i = low_near a.lo.i width.i b.hi.i m.i z.i g.low.i i.high.i;
      };
      high = record {
        k = high_near a.hi.k width.k b.lo.k m.k z.k g.high.k i.low.k;
        j = high_near a.hi.j width.j b.lo.j m.j z.j g.high.j i.low.j;
        i = high_near a.hi.i width.i b.lo.i m.i z.i g.high.i i.low.i;
      };
    })

pub self_near : (frame : Space) (width r : IVec) (a b : Corners) (s z : IVec) → IsRatio r → Holds (grown a width) z → Holds (image (finer frame r) b s) z
    → near (scale frame width r r) a b s ≡ true
self_near frame width r a b s z h g i = ap (λ (n : Scale). near n a b s) (self_scale frame width r h) ∙ plain_near (finer frame r) width a b s z g i
