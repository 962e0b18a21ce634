-- Boxes that are near each other, on one level and on two.
use Rattle.std.proofs.Common.{◌≡◌, ap, ◌∙◌, arith}
use Rattle.std.proofs.lemmas.Int.{ints, clamps}
use Rattle.std.specs.Prelude.{ℤ, pos, neg_ℤ, ◌≤ℤ◌, ◌<ℤ◌, ◌+ℤ◌, ◌-ℤ◌, ◌*ℤ◌, true}
use Rattle.std.specs.Int.{int_max}
use Rattle.samr_box.specs.declared.vector.Axis.TheVariants.{I, J, K}
use Rattle.samr_box.specs.declared.vector.IVec.{IVec}
use Rattle.samr_box.specs.Vector.{alike, times, greatest, AtMost, IsRatio}
use Rattle.samr_box.specs.Corners.{Corners, Holds, grown}
use Rattle.samr_box.specs.Ratios.{floor, coarse, refined}
use Rattle.samr_box.specs.Space.{Space, finer, image}
use Rattle.samr_box.proofs.Vectors.{same_cell}
use Rattle.samr_box.proofs.Floors.{floor_self, floor-mul, last-from_floor, floor-from_mul, mul-from_floor}
use Rattle.samr_box.proofs.Products.{mul_comm, mul_one, mul_le, mul-neg, mul-plus, mul_lt_back}
use Rattle.samr_box.proofs.CellSets.{meets-from}
use Rattle.samr_level.specs.Overlaps.{Scale, scale, near, rounded_up}
use Rattle.samr_border.specs.Turns.{IsNearOn, IsNearFrame}

-- two levels of one ratio are compared in cells of theirs
greatest_self : (r : IVec) → greatest r r ≡ r
greatest_self r = same_cell (omega (arith, ints, clamps)) (omega (arith, ints, clamps)) (omega (arith, ints, clamps))

coarse_self : (r : IVec) → IsRatio r → coarse r r ≡ alike (pos 1)
coarse_self r h =
    same_cell (floor_self r.k (omega (arith, ints, h.low.k))) (floor_self r.j (omega (arith, ints, h.low.j))) (floor_self r.i (omega (arith, ints, h.low.i)))

plain_scale : Space → IVec → Scale
plain_scale d width = record { base = alike (pos 1); head = alike (pos 1); reach = times (times width (alike (pos 1))) (alike (pos 1)); domain = d }

scale_with : Space → IVec → IVec → IVec → Scale
scale_with d width base head = record { base = base; head = head; reach = times (times width base) head; domain = d }

self_scale : (frame : Space) (width r : IVec) → IsRatio r → scale frame width r r ≡ plain_scale (finer frame r) width
unfolding plain_scale scale_with
self_scale frame width r h =
    ap (λ (g : IVec). scale_with (finer frame g) width (coarse g r) (coarse g r)) (greatest_self r)
    ∙ ap (λ (f : IVec). scale_with (finer frame r) width f f) (coarse_self r h)

low_near : (a w b off z : ℤ) → (a -ℤ w) ≤ℤ z → z ≤ℤ (b +ℤ off) → ((a *ℤ pos 1) -ℤ ((w *ℤ pos 1) *ℤ pos 1)) ≤ℤ (((b *ℤ pos 1) +ℤ (pos 1 -ℤ pos 1)) +ℤ off)
low_near a w b off z p q = omega (arith, ints, p, q)

high_near : (a w b off z : ℤ) → z ≤ℤ (a +ℤ w) → (b +ℤ off) ≤ℤ z → ((b *ℤ pos 1) +ℤ off) ≤ℤ (((a *ℤ pos 1) +ℤ (pos 1 -ℤ pos 1)) +ℤ ((w *ℤ pos 1) *ℤ pos 1))
high_near a w b off z p q = omega (arith, ints, p, q)

plain_near : (d : Space) (width : IVec) (a b : Corners) (s z : IVec) → Holds (grown a width) z → Holds (image d b s) z → near (plain_scale d width) a b s ≡ true
unfolding plain_scale
plain_near d width a b s z g i =
    let n = plain_scale d width in
    let m = times s d.size in
    meets-from {a = grown (refined a n.base) n.reach} {b = image d (refined b n.head) s}
    (record {
      low = record {
        k = low_near a.lo.k width.k b.hi.k m.k z.k g.low.k i.high.k;
        j = low_near a.lo.j width.j b.hi.j m.j z.j g.low.j i.high.j;
        i = low_near a.lo.i width.i b.hi.i m.i z.i g.low.i i.high.i;
      };
      high = record {
        k = high_near a.hi.k width.k b.lo.k m.k z.k g.high.k i.low.k;
        j = high_near a.hi.j width.j b.lo.j m.j z.j g.high.j i.low.j;
        i = high_near a.hi.i width.i b.lo.i m.i z.i g.high.i i.low.i;
      };
    })

pub self_near : (frame : Space) (width r : IVec) (a b : Corners) (s z : IVec) → IsRatio r → Holds (grown a width) z → Holds (image (finer frame r) b s) z
    → near (scale frame width r r) a b s ≡ true
self_near frame width r a b s z h g i = ap (λ (n : Scale). near n a b s) (self_scale frame width r h) ∙ plain_near (finer frame r) width a b s z g i

-- a level and the one below it are compared in cells of the former
product_one : (a b : ℤ) → pos 1 ≤ℤ a → pos 1 ≤ℤ b → pos 1 ≤ℤ (a *ℤ b)
product_one a b p q = let h = mul_le b (pos 1) a (omega (arith, ints, q)) p in let e = mul_one b in omega (arith, ints, h, e, q)

greater_on : (r q : ℤ) → pos 1 ≤ℤ r → pos 1 ≤ℤ q → int_max (r *ℤ q) r ≡ r *ℤ q
greater_on r q p h =
    let a = mul_le r (pos 1) q (omega (arith, ints, p)) h in
    let e = mul_one r in
    let c = mul_comm q r in
    omega (arith, ints, clamps, a, e, c)

factor_on : (r q : ℤ) → pos 1 ≤ℤ r → floor (r *ℤ q) r ≡ q
factor_on r q p = ap (λ (v : ℤ). floor v r) (mul_comm r q) ∙ floor-mul r q (omega (arith, ints, p))

fine_scale : Space → IVec → IVec → IVec → Scale
fine_scale frame width r q = record { base = alike (pos 1); head = q; reach = times (times width (alike (pos 1))) q; domain = finer frame (times r q) }

scale_by : Space → IVec → IVec → IVec → IVec → Scale
scale_by frame width finest base head = record { base = base; head = head; reach = times (times width base) head; domain = finer frame finest }

fine_scale_is : (frame : Space) (width r q : IVec) → AtMost (alike (pos 1)) r → AtMost (alike (pos 1)) q → scale frame width (times r q) r ≡ fine_scale frame width r q
unfolding fine_scale scale_by
fine_scale_is frame width r q p h =
    let f = times r q in
    let g : greatest f r ≡ f = same_cell (greater_on r.k q.k p.k h.k) (greater_on r.j q.j p.j h.j) (greater_on r.i q.i p.i h.i) in
    let base : coarse f f ≡ alike (pos 1) =
    same_cell (floor_self f.k (let o = product_one r.k q.k p.k h.k in omega (arith, ints, o))) (floor_self f.j (let o = product_one r.j q.j p.j h.j in omega (arith, ints, o)))
    (floor_self f.i (let o = product_one r.i q.i p.i h.i in omega (arith, ints, o))) in
    let head : coarse f r ≡ q = same_cell (factor_on r.k q.k p.k) (factor_on r.j q.j p.j) (factor_on r.i q.i p.i) in
    ap (λ (v : IVec). scale_by frame width v (coarse v f) (coarse v r)) g
    ∙ ap (λ (v : IVec). scale_by frame width f v (coarse f r)) base
    ∙ ap (λ (v : IVec). scale_by frame width f (alike (pos 1)) v) head

-- rounding up
fits_on : (g q w : ℤ) → pos 1 ≤ℤ q → floor (g +ℤ (q -ℤ pos 1)) q ≤ℤ w → g ≤ℤ (w *ℤ q)
fits_on g q w one h = let e = last-from_floor (g +ℤ (q -ℤ pos 1)) q w (omega (arith, ints, one)) h in omega (arith, ints, e)

low_down : (a g W q b off z : ℤ) → g ≤ℤ (W *ℤ q) → (a -ℤ g) ≤ℤ z → z ≤ℤ (b +ℤ off) → ((a *ℤ pos 1) -ℤ ((W *ℤ pos 1) *ℤ q)) ≤ℤ (b +ℤ off)
low_down a g W q b off z w p h =
    let one : W *ℤ pos 1 ≡ W = omega (arith, ints) in
    let c = ap (λ (v : ℤ). v *ℤ q) one in
    omega (arith, ints, w, p, h, c)

high_down : (a g W q b off z : ℤ) → g ≤ℤ (W *ℤ q) → z ≤ℤ (a +ℤ g) → (b +ℤ off) ≤ℤ z → (b +ℤ off) ≤ℤ (((a *ℤ pos 1) +ℤ (pos 1 -ℤ pos 1)) +ℤ ((W *ℤ pos 1) *ℤ q))
high_down a g W q b off z w p h =
    let one : W *ℤ pos 1 ≡ W = omega (arith, ints) in
    let c = ap (λ (v : ℤ). v *ℤ q) one in
    omega (arith, ints, w, p, h, c)

pub down_near : (frame : Space) (reach r q g : IVec) (a b : Corners) (s z : IVec) → IsRatio r → IsRatio q → AtMost (rounded_up g q) reach
    → Holds (grown a g) z → Holds (image (finer frame (times r q)) (refined b q) s) z → near (scale frame reach (times r q) r) a b s ≡ true
unfolding fine_scale
down_near frame reach r q g a b s z hr hq wide h i =
    let n = fine_scale frame reach r q in
    let m = times s (finer frame (times r q)).size in
    let c = refined b q in
    let fk = fits_on g.k q.k reach.k hq.low.k wide.k in
    let fj = fits_on g.j q.j reach.j hq.low.j wide.j in
    let fi = fits_on g.i q.i reach.i hq.low.i wide.i in
    ap (λ (n : Scale). near n a b s) (fine_scale_is frame reach r q hr.low hq.low)
    ∙ meets-from {a = grown (refined a n.base) n.reach} {b = image n.domain (refined b n.head) s}
    (record {
      low = record {
        k = low_down a.lo.k g.k reach.k q.k c.hi.k m.k z.k fk h.low.k i.high.k;
        j = low_down a.lo.j g.j reach.j q.j c.hi.j m.j z.j fj h.low.j i.high.j;
        i = low_down a.lo.i g.i reach.i q.i c.hi.i m.i z.i fi h.low.i i.high.i;
      };
      high = record {
        k = high_down a.hi.k g.k reach.k q.k c.lo.k m.k z.k fk h.high.k i.low.k;
        j = high_down a.hi.j g.j reach.j q.j c.lo.j m.j z.j fj h.high.j i.low.j;
        i = high_down a.hi.i g.i reach.i q.i c.lo.i m.i z.i fi h.high.i i.low.i;
      };
    })

-- the coarse cell over a cell near a fine frame is near the coarse one
near_coarse_on : (N r x : ℤ) → pos 1 ≤ℤ r → neg_ℤ (N *ℤ r) ≤ℤ x → x <ℤ ((N *ℤ r) +ℤ (N *ℤ r)) → (neg_ℤ N ≤ℤ floor x r) × (floor x r <ℤ (N +ℤ N))
near_coarse_on N r x one low high =
    let e = mul-neg N r in
    let f = mul-plus N N r in
    let g = mul-from_floor x r (floor x r) (omega (arith, ints, one)) (omega (arith, ints)) in (
      floor-from_mul x r (neg_ℤ N) (omega (arith, ints, one)) (omega (arith, ints, e, low)),
      mul_lt_back r (floor x r) (N +ℤ N) (omega (arith, ints, one)) (omega (arith, ints, f, g, high)),
    )

pub near_coarse : (d : Space) (r x : IVec) → IsRatio r → IsNearFrame (finer d r) x → IsNearFrame d (coarse x r)
near_coarse d r x h near I = λ p. near_coarse_on d.size.i r.i x.i h.low.i (near I p).0 (near I p).1
near_coarse d r x h near J = λ p. near_coarse_on d.size.j r.j x.j h.low.j (near J p).0 (near J p).1
near_coarse d r x h near K = λ p. near_coarse_on d.size.k r.k x.k h.low.k (near K p).0 (near K p).1
