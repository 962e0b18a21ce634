-- What a fine box needs lies near it.
use Rattle.std.proofs.Common.{◌≡◌, ap, ◌∙◌, arith}
use Rattle.std.proofs.lemmas.Int.{ints, clamps}
use Rattle.std.specs.Prelude.{ℤ, pos, neg_ℤ, ◌≤ℤ◌, ◌+ℤ◌, ◌-ℤ◌, ◌*ℤ◌, true}
use Rattle.std.specs.Int.{int_max}
use Rattle.samr_box.specs.declared.vector.IVec.{IVec}
use Rattle.samr_box.specs.Vector.{alike, times, greatest, AtMost, IsRatio}
use Rattle.samr_box.specs.Corners.{Corners, Holds, grown}
use Rattle.samr_box.specs.Ratios.{floor, coarse, refined}
use Rattle.samr_box.specs.Space.{Space, finer, image, opposite}
use Rattle.samr_box.proofs.Vectors.{same_cell}
use Rattle.samr_box.proofs.Floors.{floor_self, floor-mul, last-from_floor, mul-from_floor}
use Rattle.samr_box.proofs.Products.{mul-plus, mul-minus, mul-neg, mul_assoc, mul_comm, mul_one, mul_le}
use Rattle.samr_box.proofs.CellSets.{meets-from}
use Rattle.samr_level.specs.Overlaps.{Scale, scale, near, rounded_up}
use Rattle.samr_tags.specs.Cover.{covering}

-- on one axis: rounding up, and the corners of what a box needs
nest_fits : (nest l W : ℤ) → pos 1 ≤ℤ l → floor (nest +ℤ (l -ℤ pos 1)) l ≤ℤ W → nest ≤ℤ (W *ℤ l)
nest_fits nest l W one h = let e = last-from_floor (nest +ℤ (l -ℤ pos 1)) l W (omega (arith, ints, one)) h in omega (arith, ints, e)

needs_low : (lo u nest l W z : ℤ) → pos 1 ≤ℤ u → pos 1 ≤ℤ l → nest ≤ℤ (W *ℤ l) → floor (floor lo u -ℤ nest) l ≤ℤ z
    → (lo -ℤ (W *ℤ (l *ℤ u))) ≤ℤ ((z *ℤ (l *ℤ u)) +ℤ ((l *ℤ u) -ℤ pos 1))
needs_low lo u nest l W z hu hl fits h =
    let a = last-from_floor (floor lo u -ℤ nest) l z (omega (arith, ints, hl)) h in
    let t = ((z *ℤ l) +ℤ (l -ℤ pos 1)) +ℤ nest in
    let b = last-from_floor lo u t (omega (arith, ints, hu)) (omega (arith, ints, a)) in
    let c = mul-plus ((z *ℤ l) +ℤ (l -ℤ pos 1)) nest u in
    let d = mul-plus (z *ℤ l) (l -ℤ pos 1) u in
    let e = mul-minus l (pos 1) u in
    let f = mul_one u in
    let g = mul_assoc z l u in
    let i = mul_le u nest (W *ℤ l) (omega (arith, ints, hu)) fits in
    let j = mul_assoc W l u in
    omega (arith, ints, b, c, d, e, f, g, i, j)

needs_high : (hi u nest l W z : ℤ) → pos 1 ≤ℤ u → pos 1 ≤ℤ l → nest ≤ℤ (W *ℤ l) → z ≤ℤ floor (floor hi u +ℤ nest) l
    → (z *ℤ (l *ℤ u)) ≤ℤ (hi +ℤ (W *ℤ (l *ℤ u)))
needs_high hi u nest l W z hu hl fits h =
    let a = mul-from_floor (floor hi u +ℤ nest) l z (omega (arith, ints, hl)) h in
    let b = mul-from_floor hi u ((z *ℤ l) -ℤ nest) (omega (arith, ints, hu)) (omega (arith, ints, a)) in
    let c = mul-minus (z *ℤ l) nest u in
    let g = mul_assoc z l u in
    let i = mul_le u nest (W *ℤ l) (omega (arith, ints, hu)) fits in
    let j = mul_assoc W l u in
    omega (arith, ints, b, c, g, i, j)

-- in the fine index space, seen from the fine box
spread_out : (x s N r q : ℤ) → ((x -ℤ (s *ℤ (N *ℤ r))) *ℤ q) ≡ ((x *ℤ q) +ℤ ((neg_ℤ s) *ℤ (N *ℤ (r *ℤ q))))
spread_out x s N r q =
    let a = mul-minus x (s *ℤ (N *ℤ r)) q in
    let b = mul_assoc s (N *ℤ r) q in
    let c = ap (λ (v : ℤ). s *ℤ v) (mul_assoc N r q) in
    let d = mul-neg s (N *ℤ (r *ℤ q)) in
    omega (arith, ints, a, b, c, d)

low_axis : (lo W q x ahi s N r : ℤ) → pos 1 ≤ℤ q → x ≤ℤ ahi → (lo -ℤ (W *ℤ q)) ≤ℤ (((x -ℤ (s *ℤ (N *ℤ r))) *ℤ q) +ℤ (q -ℤ pos 1))
    → ((lo *ℤ pos 1) -ℤ ((W *ℤ pos 1) *ℤ q)) ≤ℤ (((ahi *ℤ q) +ℤ (q -ℤ pos 1)) +ℤ ((neg_ℤ s) *ℤ (N *ℤ (r *ℤ q))))
low_axis lo W q x ahi s N r one below h =
    let a = spread_out x s N r q in
    let b = mul_le q x ahi (omega (arith, ints, one)) below in
    let w : W *ℤ pos 1 ≡ W = omega (arith, ints) in
    let c = ap (λ (v : ℤ). v *ℤ q) w in
    omega (arith, ints, h, a, b, c)

high_axis : (hi W q x alo s N r : ℤ) → pos 1 ≤ℤ q → alo ≤ℤ x → ((x -ℤ (s *ℤ (N *ℤ r))) *ℤ q) ≤ℤ (hi +ℤ (W *ℤ q))
    → ((alo *ℤ q) +ℤ ((neg_ℤ s) *ℤ (N *ℤ (r *ℤ q)))) ≤ℤ (((hi *ℤ pos 1) +ℤ (pos 1 -ℤ pos 1)) +ℤ ((W *ℤ pos 1) *ℤ q))
high_axis hi W q x alo s N r one above h =
    let a = spread_out x s N r q in
    let b = mul_le q alo x (omega (arith, ints, one)) above in
    let w : W *ℤ pos 1 ≡ W = omega (arith, ints) in
    let c = ap (λ (v : ℤ). v *ℤ q) w in
    omega (arith, ints, h, a, b, c)

-- the scale of the two levels
product_one : (a b : ℤ) → pos 1 ≤ℤ a → pos 1 ≤ℤ b → pos 1 ≤ℤ (a *ℤ b)
product_one a b p q = let h = mul_le b (pos 1) a (omega (arith, ints, q)) p in let e = mul_one b in omega (arith, ints, h, e, q)

greater_on : (r q : ℤ) → pos 1 ≤ℤ r → pos 1 ≤ℤ q → int_max (r *ℤ q) r ≡ r *ℤ q
greater_on r q p h =
    let a = mul_le r (pos 1) q (omega (arith, ints, p)) h in
    let e = mul_one r in
    let c = mul_comm q r in
    omega (arith, ints, clamps, a, e, c)

factor_on : (r q : ℤ) → pos 1 ≤ℤ r → floor (r *ℤ q) r ≡ q
factor_on r q p = ap (λ (v : ℤ). floor v r) (mul_comm r q) ∙ floor-mul r q (omega (arith, ints, p))

fine_scale : Space → IVec → IVec → IVec → Scale
fine_scale frame width r q = record { base = alike (pos 1); head = q; reach = times (times width (alike (pos 1))) q; domain = finer frame (times r q) }

scale_by : Space → IVec → IVec → IVec → IVec → Scale
scale_by frame width finest base head = record { base = base; head = head; reach = times (times width base) head; domain = finer frame finest }

fine_scale_is : (frame : Space) (width r q : IVec) → AtMost (alike (pos 1)) r → AtMost (alike (pos 1)) q → scale frame width (times r q) r ≡ fine_scale frame width r q
unfolding fine_scale scale_by
fine_scale_is frame width r q p h =
    let f = times r q in
    let g : greatest f r ≡ f = same_cell (greater_on r.k q.k p.k h.k) (greater_on r.j q.j p.j h.j) (greater_on r.i q.i p.i h.i) in
    let base : coarse f f ≡ alike (pos 1) =
    same_cell (floor_self f.k (let o = product_one r.k q.k p.k h.k in omega (arith, ints, o))) (floor_self f.j (let o = product_one r.j q.j p.j h.j in omega (arith, ints, o)))
    (floor_self f.i (let o = product_one r.i q.i p.i h.i in omega (arith, ints, o))) in
    let head : coarse f r ≡ q = same_cell (factor_on r.k q.k p.k) (factor_on r.j q.j p.j) (factor_on r.i q.i p.i) in
    ap (λ (v : IVec). scale_by frame width v (coarse v f) (coarse v r)) g
    ∙ ap (λ (v : IVec). scale_by frame width f v (coarse f r)) base
    ∙ ap (λ (v : IVec). scale_by frame width f (alike (pos 1)) v) head

-- a cell of an image of what a fine box needs: the fine box is near the box that has the cell
pub needs_near : (frame : Space) (width r upper nest lower : IVec) (b a : Corners) (s x : IVec) → AtMost (alike (pos 1)) r → IsRatio upper → IsRatio lower
    → AtMost (rounded_up nest lower) width → Holds a x → Holds (image (finer frame r) (covering upper nest lower b) s) x
    → near (scale frame width (times r (times lower upper)) r) b a (opposite s) ≡ true
unfolding fine_scale
needs_near frame width r upper nest lower b a s x hr hu hl wide ha hx =
    let q = times lower upper in
    let one : AtMost (alike (pos 1)) q = record {
      k = product_one lower.k upper.k hl.low.k hu.low.k;
      j = product_one lower.j upper.j hl.low.j hu.low.j;
      i = product_one lower.i upper.i hl.low.i hu.low.i;
    } in
    let n = fine_scale frame width r q in
    let z : ℤ → ℤ → ℤ → ℤ → ℤ = λ x s N r. x -ℤ (s *ℤ (N *ℤ r)) in
    let fk = nest_fits nest.k lower.k width.k hl.low.k wide.k in
    let fj = nest_fits nest.j lower.j width.j hl.low.j wide.j in
    let fi = nest_fits nest.i lower.i width.i hl.low.i wide.i in
    ap (λ (n : Scale). near n b a (opposite s)) (fine_scale_is frame width r q hr one)
    ∙ meets-from {a = grown (refined b n.base) n.reach} {b = image n.domain (refined a n.head) (opposite s)}
    (record {
      low = record {
        k = low_axis b.lo.k width.k q.k x.k a.hi.k s.k frame.size.k r.k one.k ha.high.k
            (needs_low b.lo.k upper.k nest.k lower.k width.k (x.k -ℤ (s.k *ℤ (frame.size.k *ℤ r.k))) hu.low.k hl.low.k fk (omega (arith, ints, hx.low.k)));
        j = low_axis b.lo.j width.j q.j x.j a.hi.j s.j frame.size.j r.j one.j ha.high.j
            (needs_low b.lo.j upper.j nest.j lower.j width.j (x.j -ℤ (s.j *ℤ (frame.size.j *ℤ r.j))) hu.low.j hl.low.j fj (omega (arith, ints, hx.low.j)));
        i = low_axis b.lo.i width.i q.i x.i a.hi.i s.i frame.size.i r.i one.i ha.high.i
            (needs_low b.lo.i upper.i nest.i lower.i width.i (x.i -ℤ (s.i *ℤ (frame.size.i *ℤ r.i))) hu.low.i hl.low.i fi (omega (arith, ints, hx.low.i)));
      };
      high = record {
        k = high_axis b.hi.k width.k q.k x.k a.lo.k s.k frame.size.k r.k one.k ha.low.k
            (needs_high b.hi.k upper.k nest.k lower.k width.k (x.k -ℤ (s.k *ℤ (frame.size.k *ℤ r.k))) hu.low.k hl.low.k fk (omega (arith, ints, hx.high.k)));
        j = high_axis b.hi.j width.j q.j x.j a.lo.j s.j frame.size.j r.j one.j ha.low.j
            (needs_high b.hi.j upper.j nest.j lower.j width.j (x.j -ℤ (s.j *ℤ (frame.size.j *ℤ r.j))) hu.low.j hl.low.j fj (omega (arith, ints, hx.high.j)));
        i = high_axis b.hi.i width.i q.i x.i a.lo.i s.i frame.size.i r.i one.i ha.low.i
            (needs_high b.hi.i upper.i nest.i lower.i width.i (x.i -ℤ (s.i *ℤ (frame.size.i *ℤ r.i))) hu.low.i hl.low.i fi (omega (arith, ints, hx.high.i)));
      };
    })
