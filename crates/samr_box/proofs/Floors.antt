-- The quotient rounded down, as the greatest number whose product is at most the dividend.
use Rattle.std.proofs.Common.{◌≡◌, ◌*◌, ◌/◌, ◌<◌, ◌≤◌, suc, arith}
use Rattle.std.proofs.Math.Nat.{le-div_iff_mul-le, div-lt_iff_lt-mul}
use Rattle.std.proofs.lemmas.Int.{ints, by_lt_z}
use Rattle.std.specs.Prelude.{ℤ, pos, negsuc, neg_ℤ, ◌+ℤ◌, ◌-ℤ◌, ◌*ℤ◌, ◌≤ℤ◌, ◌<ℤ◌}
use Rattle.samr_box.specs.Ratios.{floor}
use Rattle.samr_box.proofs.Products.{mul-plus, mul-neg, mul_le, mul_comm}

pub floor-from_mul : (x r z : ℤ) → pos 0 <ℤ r → (z *ℤ r) ≤ℤ x → z ≤ℤ floor x r
floor-from_mul (pos x) (pos r) (pos z) p h =
    let f : z * r ≤ x = omega (arith, ints) in
    let q : 0 < r = omega (arith, ints) in
    let g : z ≤ x / r = (le-div_iff_mul-le q).1 f in
    omega (arith, ints, g)
floor-from_mul (pos x) (pos r) (negsuc z) p h = omega (arith, ints)
floor-from_mul (negsuc x) (pos r) (pos z) p h = absurd (omega (arith, ints))
floor-from_mul (negsuc x) (pos r) (negsuc z) p h =
    let q : 0 < r = omega (arith, ints) in
    let f : x < suc z * r = omega (arith, ints) in
    let g : x / r < suc z = (div-lt_iff_lt-mul q).1 f in
    omega (arith, ints, g)
floor-from_mul x (negsuc r) z p h = absurd (omega (arith, ints))

pub mul-from_floor : (x r z : ℤ) → pos 0 <ℤ r → z ≤ℤ floor x r → (z *ℤ r) ≤ℤ x
mul-from_floor (pos x) (pos r) (pos z) p h =
    let q : 0 < r = omega (arith, ints) in
    let g : z ≤ x / r = omega (arith, ints) in
    let f : z * r ≤ x = (le-div_iff_mul-le q).0 g in
    omega (arith, ints, f)
mul-from_floor (pos x) (pos r) (negsuc z) p h = omega (arith, ints)
mul-from_floor (negsuc x) (pos r) (pos z) p h = absurd (omega (arith, ints))
mul-from_floor (negsuc x) (pos r) (negsuc z) p h =
    let q : 0 < r = omega (arith, ints) in
    let g : x / r < suc z = omega (arith, ints) in
    let f : x < suc z * r = (div-lt_iff_lt-mul q).0 g in
    omega (arith, ints, f)
mul-from_floor x (negsuc r) z p h = absurd (omega (arith, ints))

pub floor-to_last : (x r z : ℤ) → pos 0 <ℤ r → x ≤ℤ ((z *ℤ r) +ℤ (r -ℤ pos 1)) → floor x r ≤ℤ z
floor-to_last x r z p h =
    by_lt_z z (floor x r)
    (λ lt.
    let f = mul-from_floor x r (z +ℤ pos 1) p (omega (arith, ints)) in
    let e = mul-plus z (pos 1) r in
    absurd (omega (arith, ints, f, e)))
    (λ le. le)

pub last-from_floor : (x r z : ℤ) → pos 0 <ℤ r → floor x r ≤ℤ z → x ≤ℤ ((z *ℤ r) +ℤ (r -ℤ pos 1))
last-from_floor x r z p h =
    by_lt_z ((z *ℤ r) +ℤ (r -ℤ pos 1)) x
    (λ lt.
    let e = mul-plus z (pos 1) r in
    let f : ((z +ℤ pos 1) *ℤ r) ≤ℤ x = omega (arith, ints, e) in
    let g = floor-from_mul x r (z +ℤ pos 1) p f in
    absurd (omega (arith, ints, g)))
    (λ le. le)

pub floor-le : (r x y : ℤ) → pos 0 <ℤ r → x ≤ℤ y → floor x r ≤ℤ floor y r
floor-le r x y p h =
    let f = mul-from_floor x r (floor x r) p (omega (arith, ints)) in
    floor-from_mul y r (floor x r) p (omega (arith, ints, f))

-- the first and the last child of a cell lie in it
pub floor-mul : (r t : ℤ) → pos 0 <ℤ r → floor (t *ℤ r) r ≡ t
floor-mul r t p =
    let low = floor-from_mul (t *ℤ r) r t p (omega (arith, ints)) in
    let high = floor-to_last (t *ℤ r) r t p (omega (arith, ints)) in
    omega (arith, ints, low, high)

pub floor-last : (r t : ℤ) → pos 0 <ℤ r → floor ((t *ℤ r) +ℤ (r -ℤ pos 1)) r ≡ t
floor-last r t p =
    let low = floor-from_mul ((t *ℤ r) +ℤ (r -ℤ pos 1)) r t p (omega (arith, ints)) in
    let high = floor-to_last ((t *ℤ r) +ℤ (r -ℤ pos 1)) r t p (omega (arith, ints)) in
    omega (arith, ints, low, high)

pub floor_self : (r : ℤ) → pos 0 <ℤ r → floor r r ≡ pos 1
floor_self r p =
    let low = floor-from_mul r r (pos 1) p (omega (arith, ints)) in
    let high = floor-to_last r r (pos 1) p (omega (arith, ints)) in
    omega (arith, ints, low, high)

-- a quotient is no further from 0 than a bound of the dividend
pub floor_low : (x r m : ℤ) → pos 0 <ℤ r → m ≤ℤ pos 0 → m ≤ℤ x → m ≤ℤ floor x r
floor_low x r m p neg h =
    let f = mul_le (neg_ℤ m) (pos 1) r (omega (arith, ints)) (omega (arith, ints)) in
    let e = mul_comm r (neg_ℤ m) in
    let n = mul-neg m r in
    floor-from_mul x r m p (omega (arith, ints, f, e, n))

pub floor_high : (x r m : ℤ) → pos 0 <ℤ r → pos 0 ≤ℤ m → x ≤ℤ m → floor x r ≤ℤ m
floor_high x r m p positive h =
    let f = mul_le m (pos 1) r positive (omega (arith, ints)) in
    let e = mul_comm r m in
    floor-to_last x r m p (omega (arith, ints, f, e))
