-- Products of whole numbers.
use Rattle.std.proofs.Common.{◌≡◌, ℕ, ◌*◌, ap, arith}
use Rattle.std.proofs.lemmas.Int.{ints, by_lt_z}
use Rattle.std.specs.Prelude.{ℤ, pos, negsuc, neg_ℤ, ◌+ℤ◌, ◌-ℤ◌, ◌*ℤ◌, ◌≤ℤ◌, ◌<ℤ◌}
use borrow.Author.Differences.{up, down, sum_is_lem, product_is, neg_is}

pub mul-plus : (a b r : ℤ) → (a +ℤ b) *ℤ r ≡ (a *ℤ r) +ℤ (b *ℤ r)
mul-plus a b r =
    let s = sum_is_lem a b in
    let p = ap (λ (v : ℕ). v * up r) s in
    let q = ap (λ (v : ℕ). v * down r) s in
    omega (arith, ints, p, q)

pub mul-neg : (s n : ℤ) → (neg_ℤ s) *ℤ n ≡ neg_ℤ (s *ℤ n)
mul-neg s n =
    let e = neg_is s in
    let p = ap (λ (v : ℕ). v * up n) e.0 in
    let q = ap (λ (v : ℕ). v * down n) e.0 in
    let r = ap (λ (v : ℕ). v * up n) e.1 in
    let t = ap (λ (v : ℕ). v * down n) e.1 in
    omega (arith, ints, p, q, r, t)

pub mul-minus : (a b r : ℤ) → (a -ℤ b) *ℤ r ≡ (a *ℤ r) -ℤ (b *ℤ r)
mul-minus a b r =
    let e : (a -ℤ b) +ℤ b ≡ a = omega (arith, ints) in
    let p = mul-plus (a -ℤ b) b r in
    let q = ap (λ (v : ℤ). v *ℤ r) e in
    omega (arith, ints, p, q)

pub mul_comm : (a b : ℤ) → a *ℤ b ≡ b *ℤ a
mul_comm a b = omega (arith, ints)

pub mul_assoc : (a b c : ℤ) → (a *ℤ b) *ℤ c ≡ a *ℤ (b *ℤ c)
mul_assoc a b c =
    let p = product_is a b in
    let q = product_is b c in
    let p0 = ap (λ (v : ℕ). v * up c) p.0 in
    let p1 = ap (λ (v : ℕ). v * down c) p.0 in
    let p2 = ap (λ (v : ℕ). v * up c) p.1 in
    let p3 = ap (λ (v : ℕ). v * down c) p.1 in
    let q0 = ap (λ (v : ℕ). up a * v) q.0 in
    let q1 = ap (λ (v : ℕ). down a * v) q.0 in
    let q2 = ap (λ (v : ℕ). up a * v) q.1 in
    let q3 = ap (λ (v : ℕ). down a * v) q.1 in
    omega (arith, ints, p0, p1, p2, p3, q0, q1, q2, q3)

pub mul_one : (a : ℤ) → pos 1 *ℤ a ≡ a
mul_one a = omega (arith, ints)

pub mul_zero : (a : ℤ) → pos 0 *ℤ a ≡ pos 0
mul_zero a = omega (arith, ints)

-- a difference that is not negative, times a factor that is not negative
not_negative : (d r : ℤ) → pos 0 ≤ℤ r → pos 0 ≤ℤ d → pos 0 ≤ℤ (d *ℤ r)
not_negative (pos d) (pos r) p q = omega (arith, ints)
not_negative (pos d) (negsuc r) p q = absurd (omega (arith, ints))
not_negative (negsuc d) r p q = absurd (omega (arith, ints))

pub mul_le : (r a b : ℤ) → pos 0 ≤ℤ r → a ≤ℤ b → (a *ℤ r) ≤ℤ (b *ℤ r)
mul_le r a b p h =
    let d : pos 0 ≤ℤ (b -ℤ a) = omega (arith, ints) in
    let n = not_negative (b -ℤ a) r p d in
    let e = mul-minus b a r in
    omega (arith, ints, n, e)

pub mul_le_back : (r a b : ℤ) → pos 0 <ℤ r → (a *ℤ r) ≤ℤ (b *ℤ r) → a ≤ℤ b
mul_le_back r a b p h =
    by_lt_z b a
    (λ lt.
    let next : (b +ℤ pos 1) ≤ℤ a = omega (arith, ints) in
    let more = mul_le r (b +ℤ pos 1) a (omega (arith, ints)) next in
    let e = mul-plus b (pos 1) r in
    absurd (omega (arith, ints, more, e)))
    (λ le. le)

pub mul_lt : (r a b : ℤ) → pos 0 <ℤ r → a <ℤ b → (a *ℤ r) <ℤ (b *ℤ r)
mul_lt r a b p h =
    let next : (a +ℤ pos 1) ≤ℤ b = omega (arith, ints) in
    let more = mul_le r (a +ℤ pos 1) b (omega (arith, ints)) next in
    let e = mul-plus a (pos 1) r in
    omega (arith, ints, more, e)

pub mul_lt_back : (r a b : ℤ) → pos 0 ≤ℤ r → (a *ℤ r) <ℤ (b *ℤ r) → a <ℤ b
mul_lt_back r a b p h =
    by_lt_z a b (λ lt. lt) (λ le. let more = mul_le r b a p le in absurd (omega (arith, ints, more)))

-- a number of lengths from -1 to 1 is at most a length either way
pub shifted_bounds : (s n : ℤ) → pos 0 ≤ℤ n → negsuc 0 ≤ℤ s → s ≤ℤ pos 1 → (neg_ℤ n ≤ℤ (s *ℤ n)) × ((s *ℤ n) ≤ℤ n)
shifted_bounds s n p low high =
    let a = mul_le n (negsuc 0) s p low in
    let b = mul_le n s (pos 1) p high in
    (omega (arith, ints, a, b), omega (arith, ints, a, b))
