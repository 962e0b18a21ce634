-- Remainders by a length: there is one, and it is found on finer and coarser levels alike.
use Rattle.std.proofs.Common.{◌≡◌, sym, ◌∙◌, ap, arith}
use Rattle.std.proofs.lemmas.Int.{ints, by_lt_z}
use Rattle.std.specs.Prelude.{ℤ, pos, ◌+ℤ◌, ◌-ℤ◌, ◌*ℤ◌, ◌≤ℤ◌, ◌<ℤ◌}
use Rattle.std.specs.Int.{int_rem_euclid}
use Rattle.samr_box.specs.Space.{IsRemainder}
use Rattle.samr_box.specs.Ratios.{floor}
use Rattle.samr_box.proofs.Products.{mul-plus, mul-minus, mul_le, mul_assoc}
use Rattle.samr_box.proofs.Floors.{floor-from_mul, mul-from_floor, floor-to_last, last-from_floor}
use Rattle.samr_box.proofs.Wraps.{IsRemainder-rem}

-- of two numbers of lengths, apart by less than a length, neither is the greater
pub not_more : (n a b l m : ℤ) → pos 0 <ℤ n → pos 0 ≤ℤ a → b <ℤ n → a +ℤ (l *ℤ n) ≡ b +ℤ (m *ℤ n) → l ≤ℤ m
not_more n a b l m p low high same =
    by_lt_z m l
    (λ lt.
    let next : (m +ℤ pos 1) ≤ℤ l = omega (arith, ints) in
    let more = mul_le n (m +ℤ pos 1) l (omega (arith, ints)) next in
    let e = mul-plus m (pos 1) n in
    absurd (omega (arith, ints, more, e, same)))
    (λ le. le)

pub remainder_once : (n y a b : ℤ) → pos 0 <ℤ n → IsRemainder n y a → IsRemainder n y b → a ≡ b
remainder_once n y a b p f g =
    let same : a +ℤ (f.lengths *ℤ n) ≡ b +ℤ (g.lengths *ℤ n) = f.apart ∙ sym g.apart in
    let le = not_more n a b f.lengths g.lengths p f.low g.high same in
    let ge = not_more n b a g.lengths f.lengths p g.low f.high (sym same) in
    let l : f.lengths ≡ g.lengths = omega (arith, ints, le, ge) in
    let e = ap (λ (v : ℤ). v *ℤ n) l in
    omega (arith, ints, same, e)

pub rem-is : (n y a : ℤ) → pos 0 <ℤ n → IsRemainder n y a → int_rem_euclid y n ≡ a
rem-is n y a p f = remainder_once n y (int_rem_euclid y n) a p (IsRemainder-rem n y p) f

-- moving a number by so many times r moves its quotient by so many
pub floor-plus : (x t r : ℤ) → pos 0 <ℤ r → floor (x +ℤ (t *ℤ r)) r ≡ floor x r +ℤ t
floor-plus x t r p =
    let e = mul-plus (floor x r) t r in
    let a = mul-from_floor x r (floor x r) p (omega (arith, ints)) in
    let b = last-from_floor x r (floor x r) p (omega (arith, ints)) in
    let low = floor-from_mul (x +ℤ (t *ℤ r)) r (floor x r +ℤ t) p (omega (arith, ints, a, e)) in
    let high = floor-to_last (x +ℤ (t *ℤ r)) r (floor x r +ℤ t) p (omega (arith, ints, b, e)) in
    omega (arith, ints, low, high)

-- the quotient of the remainder by the finer length is the remainder of the quotient by the coarser length
pub floor-rem : (n r x : ℤ) → pos 0 <ℤ n → pos 0 <ℤ r → pos 0 <ℤ (n *ℤ r)
    → floor (int_rem_euclid x (n *ℤ r)) r ≡ int_rem_euclid (floor x r) n
floor-rem n r x p q pq =
    let f = IsRemainder-rem (n *ℤ r) x pq in
    let a = int_rem_euclid x (n *ℤ r) in
    let low = floor-from_mul a r (pos 0) q (omega (arith, ints, f.low)) in
    let e = mul-minus n (pos 1) r in
    let high = floor-to_last a r (n -ℤ pos 1) q (omega (arith, ints, f.high, e)) in
    let moved = floor-plus a (f.lengths *ℤ n) r q in
    let same : a +ℤ ((f.lengths *ℤ n) *ℤ r) ≡ x = ap (λ (v : ℤ). a +ℤ v) (mul_assoc f.lengths n r) ∙ f.apart in
    let apart : floor a r +ℤ (f.lengths *ℤ n) ≡ floor x r = sym moved ∙ ap (λ (v : ℤ). floor v r) same in
    sym (rem-is n (floor x r) (floor a r) p (record {
      low = low;
      high = omega (arith, ints, high);
      lengths = f.lengths;
      apart = apart;
    }))
