-- Whole numbers that are handed on.
use Rattle.std.proofs.Common.{◌≡◌, ℕ, ◌^◌, ◌<◌, ◌≤◌, ap, ◌∙◌, arith}
use Rattle.std.specs.Prelude.{ℤ, pos, negsuc, ◌+ℤ◌, ◌*ℤ◌, ◌≤ℤ◌, unsigned_abs, FitsSigned}
use Rattle.std.specs.Int.{w64, cast_signed, cast_unsigned, int_rem_euclid, int_div_euclid}
use Rattle.std.proofs.lemmas.Int.{ints, unsigned_abs-mul, to_z-of_z}
use Rattle.std.proofs.lemmas.Nat.{mul-le}
use Rattle.samr_box.specs.Ratios.{floor}
use Rattle.samr_box.proofs.Floors.{floor_low, floor_high}

pub size_fits : (z : ℤ) → unsigned_abs z ≤ 2199023255552 → FitsSigned w64 z
size_fits (pos n) h = record { sfits = omega (arith, h) }
size_fits (negsuc n) h = record { sfits = omega (arith, h) }

pub handed : (z : ℤ) → unsigned_abs z ≤ 2199023255552 → cast_signed w64 (cast_unsigned w64 z) ≡ z
handed z h = to_z-of_z w64 z (size_fits z h)

pub between_size : (z : ℤ) → negsuc 2199023255551 ≤ℤ z → z ≤ℤ pos 2199023255552 → unsigned_abs z ≤ 2199023255552
between_size (pos n) low high = omega (arith, ints, high)
between_size (negsuc n) low high = omega (arith, ints, low)

pub size_between : (z : ℤ) → unsigned_abs z ≤ 2199023255552 → (negsuc 2199023255551 ≤ℤ z) × (z ≤ℤ pos 2199023255552)
size_between (pos n) h = (omega (arith, ints, h), omega (arith, ints, h))
size_between (negsuc n) h = (omega (arith, ints, h), omega (arith, ints, h))

pub product_size : (a b : ℤ) → unsigned_abs a ≤ 4294967296 → unsigned_abs b ≤ 512 → unsigned_abs (a *ℤ b) ≤ 2199023255552
product_size a b p q = rw (unsigned_abs-mul a b) (mul-le _ _ _ _ p q)

pub quotient_between : (x r : ℤ) → pos 1 ≤ℤ r → unsigned_abs x ≤ 2199023255552 → (negsuc 2199023255551 ≤ℤ floor x r) × (floor x r ≤ℤ pos 2199023255552)
quotient_between x r some h =
    let b = size_between x h in
    (floor_low x r (negsuc 2199023255551) (omega (arith, ints, some)) (omega (arith, ints)) b.0, floor_high x r (pos 2199023255552) (omega (arith, ints, some)) (omega (arith, ints)) b.1)

twice_size : (r : ℤ) → pos 1 ≤ℤ r → r ≤ℤ pos 256 → unsigned_abs (pos 2 *ℤ r) ≤ 2199023255552
twice_size (pos n) low high = omega (arith, ints, high)
twice_size (negsuc n) low high = absurd (omega (arith, ints, low))

twice_some : (r : ℤ) → pos 1 ≤ℤ r → pos 1 ≤ℤ (pos 2 *ℤ r)
twice_some r low = omega (arith, ints, low)

pub record IsParted (x r q : ℤ) : Type 0 where
  pub value : cast_signed w64 (cast_unsigned w64 q) ≡ floor x r
  pub least : negsuc 2199023255551 ≤ℤ cast_signed w64 (cast_unsigned w64 q)
  pub greatest : cast_signed w64 (cast_unsigned w64 q) ≤ℤ pos 2199023255552

pub parted_is : (s h r q : ℤ) → unsigned_abs s ≤ 4294967296 → unsigned_abs h ≤ 512 → pos 1 ≤ℤ r → r ≤ℤ pos 256
    → q ≡ floor (cast_signed w64 (cast_unsigned w64 (s *ℤ h))) (cast_signed w64 (cast_unsigned w64 (pos 2 *ℤ r))) → IsParted (s *ℤ h) (pos 2 *ℤ r) q
parted_is s h r q ss hs some most given =
    let size = product_size s h ss hs in
    let top = handed (s *ℤ h) size in
    let bottom = handed (pos 2 *ℤ r) (twice_size r some most) in
    let is : q ≡ floor (s *ℤ h) (pos 2 *ℤ r) = given ∙ ap (λ (a : ℤ). floor a (cast_signed w64 (cast_unsigned w64 (pos 2 *ℤ r)))) top ∙ ap (λ (b : ℤ). floor (s *ℤ h) b) bottom in
    let bounds = quotient_between (s *ℤ h) (pos 2 *ℤ r) (twice_some r some) size in
    let q-size : unsigned_abs (floor (s *ℤ h) (pos 2 *ℤ r)) ≤ 2199023255552 = between_size _ bounds.0 bounds.1 in
    let made : cast_signed w64 (cast_unsigned w64 q) ≡ floor (s *ℤ h) (pos 2 *ℤ r) = ap (λ (a : ℤ). cast_signed w64 (cast_unsigned w64 a)) is ∙ handed _ q-size in
    record { value = made; least = rw made bounds.0; greatest = rw made bounds.1 }

pub ratio_size : (r : ℤ) → pos 1 ≤ℤ r → r ≤ℤ pos 256 → unsigned_abs r ≤ 2199023255552
ratio_size (pos n) low high = omega (arith, ints, high)
ratio_size (negsuc n) low high = absurd (omega (arith, ints, low))

pub offset_size : (r : ℤ) → pos 0 ≤ℤ r → r ≤ℤ pos 255 → unsigned_abs r ≤ 2199023255552
offset_size (pos n) low high = omega (arith, ints, high)
offset_size (negsuc n) low high = absurd (omega (arith, ints, low))

abbrev pub cast : ℤ → ℤ
cast z = cast_signed w64 (cast_unsigned w64 z)

pub parted_given : (s h r q : ℤ) → unsigned_abs s ≤ 4294967296 → unsigned_abs h ≤ 512 → pos 1 ≤ℤ r → r ≤ℤ pos 256
    → q ≡ int_div_euclid (cast (cast s *ℤ cast h)) (cast (pos 2 *ℤ cast r)) → IsParted (s *ℤ h) (pos 2 *ℤ r) q
parted_given s h r q ss hs some most given =
    let es : cast s ≡ s = handed s (omega (arith, ss)) in
    let eh : cast h ≡ h = handed h (omega (arith, hs)) in
    let er : cast r ≡ r = handed r (ratio_size r some most) in
    let plain : q ≡ floor (cast (s *ℤ h)) (cast (pos 2 *ℤ r)) = given ∙ ap (λ (a : ℤ). floor (cast (a *ℤ cast h)) (cast (pos 2 *ℤ cast r))) es ∙ ap (λ (a : ℤ). floor (cast (s *ℤ a)) (cast (pos 2 *ℤ cast r))) eh ∙ ap (λ (a : ℤ). floor (cast (s *ℤ h)) (cast (pos 2 *ℤ a))) er in
    parted_is s h r q ss hs some most plain

pub reduced_given : (v m : ℕ) (i j k q : ℤ) → v < 2 ^ 32 → m < 2 ^ 32 → unsigned_abs i ≤ 2199023255552 → unsigned_abs j ≤ 2199023255552 → unsigned_abs k ≤ 2199023255552
    → q ≡ int_rem_euclid (cast (cast (cast (cast (pos v) +ℤ cast i) +ℤ cast j) +ℤ cast k)) (cast (pos m)) → unsigned_abs q < unsigned_abs (cast (pos m))
    → unsigned_abs (cast q) ≡ unsigned_abs (int_rem_euclid (((pos v +ℤ i) +ℤ j) +ℤ k) (pos m))
reduced_given v m i j k q vs ms is js ks given small =
    let ev : cast (pos v) ≡ pos v = handed (pos v) (omega (arith, vs)) in
    let em : cast (pos m) ≡ pos m = handed (pos m) (omega (arith, ms)) in
    let ei : cast i ≡ i = handed i is in
    let ej : cast j ≡ j = handed j js in
    let ek : cast k ≡ k = handed k ks in
    let one : cast (pos v +ℤ i) ≡ pos v +ℤ i = to_z-of_z w64 (pos v +ℤ i) (omega (arith, ints, is, vs)) in
    let two : cast ((pos v +ℤ i) +ℤ j) ≡ (pos v +ℤ i) +ℤ j = to_z-of_z w64 ((pos v +ℤ i) +ℤ j) (omega (arith, ints, is, js, vs)) in
    let three : cast (((pos v +ℤ i) +ℤ j) +ℤ k) ≡ ((pos v +ℤ i) +ℤ j) +ℤ k = to_z-of_z w64 (((pos v +ℤ i) +ℤ j) +ℤ k) (omega (arith, ints, is, js, ks, vs)) in
    let first : cast (cast (pos v) +ℤ cast i) ≡ pos v +ℤ i = ap (λ (a : ℤ). cast (a +ℤ cast i)) ev ∙ ap (λ (a : ℤ). cast (pos v +ℤ a)) ei ∙ one in
    let second : cast (cast (cast (pos v) +ℤ cast i) +ℤ cast j) ≡ (pos v +ℤ i) +ℤ j = ap (λ (a : ℤ). cast (a +ℤ cast j)) first ∙ ap (λ (a : ℤ). cast ((pos v +ℤ i) +ℤ a)) ej ∙ two in
    let third : cast (cast (cast (cast (pos v) +ℤ cast i) +ℤ cast j) +ℤ cast k) ≡ ((pos v +ℤ i) +ℤ j) +ℤ k = ap (λ (a : ℤ). cast (a +ℤ cast k)) second ∙ ap (λ (a : ℤ). cast (((pos v +ℤ i) +ℤ j) +ℤ a)) ek ∙ three in
    let is-q : q ≡ int_rem_euclid (((pos v +ℤ i) +ℤ j) +ℤ k) (pos m) = given ∙ ap (λ (a : ℤ). int_rem_euclid a (cast (pos m))) third ∙ ap (λ (b : ℤ). int_rem_euclid (((pos v +ℤ i) +ℤ j) +ℤ k) b) em in
    let small-m : unsigned_abs (cast (pos m)) ≡ m = ap unsigned_abs em in
    ap unsigned_abs (handed q (omega (arith, small, small-m, ms)) ∙ is-q)
