-- Remainders by the length of the domain, and cells outside of it.
use Rattle.std.proofs.Common.{◌≡◌, ◌/◌, ◌<◌, refl, sym, arith, inl, inr}
use Rattle.std.proofs.lemmas.Int.{ints}
use Rattle.std.proofs.lemmas.Bool.{cond-true, cond-false, or_cases, or_left, or_right, not-true, not_from_false, false≢true}
use Rattle.std.specs.Prelude.{ℤ, pos, negsuc, ◌≤ℤ◌, ◌<ℤ◌, int_lt, Bool, true, false, not, ◌&&◌, ◌||◌, IsTrue, ◌↔◌, ◌⊎◌}
use Rattle.std.specs.Int.{int_rem_euclid}
use Rattle.samr_box.specs.declared.vector.Axis.{Axis}
use Rattle.samr_box.specs.declared.vector.Axis.TheVariants.{I, J, K}
use Rattle.samr_box.specs.declared.vector.IVec.{IVec}
use Rattle.samr_box.specs.Vector.{at}
use Rattle.samr_box.specs.Space.{Space, IsSpace, flag, wrapped, wrapped_on, IsRemainder, LeavesOn, IsOutside, leaves, is_outside}

pub IsRemainder-rem : (n x : ℤ) → pos 0 <ℤ n → IsRemainder n x (int_rem_euclid x n)
IsRemainder-rem (pos n) (pos a) p =
    let q : 0 < n = omega (arith, ints) in
    record {
      low = omega (arith, ints);
      high = omega (arith, ints);
      lengths = pos (a / n);
      apart = omega (arith, ints);
    }
IsRemainder-rem (pos n) (negsuc a) p =
    let q : 0 < n = omega (arith, ints) in
    record {
      low = omega (arith, ints);
      high = omega (arith, ints);
      lengths = negsuc (a / n);
      apart = omega (arith, ints);
    }
IsRemainder-rem (negsuc n) x p = absurd (omega (arith, ints))

on_axis : (periodic : Bool) (n x : ℤ) → pos 1 ≤ℤ n → periodic ≡ true → IsRemainder n x (wrapped_on periodic n x)
on_axis periodic n x p e =
    let r = IsRemainder-rem n x (omega (arith, ints)) in
    rw cond-true r

pub IsRemainder-wrapped : (d : Space) (x : IVec) → IsSpace d → (axis : Axis) → flag axis d.periodic ≡ true → IsRemainder (at axis d.size) (at axis x) (at axis (wrapped d x))
IsRemainder-wrapped d x h I e = on_axis d.periodic.i d.size.i x.i h.low.i e
IsRemainder-wrapped d x h J e = on_axis d.periodic.j d.size.j x.j h.low.j e
IsRemainder-wrapped d x h K e = on_axis d.periodic.k d.size.k x.k h.low.k e

pub wrapped-physical : (d : Space) (x : IVec) (axis : Axis) → flag axis d.periodic ≡ false → at axis (wrapped d x) ≡ at axis x
wrapped-physical d x I e = cond-false d.periodic.i (int_rem_euclid x.i d.size.i) x.i e
wrapped-physical d x J e = cond-false d.periodic.j (int_rem_euclid x.j d.size.j) x.j e
wrapped-physical d x K e = cond-false d.periodic.k (int_rem_euclid x.k d.size.k) x.k e

outside_cases : (n x : ℤ) → (int_lt x (pos 0) || not (int_lt x n)) ≡ true → (x <ℤ pos 0) ⊎ (n ≤ℤ x)
outside_cases n x t =
    elim (or_cases (int_lt x (pos 0)) (not (int_lt x n)) t) [
      | inl low ↦ inl (grind (arith, ints, low))
      | inr high ↦ let f = not-true (int_lt x n) high in inr (grind (arith, ints, f))
    ]

outside_low : (n x : ℤ) → x <ℤ pos 0 → (int_lt x (pos 0) || not (int_lt x n)) ≡ true
outside_low n x h = or_left (int_lt x (pos 0)) (not (int_lt x n)) (grind (arith, ints, h))

outside_high : (n x : ℤ) → n ≤ℤ x → (int_lt x (pos 0) || not (int_lt x n)) ≡ true
outside_high n x h = or_right (int_lt x (pos 0)) (not (int_lt x n)) (not_from_false (int_lt x n) (grind (arith, ints, h)))

is_outside-from : (axis : Axis) (d : Space) (x : IVec) → leaves axis d x ≡ true → is_outside d x ≡ true
is_outside-from I d x t = or_left (leaves I d x) (leaves J d x || leaves K d x) t
is_outside-from J d x t = or_right (leaves I d x) (leaves J d x || leaves K d x) (or_left (leaves J d x) (leaves K d x) t)
is_outside-from K d x t = or_right (leaves I d x) (leaves J d x || leaves K d x) (or_right (leaves J d x) (leaves K d x) t)

outside_on : (periodic : Bool) (n x : ℤ) → IsTrue (not periodic && (int_lt x (pos 0) || not (int_lt x n))) ↔ ((periodic ≡ false) × ((x <ℤ pos 0) ⊎ (n ≤ℤ x)))
outside_on true n x = (λ t. absurd (false≢true t), λ h. absurd (false≢true (sym h.0)))
outside_on false n x = (
  λ t. (refl, outside_cases n x t),
  λ h. elim h.1 [ inl low ↦ outside_low n x low | inr high ↦ outside_high n x high ],
)

leaves-means : (axis : Axis) (d : Space) (x : IVec) → IsTrue (leaves axis d x) ↔ LeavesOn axis d x
leaves-means axis d x = outside_on (flag axis d.periodic) (at axis d.size) (at axis x)

pub outside-means : (d : Space) (x : IVec) → IsTrue (is_outside d x) ↔ IsOutside d x
outside-means d x = (
  λ t. elim (or_cases (leaves I d x) (leaves J d x || leaves K d x) t) [
    | inl on_i ↦ (I, (leaves-means I d x).0 on_i)
    | inr rest ↦ elim (or_cases (leaves J d x) (leaves K d x) rest) [
      | inl on_j ↦ (J, (leaves-means J d x).0 on_j)
      | inr on_k ↦ (K, (leaves-means K d x).0 on_k)
    ]
  ],
  λ (axis, h). is_outside-from axis d x ((leaves-means axis d x).1 h),
)
