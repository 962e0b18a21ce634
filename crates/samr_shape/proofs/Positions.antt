-- How far a shape's numbers reach.
use Rattle.std.proofs.Common.{◌≡◌, ℕ, ◌<◌, ◌^◌, Bool, true, false, ℤ, pos, negsuc, ◌+ℤ◌, ◌*ℤ◌, ◌≤ℤ◌, neg_ℤ, arith}
use Rattle.std.proofs.lemmas.Int.{ints}
use Rattle.samr_box.specs.declared.vector.IVec.{IVec}
use Rattle.samr_box.specs.Vector.{alike, plus, minus, times, Between, FitsVector, InRange}
use Rattle.samr_box.specs.Space.{Space, IsSpace, wrapped_on}
use Rattle.samr_box.proofs.Products.{mul_le, mul_comm, mul-neg}
use Rattle.samr_box.proofs.Wraps.{IsRemainder-rem}
use Rattle.samr_shape.specs.Tags.{IsSpeed, position}

-- a speed times a number of steps
on_way : (v : ℤ) (s : ℕ) → negsuc 1048575 ≤ℤ v → v ≤ℤ pos 1048576 → s < 2 ^ 32 → (negsuc 4503599627370495 ≤ℤ (v *ℤ pos s)) × ((v *ℤ pos s) ≤ℤ pos 4503599627370496)
on_way v s low high few =
    let above = mul_le (pos s) v (pos 1048576) (omega (arith, ints)) high in
    let below = mul_le (pos s) (negsuc 1048575) v (omega (arith, ints)) low in
    let most = mul_le (pos 1048576) (pos s) (pos 4294967296) (omega (arith, ints)) (omega (arith, ints)) in
    let same : pos 1048576 *ℤ pos s ≡ pos s *ℤ pos 1048576 = mul_comm (pos 1048576) (pos s) in
    let other : negsuc 1048575 *ℤ pos s ≡ neg_ℤ (pos 1048576 *ℤ pos s) = mul-neg (pos 1048576) (pos s) in
    (omega (arith, ints, above, below, most, same, other), omega (arith, ints, above, below, most, same, other))

wrapped-between : (periodic : Bool) (n x : ℤ) → pos 1 ≤ℤ n → n ≤ℤ pos 1073741824 → negsuc 9007199254740991 ≤ℤ x → x ≤ℤ pos 9007199254740992
    → (negsuc 9007199254740991 ≤ℤ wrapped_on periodic n x) × (wrapped_on periodic n x ≤ℤ pos 9007199254740992)
wrapped-between true n x low high above below =
    let r = IsRemainder-rem n x (omega (arith, ints)) in
    let least = r.low in
    let most = r.high in
    (omega (arith, ints), omega (arith, ints))
wrapped-between false n x low high above below = (above, below)

pub IsWay : {v : IVec} {s : ℕ} → IsSpeed v → s < 2 ^ 32 → Between (alike (negsuc 4503599627370495)) (times v (alike (pos s))) (alike (pos 4503599627370496))
IsWay {v} {s} p few =
    let k = on_way v.k s p.low.k p.high.k few in
    let j = on_way v.j s p.low.j p.high.j few in
    let i = on_way v.i s p.low.i p.high.i few in
    record { low = record { k = k.0; j = j.0; i = i.0 }; high = record { k = k.1; j = j.1; i = i.1 } }

pub fits_way : {v : IVec} {s : ℕ} → IsSpeed v → s < 2 ^ 32 → FitsVector (times v (alike (pos s)))
fits_way p few = let w = IsWay p few in record { k = omega (arith, ints, w.low.k, w.high.k); j = omega (arith, ints, w.low.j, w.high.j); i = omega (arith, ints, w.low.i, w.high.i) }

pub fits_end : {x v : IVec} {s : ℕ} → InRange x → IsSpeed v → s < 2 ^ 32 → FitsVector (plus x (times v (alike (pos s))))
fits_end h p few = let w = IsWay p few in record {
  k = omega (arith, ints, w.low.k, w.high.k, h.low.k, h.high.k);
  j = omega (arith, ints, w.low.j, w.high.j, h.low.j, h.high.j);
  i = omega (arith, ints, w.low.i, w.high.i, h.low.i, h.high.i);
}

pub wide_position : (d : Space) (x v : IVec) (s : ℕ) → IsSpace d → InRange x → IsSpeed v → s < 2 ^ 32 → Between (alike (negsuc 9007199254740991)) (position d x v s) (alike (pos 9007199254740992))
wide_position d x v s space h p few =
    let w = IsWay p few in
    let k = wrapped-between d.periodic.k d.size.k (x.k +ℤ (v.k *ℤ pos s)) space.low.k space.high.k (omega (arith, ints, w.low.k, h.low.k)) (omega (arith, ints, w.high.k, h.high.k)) in
    let j = wrapped-between d.periodic.j d.size.j (x.j +ℤ (v.j *ℤ pos s)) space.low.j space.high.j (omega (arith, ints, w.low.j, h.low.j)) (omega (arith, ints, w.high.j, h.high.j)) in
    let i = wrapped-between d.periodic.i d.size.i (x.i +ℤ (v.i *ℤ pos s)) space.low.i space.high.i (omega (arith, ints, w.low.i, h.low.i)) (omega (arith, ints, w.high.i, h.high.i)) in
    record { low = record { k = k.0; j = j.0; i = i.0 }; high = record { k = k.1; j = j.1; i = i.1 } }

pub short_twice : {lo hi p : IVec} → InRange lo → InRange hi → Between (alike (negsuc 18014398509481983)) p (alike (pos 18014398509481984))
    → Between (alike (negsuc 1152921504606846975)) (minus (plus lo hi) (plus p p)) (alike (pos 1152921504606846976))
short_twice a b h = record {
  low = record {
    k = omega (arith, ints, a.low.k, b.low.k, h.high.k);
    j = omega (arith, ints, a.low.j, b.low.j, h.high.j);
    i = omega (arith, ints, a.low.i, b.low.i, h.high.i);
  };
  high = record {
    k = omega (arith, ints, a.high.k, b.high.k, h.low.k);
    j = omega (arith, ints, a.high.j, b.high.j, h.low.j);
    i = omega (arith, ints, a.high.i, b.high.i, h.low.i);
  };
}

-- the corners of an image of a slab on the way
module _ {at offset : IVec} (place : Between (alike (negsuc 9007199254740991)) at (alike (pos 9007199254740992))) (small : InRange offset) where
  pub fits_image : FitsVector (plus at offset)
  fits_image = record {
    k = omega (arith, ints, place.low.k, place.high.k, small.low.k, small.high.k);
    j = omega (arith, ints, place.low.j, place.high.j, small.low.j, small.high.j);
    i = omega (arith, ints, place.low.i, place.high.i, small.low.i, small.high.i);
  }

  pub wide_image : Between (alike (negsuc 18014398509481983)) (plus at offset) (alike (pos 18014398509481984))
  wide_image = record {
    low = record { k = omega (arith, ints, place.low.k, small.low.k); j = omega (arith, ints, place.low.j, small.low.j); i = omega (arith, ints, place.low.i, small.low.i) };
    high = record { k = omega (arith, ints, place.high.k, small.high.k); j = omega (arith, ints, place.high.j, small.high.j); i = omega (arith, ints, place.high.i, small.high.i) };
  }

pub fits_last : {at size : IVec} → Between (alike (negsuc 9007199254740991)) at (alike (pos 9007199254740992)) → Between (alike (pos 1)) size (alike (pos 1073741824))
    → FitsVector (minus (plus at size) (alike (pos 1)))
fits_last place h = record {
  k = omega (arith, ints, place.low.k, place.high.k, h.low.k, h.high.k);
  j = omega (arith, ints, place.low.j, place.high.j, h.low.j, h.high.j);
  i = omega (arith, ints, place.low.i, place.high.i, h.low.i, h.high.i);
}

pub fits_last_image : {at size offset : IVec} → Between (alike (negsuc 9007199254740991)) at (alike (pos 9007199254740992)) → Between (alike (pos 1)) size (alike (pos 1073741824))
    → InRange offset → FitsVector (plus (minus (plus at size) (alike (pos 1))) offset)
fits_last_image place h small = record {
  k = omega (arith, ints, place.low.k, place.high.k, h.low.k, h.high.k, small.low.k, small.high.k);
  j = omega (arith, ints, place.low.j, place.high.j, h.low.j, h.high.j, small.low.j, small.high.j);
  i = omega (arith, ints, place.low.i, place.high.i, h.low.i, h.high.i, small.low.i, small.high.i);
}

pub short_radius : {r : ℤ} → pos 0 ≤ℤ r → r ≤ℤ pos 1073741824 → Between (alike (negsuc 1152921504606846975)) (alike (r +ℤ r)) (alike (pos 1152921504606846976))
short_radius low high = record {
  low = record { k = omega (arith, ints); j = omega (arith, ints); i = omega (arith, ints) };
  high = record { k = omega (arith, ints); j = omega (arith, ints); i = omega (arith, ints) };
}
