-- The shapes of an accepted problem.
use Rattle.std.proofs.Common.{◌≡◌, ℕ, ◌*◌, ◌≤◌, true, false, arith, nat_lt}
use Rattle.std.proofs.lemmas.Int.{ints}
use Rattle.std.proofs.lemmas.Bool.{and_parts}
use Rattle.std.proofs.lemmas.Bool.Decides.{nat_tests}
use Rattle.std.proofs.Math.Nat.{mul-le-mul_left}
use Rattle.std.specs.Prelude.{ℤ, pos, negsuc, ◌≤ℤ◌, unsigned_abs, nat_le, int_le}
use Rattle.std.specs.List.{All}
use Rattle.samr_box.specs.declared.vector.IVec.{IVec}
use Rattle.samr_box.specs.Vector.{alike, Between}
use Rattle.samr_box.proofs.Members.{All-from_members}
use Rattle.samr_shape.specs.declared.shape.Shape.{Shape}
use Rattle.samr_shape.specs.declared.shape.Shape.TheVariants.{Slab, Ball}
use Rattle.samr_shape.specs.Tags.{IsShape, IsSpeed}
use Rattle.samr_problem.specs.declared.lengths.Lengths.{Lengths}
use Rattle.samr_problem.specs.Faults.{is_large}
use Rattle.samr_problem.specs.Fields.{Fields}
use Rattle.samr_problem.specs.Lengths.{lengths_of, cells_in, fits_along, fits_in}
use Rattle.samr_problem.specs.Problems.{IsProblem, is_shape, is_flat_shape}
use Rattle.samr_problem.specs.Values.{axes_within, is_within}
use Rattle.samr_mesh.proofs.Grounding.{axes_of, int_is}
use Rattle.samr_mesh.proofs.Regions.{le_true, members_pass}

longer : (n m : ℕ) → 1 ≤ m → n ≤ n * m
longer n m h = let e = mul-le-mul_left n h in omega (arith, e)

-- of three lengths with few cells each is small
one_small : (a b c n : ℕ) → 1 ≤ a → 1 ≤ b → 1 ≤ c → a * b * c ≤ n → (a ≤ n) × (b ≤ n) × (c ≤ n)
one_small a b c n p q r h =
    let ab = longer a b q in
    let ba = longer b a p in
    let comm : b * a ≡ a * b = omega arith in
    let abc = longer (a * b) c r in
    let some : 1 ≤ a * b = omega (arith, ab, p) in
    let cab = longer c (a * b) some in
    let comm2 : c * (a * b) ≡ a * b * c = omega arith in
    (omega (arith, ab, abc, h), omega (arith, ba, comm, abc, h), omega (arith, cab, comm2, h))

fits_is : (length : ℕ) (z : ℤ) → fits_along length z ≡ true → (pos 1 ≤ℤ z) × (unsigned_abs z ≤ length)
fits_is length z h = let both = and_parts (int_le (pos 1) z) (nat_le (unsigned_abs z) length) h in (le_true (pos 1) z both.0, least (unsigned_abs z) length both.1)
  where
    least : (a b : ℕ) → nat_le a b ≡ true → a ≤ b
    least a b e = grind (arith, nat_tests)

-- a size in a domain of few cells
size_is : (l : Lengths) (size : IVec) → cells_in l ≤ 4194304 → fits_in l size ≡ true → Between (alike (pos 1)) size (alike (pos 1073741824))
unfolding fits_in
size_is l size few h =
    let first = and_parts (fits_along l.i size.i) _ h in
    let rest = and_parts (fits_along l.j size.j) _ first.1 in
    let i = fits_is l.i size.i first.0 in
    let j = fits_is l.j size.j rest.0 in
    let k = fits_is l.k size.k rest.1 in
    let s = one_small l.i l.j l.k 4194304 (some l.i size.i i) (some l.j size.j j) (some l.k size.k k) few in
    record { low = record { k = k.0; j = j.0; i = i.0 }; high = record { k = most l.k size.k k s.2; j = most l.j size.j j s.1; i = most l.i size.i i s.0 } }
  where
    some : (n : ℕ) (z : ℤ) → (pos 1 ≤ℤ z) × (unsigned_abs z ≤ n) → 1 ≤ n
    some n z (one, up) = omega (arith, ints, one, up)

    most : (n : ℕ) (z : ℤ) → (pos 1 ≤ℤ z) × (unsigned_abs z ≤ n) → n ≤ 4194304 → z ≤ℤ pos 1073741824
    most n z (one, up) small = omega (arith, ints, one, up, small)

wider : (low high : ℤ) (v : IVec) → Between (alike low) v (alike high) → negsuc 8388607 ≤ℤ low → high ≤ℤ pos 8388608 → Between (alike (negsuc 1073741823)) v (alike (pos 1073741824))
wider low high v h p q = record {
  low = record { k = omega (arith, ints, h.low.k, p); j = omega (arith, ints, h.low.j, p); i = omega (arith, ints, h.low.i, p) };
  high = record { k = omega (arith, ints, h.high.k, q); j = omega (arith, ints, h.high.j, q); i = omega (arith, ints, h.high.i, q) };
}

speed : (v : IVec) → Between (alike (negsuc 4095)) v (alike (pos 4096)) → IsSpeed v
speed v h = record {
  low = record { k = omega (arith, ints, h.low.k); j = omega (arith, ints, h.low.j); i = omega (arith, ints, h.low.i) };
  high = record { k = omega (arith, ints, h.high.k); j = omega (arith, ints, h.high.j); i = omega (arith, ints, h.high.i) };
}

zero_in : (low high z : ℤ) → z ≡ pos 0 → low ≤ℤ pos 0 → pos 0 ≤ℤ high → (low ≤ℤ z) × (z ≤ℤ high)
zero_in low high z e p q = (omega (arith, ints, e, p), omega (arith, ints, e, q))

shape_is : (dim : ℕ) (finest : Lengths) (s : Shape) → cells_in finest ≤ 4194304 → is_shape dim finest s ≡ true → (dim ≡ 2 → is_flat_shape s ≡ true) → IsShape s
unfolding is_shape is_within
shape_is dim finest (Slab lo size velocity) few h flat =
    let a = and_parts (axes_within dim (negsuc 8388607) (pos 8388608) lo) _ h in
    let b = and_parts (fits_in finest size) _ a.1 in
    let place = axes_of dim (negsuc 8388607) (negsuc 8388607) (pos 8388608) lo (omega (arith, ints)) a.0
    (λ two. zero_in (negsuc 8388607) (pos 8388608) lo.k (int_is lo.k (pos 0) (and_parts _ _ (flat two)).0) (omega (arith, ints)) (omega (arith, ints))) in
    let way = axes_of dim (negsuc 4095) (negsuc 4095) (pos 4096) velocity (omega (arith, ints)) b.1
    (λ two. zero_in (negsuc 4095) (pos 4096) velocity.k (int_is velocity.k (pos 0) (and_parts _ _ (and_parts _ _ (flat two)).1).1) (omega (arith, ints)) (omega (arith, ints))) in
    record { lo_range = wider (negsuc 8388607) (pos 8388608) lo place (omega (arith, ints)) (omega (arith, ints)); size_range = size_is finest size few b.0; speed = speed velocity way }
shape_is dim finest (Ball at radius velocity) few h flat =
    let a = and_parts (axes_within dim (negsuc 8388607) (pos 8388608) at) _ h in
    let b = and_parts (is_within (pos 0) (pos 4194304) radius) _ a.1 in
    let r = and_parts _ _ b.0 in
    let low = le_true (pos 0) radius r.0 in
    let high = le_true radius (pos 4194304) r.1 in
    let place = axes_of dim (negsuc 8388607) (negsuc 8388607) (pos 8388608) at (omega (arith, ints)) a.0
    (λ two. zero_in (negsuc 8388607) (pos 8388608) at.k (int_is at.k (pos 0) (and_parts _ _ (flat two)).0) (omega (arith, ints)) (omega (arith, ints))) in
    let way = axes_of dim (negsuc 4095) (negsuc 4095) (pos 4096) velocity (omega (arith, ints)) b.1
    (λ two. zero_in (negsuc 4095) (pos 4096) velocity.k (int_is velocity.k (pos 0) (and_parts _ _ (flat two)).1) (omega (arith, ints)) (omega (arith, ints))) in
    record {
      at_range = wider (negsuc 8388607) (pos 8388608) at place (omega (arith, ints)) (omega (arith, ints));
      radius_low = low;
      radius_high = omega (arith, ints, high);
      speed = speed velocity way;
    }

finest_few : (p : Fields) → IsProblem p → cells_in (lengths_of p.domain p.ratio) ≤ 4194304
unfolding is_large
finest_few p is = not_more (cells_in (lengths_of p.domain p.ratio)) is.finest
  where
    not_more : (n : ℕ) → nat_lt 4194304 n ≡ false → n ≤ 4194304
    not_more n e = grind (arith, nat_tests)

pub shapes_are : (p : Fields) → IsProblem p → All IsShape p.shapes
shapes_are p is =
    All-from_members IsShape p.shapes
    (λ s m. shape_is p.dim (lengths_of p.domain p.ratio) s (finest_few p is) (members_pass (is_shape p.dim (lengths_of p.domain p.ratio)) p.shapes is.shapes s m) (λ two. members_pass is_flat_shape p.shapes (is.flat two).shapes s m))
