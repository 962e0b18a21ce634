-- One cell about a region on the real axes.
use Rattle.std.proofs.Common.{◌≡◌, true, false, ap, arith}
use Rattle.std.proofs.lemmas.Int.{ints}
use Rattle.std.specs.Prelude.{ℤ, pos, ◌+ℤ◌, ◌-ℤ◌, ◌≤ℤ◌, Bool, if◌then◌else◌}
use Rattle.samr_box.specs.declared.space.Flags.{Flags}
use Rattle.samr_box.specs.declared.vector.IVec.{IVec}
use Rattle.samr_box.specs.declared.vector.Axis.{Axis}
use Rattle.samr_box.specs.declared.vector.Axis.TheVariants.{I, J, K}
use Rattle.samr_box.specs.Vector.{alike, Between, InRange}
use Rattle.samr_box.specs.Corners.{Corners, Holds, grown}
use Rattle.samr_box.specs.Space.{flag}
use Rattle.samr_box.proofs.Totals.{same_corners}
use Rattle.samr_box.proofs.Vectors.{same_cell}
use Rattle.samr_linear.specs.Scratches.{lower, upper}
use Rattle.samr_linear.specs.LinearWriting.{inner}
use Rattle.samr_linear.specs.Around.{one_around}

one_low : (b : Bool) → pos 0 ≤ℤ (if b then pos 1 else pos 0)
one_low true = omega (arith, ints)
one_low false = omega (arith, ints)

one_high : (b : Bool) → (if b then pos 1 else pos 0) ≤ℤ pos 2147483648
one_high true = omega (arith, ints)
one_high false = omega (arith, ints)

pub around_between : (real : Flags) → Between (alike (pos 0)) (one_around real) (alike (pos 2147483648))
around_between real = record {
  low = record { k = one_low real.k; j = one_low real.j; i = one_low real.i };
  high = record { k = one_high real.k; j = one_high real.j; i = one_high real.i };
}

one_small : (b : Bool) → (if b then pos 1 else pos 0) ≤ℤ pos 1
one_small true = omega (arith, ints)
one_small false = omega (arith, ints)

one_real : (b : Bool) → b ≡ true → (if b then pos 1 else pos 0) ≡ pos 1
one_real b e = ap (λ (t : Bool). let z : ℤ = if t then pos 1 else pos 0 in z) e

pub around_range : (real : Flags) → InRange (one_around real)
around_range real =
    let lk = one_low real.k in
    let lj = one_low real.j in
    let li = one_low real.i in
    let hk = one_small real.k in
    let hj = one_small real.j in
    let hi = one_small real.i in
    record {
      low = record { k = omega (arith, ints, lk); j = omega (arith, ints, lj); i = omega (arith, ints, li) };
      high = record { k = omega (arith, ints, hk); j = omega (arith, ints, hj); i = omega (arith, ints, hi) };
    }

-- a region with one cell about it, and without it again
back_low : (x o : ℤ) → (x -ℤ o) +ℤ o ≡ x
back_low x o = omega (arith, ints)

back_high : (x o : ℤ) → (x +ℤ o) -ℤ o ≡ x
back_high x o = omega (arith, ints)

pub inner_grown : (real : Flags) (b : Corners) → inner real (grown b (one_around real)) ≡ b
inner_grown real b =
    let o = one_around real in
    same_corners
    (same_cell (back_low b.lo.k o.k) (back_low b.lo.j o.j) (back_low b.lo.i o.i))
    (same_cell (back_high b.hi.k o.k) (back_high b.hi.j o.j) (back_high b.hi.i o.i))

-- the cells inside, and those beside them
pub inner_holds : (real : Flags) (b : Corners) (y : IVec) → Holds (inner real b) y → Holds b y
inner_holds real b y h =
    let lk = one_low real.k in
    let lj = one_low real.j in
    let li = one_low real.i in
    record {
      low = record { k = omega (arith, ints, lk, h.low.k); j = omega (arith, ints, lj, h.low.j); i = omega (arith, ints, li, h.low.i) };
      high = record { k = omega (arith, ints, lk, h.high.k); j = omega (arith, ints, lj, h.high.j); i = omega (arith, ints, li, h.high.i) };
    }

low_on : (b : Bool) (lo y : ℤ) → b ≡ true → (lo +ℤ (if b then pos 1 else pos 0)) ≤ℤ y → lo ≤ℤ (y -ℤ pos 1)
low_on b lo y e h = let one = one_real b e in omega (arith, ints, one, h)

high_on : (b : Bool) (hi y : ℤ) → b ≡ true → y ≤ℤ (hi -ℤ (if b then pos 1 else pos 0)) → (y +ℤ pos 1) ≤ℤ hi
high_on b hi y e h = let one = one_real b e in omega (arith, ints, one, h)

less_high : (y hi : ℤ) → y ≤ℤ hi → (y -ℤ pos 1) ≤ℤ hi
less_high y hi h = omega (arith, ints, h)

more_low : (lo y : ℤ) → lo ≤ℤ y → lo ≤ℤ (y +ℤ pos 1)
more_low lo y h = omega (arith, ints, h)

pub lower_holds : (real : Flags) (b : Corners) (y : IVec) → Holds (inner real b) y → (axis : Axis) → flag axis real ≡ true → Holds b (lower axis y)
lower_holds real b y h =
    let p = inner_holds real b y h in
    elim [
      | I ↦ λ e. record { low = record { k = p.low.k; j = p.low.j; i = low_on real.i b.lo.i y.i e h.low.i }; high = record { k = p.high.k; j = p.high.j; i = less_high y.i b.hi.i p.high.i } }
      | J ↦ λ e. record { low = record { k = p.low.k; j = low_on real.j b.lo.j y.j e h.low.j; i = p.low.i }; high = record { k = p.high.k; j = less_high y.j b.hi.j p.high.j; i = p.high.i } }
      | K ↦ λ e. record { low = record { k = low_on real.k b.lo.k y.k e h.low.k; j = p.low.j; i = p.low.i }; high = record { k = less_high y.k b.hi.k p.high.k; j = p.high.j; i = p.high.i } }
    ]

pub upper_holds : (real : Flags) (b : Corners) (y : IVec) → Holds (inner real b) y → (axis : Axis) → flag axis real ≡ true → Holds b (upper axis y)
upper_holds real b y h =
    let p = inner_holds real b y h in
    elim [
      | I ↦ λ e. record { low = record { k = p.low.k; j = p.low.j; i = more_low b.lo.i y.i p.low.i }; high = record { k = p.high.k; j = p.high.j; i = high_on real.i b.hi.i y.i e h.high.i } }
      | J ↦ λ e. record { low = record { k = p.low.k; j = more_low b.lo.j y.j p.low.j; i = p.low.i }; high = record { k = p.high.k; j = high_on real.j b.hi.j y.j e h.high.j; i = p.high.i } }
      | K ↦ λ e. record { low = record { k = more_low b.lo.k y.k p.low.k; j = p.low.j; i = p.low.i }; high = record { k = high_on real.k b.hi.k y.k e h.high.k; j = p.high.j; i = p.high.i } }
    ]
