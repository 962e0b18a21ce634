-- Equal triples, their order on each axis, and when they fit.
use Rattle.std.proofs.Common.{◌≡◌, refl, ap, ◌∙◌, arith}
use Rattle.std.proofs.lemmas.Int.{ints}
use Rattle.std.specs.Prelude.{ℤ, ◌≤ℤ◌}
use Rattle.samr_box.specs.declared.vector.Axis.{Axis}
use Rattle.samr_box.specs.declared.vector.Axis.TheVariants.{I, J, K}
use Rattle.samr_box.specs.declared.vector.IVec.{IVec}
use Rattle.samr_box.specs.Vector.{at, put, AtMost, Within}

pub same_cell : {a b : IVec} → a.k ≡ b.k → a.j ≡ b.j → a.i ≡ b.i → a ≡ b
same_cell {a} {b} k j i =
    ap (λ (n : ℤ). let x : IVec = record { k = n; j = a.j; i = a.i } in x) k
    ∙ ap (λ (n : ℤ). let x : IVec = record { k = b.k; j = n; i = a.i } in x) j
    ∙ ap (λ (n : ℤ). let x : IVec = record { k = b.k; j = b.j; i = n } in x) i

pub AtMost-refl : (a : IVec) → AtMost a a
AtMost-refl a = record { k = omega (arith, ints); j = omega (arith, ints); i = omega (arith, ints) }

pub AtMost-trans : {a b c : IVec} → AtMost a b → AtMost b c → AtMost a c
AtMost-trans p q = record { k = omega (arith, ints); j = omega (arith, ints); i = omega (arith, ints) }

pub AtMost-at : (axis : Axis) {a b : IVec} → AtMost a b → at axis a ≤ℤ at axis b
AtMost-at I h = h.i
AtMost-at J h = h.j
AtMost-at K h = h.k

pub AtMost-from_at : {a b : IVec} → ((axis : Axis) → at axis a ≤ℤ at axis b) → AtMost a b
AtMost-from_at h = record { k = h K; j = h J; i = h I }

pub AtMost-antisymm : {a b : IVec} → AtMost a b → AtMost b a → a ≡ b
AtMost-antisymm p q = same_cell (omega (arith, ints)) (omega (arith, ints)) (omega (arith, ints))

-- the relation of being near is symmetric
pub Within-sym : (w x y : IVec) → Within w x y → Within w y x
Within-sym w x y h = record {
  low = record { k = omega (arith, ints, h.high.k); j = omega (arith, ints, h.high.j); i = omega (arith, ints, h.high.i) };
  high = record { k = omega (arith, ints, h.low.k); j = omega (arith, ints, h.low.j); i = omega (arith, ints, h.low.i) };
}

-- the number put on an axis, and those on the others
pub at-put : (axis : Axis) (x : IVec) (n : ℤ) → at axis (put axis x n) ≡ n
at-put I x n = refl
at-put J x n = refl
at-put K x n = refl

pub put-at : (axis : Axis) (x : IVec) → put axis x (at axis x) ≡ x
put-at I x = refl
put-at J x = refl
put-at K x = refl
