-- Cells and other triples of whole numbers, and their order on each axis.
use Rattle.std.specs.Prelude.{ℤ, pos, negsuc, ◌≤ℤ◌, ◌+ℤ◌, ◌-ℤ◌, ◌*ℤ◌, Bool, ◌&&◌, int_le, FitsSigned}
use Rattle.std.specs.Int.{int_min, int_max, w64}
use Rattle.samr_box.specs.declared.vector.Axis.{Axis}
use Rattle.samr_box.specs.declared.vector.Axis.TheVariants.{I, J, K}
use Rattle.samr_box.specs.declared.vector.IVec.{IVec}

-- the number on an axis
abbrev pub at : Axis → IVec → ℤ
at I x = x.i
at J x = x.j
at K x = x.k

-- the same number on each axis
abbrev pub alike : ℤ → IVec
alike n = record { k = n; j = n; i = n }

-- on each axis at most as great
pub record AtMost (a b : IVec) : Type 0 where
  pub k : a.k ≤ℤ b.k
  pub j : a.j ≤ℤ b.j
  pub i : a.i ≤ℤ b.i

-- the test for this
abbrev pub at_most : IVec → IVec → Bool
at_most a b = int_le a.k b.k && (int_le a.j b.j && int_le a.i b.i)

-- on each axis from one number to another, both included
pub record Between (from x to : IVec) : Type 0 where
  pub low : AtMost from x
  pub high : AtMost x to

-- the factors from a level to a finer one
abbrev pub IsRatio : IVec → Type 0
IsRatio r = Between (alike (pos 1)) r (alike (pos 256))

-- a number of lengths of the domain
abbrev pub IsShift : IVec → Type 0
IsShift s = Between (alike (negsuc 0)) s (alike (pos 1))

-- the number on an axis replaced
abbrev pub put : Axis → IVec → ℤ → IVec
put I x n = record x { i = n }
put J x n = record x { j = n }
put K x n = record x { k = n }

-- sum, difference and product on each axis
abbrev pub plus : IVec → IVec → IVec
plus a b = record { k = a.k +ℤ b.k; j = a.j +ℤ b.j; i = a.i +ℤ b.i }

abbrev pub minus : IVec → IVec → IVec
minus a b = record { k = a.k -ℤ b.k; j = a.j -ℤ b.j; i = a.i -ℤ b.i }

abbrev pub times : IVec → IVec → IVec
times a b = record { k = a.k *ℤ b.k; j = a.j *ℤ b.j; i = a.i *ℤ b.i }

-- the lesser and the greater number on each axis
abbrev pub least : IVec → IVec → IVec
least a b = record { k = int_min a.k b.k; j = int_min a.j b.j; i = int_min a.i b.i }

abbrev pub greatest : IVec → IVec → IVec
greatest a b = record { k = int_max a.k b.k; j = int_max a.j b.j; i = int_max a.i b.i }

-- raised to another's number on an axis, where that is greater, and lowered to it, where that is less
abbrev pub raised : Axis → IVec → IVec → IVec
raised axis x y = put axis x (int_max (at axis x) (at axis y))

abbrev pub lowered : Axis → IVec → IVec → IVec
lowered axis x y = put axis x (int_min (at axis x) (at axis y))

-- two cells differ by at most w on each axis
abbrev pub Within : IVec → IVec → IVec → Type 0
Within w x y = Between (minus x w) y (plus x w)

-- each number fits an `i64`
pub record FitsVector (x : IVec) : Type 0 where
  pub k : FitsSigned w64 x.k
  pub j : FitsSigned w64 x.j
  pub i : FitsSigned w64 x.i

-- each number lies between -2^30 and 2^30, as the coordinates of boxes do
abbrev pub InRange : IVec → Type 0
InRange x = Between (alike (negsuc 1073741823)) x (alike (pos 1073741824))
