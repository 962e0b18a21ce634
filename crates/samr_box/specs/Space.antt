-- The domain of a level.
use Rattle.std.specs.Prelude.{◌≡◌, ℤ, pos, negsuc, neg_ℤ, ◌+ℤ◌, ◌-ℤ◌, ◌*ℤ◌, ◌≤ℤ◌, ◌<ℤ◌, int_lt, Bool, false, cond, not, ◌&&◌, ◌||◌, ◌⊎◌}
use Rattle.std.specs.Int.{int_rem_euclid, int_min, int_max}
use Rattle.std.specs.Ordering.{int_eq}
use Rattle.samr_box.specs.declared.vector.Axis.{Axis}
use Rattle.samr_box.specs.declared.vector.Axis.TheVariants.{I, J, K}
use Rattle.samr_box.specs.declared.vector.IVec.{IVec}
use Rattle.samr_box.specs.declared.space.Flags.{Flags}
use Rattle.samr_box.specs.Vector.{at, alike, AtMost, minus, times}
use Rattle.samr_box.specs.Corners.{Corners, moved}

pub record Space : Type 0 where
  pub size : IVec
  pub periodic : Flags

-- each length is 1 to 2^30
pub record IsSpace (d : Space) : Type 0 where
  pub low : AtMost (alike (pos 1)) d.size
  pub high : AtMost d.size (alike (pos 1073741824))

-- the cells of the domain as a box
abbrev pub whole : Space → Corners
whole d = record { lo = alike (pos 0); hi = minus d.size (alike (pos 1)) }

-- the domain of a finer level
abbrev pub finer : Space → IVec → Space
finer d r = record { size = times d.size r; periodic = d.periodic }

-- the truth value of an axis
abbrev pub flag : Axis → Flags → Bool
flag I f = f.i
flag J f = f.j
flag K f = f.k

-- no length on any axis, and as many lengths the other way
abbrev pub is_zero : IVec → Bool
is_zero s = int_eq s.k (pos 0) && (int_eq s.j (pos 0) && int_eq s.i (pos 0))

abbrev pub opposite : IVec → IVec
opposite s = record { k = neg_ℤ s.k; j = neg_ℤ s.j; i = neg_ℤ s.i }

-- the image of a box: moved by so many lengths of the domain on each axis
abbrev pub image : Space → Corners → IVec → Corners
image d b s = moved b (times s d.size)

-- the remainder by the length on periodic axes
abbrev pub wrapped_on : Bool → ℤ → ℤ → ℤ
wrapped_on periodic length x = cond periodic (int_rem_euclid x length) x

abbrev pub wrapped : Space → IVec → IVec
wrapped d x = record {
  k = wrapped_on d.periodic.k d.size.k x.k;
  j = wrapped_on d.periodic.j d.size.j x.j;
  i = wrapped_on d.periodic.i d.size.i x.i;
}

-- x lies from 0 to the length, and differs from y by a multiple of the length
pub record IsRemainder (length y x : ℤ) : Type 0 where
  pub low : pos 0 ≤ℤ x
  pub high : x <ℤ length
  pub lengths : ℤ
  pub apart : x +ℤ (lengths *ℤ length) ≡ y

-- the cell leaves the domain on a physical axis
abbrev pub LeavesOn : Axis → Space → IVec → Type 0
LeavesOn axis d x = (flag axis d.periodic ≡ false) × ((at axis x <ℤ pos 0) ⊎ (at axis d.size ≤ℤ at axis x))

abbrev pub IsOutside : Space → IVec → Type 0
IsOutside d x = (axis : Axis) × LeavesOn axis d x

-- the tests for these
abbrev pub leaves : Axis → Space → IVec → Bool
leaves axis d x = not (flag axis d.periodic) && (int_lt (at axis x) (pos 0) || not (int_lt (at axis x) (at axis d.size)))

abbrev pub is_outside : Space → IVec → Bool
is_outside d x = leaves I d x || (leaves J d x || leaves K d x)

-- the nearest coordinate from 0 to the length
abbrev pub clamped : ℤ → ℤ → ℤ
clamped length x = int_max (pos 0) (int_min x (length -ℤ pos 1))

-- the coordinate as far inside the border as x is outside, so that the border lies in the middle
abbrev pub mirrored : ℤ → ℤ → ℤ
mirrored length x =
    cond (int_lt x (pos 0)) (negsuc 0 -ℤ x) (cond (int_lt x length) x (((length +ℤ length) -ℤ pos 1) -ℤ x))
