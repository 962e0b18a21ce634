-- Cells near the frame of a domain, and how many lengths lie between them and the cells to which they wrap.
use Rattle.std.specs.Prelude.{◌≡◌, ℤ, pos, negsuc, neg_ℤ, ◌+ℤ◌, ◌≤ℤ◌, ◌<ℤ◌, int_lt, Bool, true, false, cond}
use Rattle.samr_box.specs.declared.vector.Axis.{Axis}
use Rattle.samr_box.specs.declared.vector.IVec.{IVec}
use Rattle.samr_box.specs.Vector.{at}
use Rattle.samr_box.specs.Space.{Space, flag}

-- on a periodic axis -1 below 0, 1 at the length and beyond, else 0
abbrev pub turn_on : Bool → ℤ → ℤ → ℤ
turn_on periodic length x =
    cond periodic (cond (int_lt x (pos 0)) (negsuc 0) (cond (int_lt x length) (pos 0) (pos 1))) (pos 0)

abbrev pub turns : Space → IVec → IVec
turns d x = record {
  k = turn_on d.periodic.k d.size.k x.k;
  j = turn_on d.periodic.j d.size.j x.j;
  i = turn_on d.periodic.i d.size.i x.i;
}

-- the cell lies in the frame or, on periodic axes, at most one length outside of it
abbrev pub IsNearOn : Bool → ℤ → ℤ → Type 0
IsNearOn periodic length x = periodic ≡ true → (neg_ℤ length ≤ℤ x) × (x <ℤ (length +ℤ length))

abbrev pub IsNearFrame : Space → IVec → Type 0
IsNearFrame d x = (axis : Axis) → IsNearOn (flag axis d.periodic) (at axis d.size) (at axis x)

-- a shift of the frame: -1, 0 or 1 lengths on periodic axes, none on physical ones
abbrev pub IsStepOn : Bool → ℤ → Type 0
IsStepOn periodic s = (negsuc 0 ≤ℤ s) × (s ≤ℤ pos 1) × (periodic ≡ false → s ≡ pos 0)

abbrev pub IsShiftOf : Space → IVec → Type 0
IsShiftOf d s = (axis : Axis) → IsStepOn (flag axis d.periodic) (at axis s)
