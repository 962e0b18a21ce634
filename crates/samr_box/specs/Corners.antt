-- A box as its two corners, both included.
use Rattle.std.specs.Prelude.{ℕ, ◌*◌, nat_le, ℤ, pos, negsuc, ◌+ℤ◌, ◌-ℤ◌, unsigned_abs, int_lt, Bool, ◌&&◌, cond, Option, Some, None}
use Rattle.samr_box.specs.declared.vector.Axis.{Axis}
use Rattle.samr_box.specs.declared.vector.Axis.TheVariants.{I, J, K}
use Rattle.samr_box.specs.declared.vector.IVec.{IVec}
use Rattle.samr_box.specs.Vector.{at, put, alike, AtMost, at_most, Between, plus, minus, least, greatest, raised, lowered}

pub record Corners : Type 0 where
  pub lo : IVec
  pub hi : IVec

-- the box has the cell
abbrev pub Holds : Corners → IVec → Type 0
Holds b x = Between b.lo x b.hi

-- the box has a cell, and its coordinates lie between -2^30 and 2^30
pub record IsBox (b : Corners) : Type 0 where
  pub low : AtMost (alike (negsuc 1073741823)) b.lo
  pub order : AtMost b.lo b.hi
  pub high : AtMost b.hi (alike (pos 1073741824))

-- the number of planes across an axis
abbrev pub span : Axis → Corners → ℕ
span axis b = unsigned_abs ((at axis b.hi -ℤ at axis b.lo) +ℤ pos 1)

-- the number of cells
abbrev pub cells_of : Corners → ℕ
cells_of b = span I b * span J b * span K b

-- the test for a cell, and for all cells of another box
abbrev pub holds : Corners → IVec → Bool
holds b x = at_most b.lo x && at_most x b.hi

abbrev pub holds_box : Corners → Corners → Bool
holds_box b part = at_most b.lo part.lo && at_most part.hi b.hi

-- two boxes have a common cell
pub record Meet (a b : Corners) : Type 0 where
  pub low : AtMost a.lo b.hi
  pub high : AtMost b.lo a.hi

-- the test for this
abbrev pub meets : Corners → Corners → Bool
meets a b = at_most a.lo b.hi && at_most b.lo a.hi

-- the common cells, if there are any
abbrev pub common : Corners → Corners → Corners
common a b = record { lo = greatest a.lo b.lo; hi = least a.hi b.hi }

abbrev pub met : Corners → Corners → Option Corners
met a b = cond (meets a b) (Some (common a b)) None

-- both corners moved outwards by a width
abbrev pub grown : Corners → IVec → Corners
grown b w = record { lo = minus b.lo w; hi = plus b.hi w }

-- both corners moved by the same step
abbrev pub moved : Corners → IVec → Corners
moved b step = record { lo = plus b.lo step; hi = plus b.hi step }

-- the planes before a plane, and those from it on
abbrev pub before : Axis → Corners → ℤ → Corners
before axis b plane = record { lo = b.lo; hi = put axis b.hi (plane -ℤ pos 1) }

abbrev pub from_plane : Axis → Corners → ℤ → Corners
from_plane axis b plane = record { lo = put axis b.lo plane; hi = b.hi }

-- the slab of one box below another and the slab above it, if there are any, and what lies level with it
abbrev pub below : Axis → Corners → Corners → Option Corners
below axis a b = cond (int_lt (at axis a.lo) (at axis b.lo)) (Some (before axis a (at axis b.lo))) None

abbrev pub above : Axis → Corners → Corners → Option Corners
above axis a b = cond (int_lt (at axis b.hi) (at axis a.hi)) (Some (from_plane axis a (at axis b.hi +ℤ pos 1))) None

abbrev pub level : Axis → Corners → Corners → Corners
level axis a b = record { lo = raised axis a.lo b.lo; hi = lowered axis a.hi b.hi }

-- no axis is longer, and those named before it are shorter, in the order i, j, k
abbrev pub longest_of : Corners → Axis
longest_of b =
    cond (nat_le (span J b) (span I b) && nat_le (span K b) (span I b)) I (cond (nat_le (span K b) (span J b)) J K)
