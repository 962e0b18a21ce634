-- A scratch patch: coarse cells that were asked for, with one cell about them on the real axes.
use Rattle.std.specs.Prelude.{◌≡◌, ◌<◌, ℕ, pos, ◌+ℤ◌, ◌-ℤ◌, Bool, true, List, map, if◌then◌else◌}
use Rattle.samr_box.specs.declared.vector.Axis.{Axis}
use Rattle.samr_box.specs.declared.vector.IVec.{IVec}
use Rattle.samr_box.specs.declared.space.Flags.{Flags}
use Rattle.samr_box.specs.Vector.{at, put, plus, alike, AtMost, InRange}
use Rattle.samr_box.specs.Ratios.{coarse}
use Rattle.samr_fill.specs.Fill.{child}
use Rattle.samr_box.specs.Space.{flag}
use Rattle.samr_box.specs.Corners.{Corners, Holds}
use Rattle.samr_data.specs.Grids.{Grid, over, value_at, grid_of}
use Rattle.samr_linear.specs.declared.linear.Linear.{Linear}
use Rattle.samr_linear.specs.Lin.{lin, IsPlace}
use Rattle.samr_linear.specs.LinVal.{axes, before, behind}

abbrev pub lower : Axis → IVec → IVec
lower axis c = put axis c (at axis c -ℤ pos 1)

abbrev pub upper : Axis → IVec → IVec
upper axis c = put axis c (at axis c +ℤ pos 1)

-- the value beside a cell, 0 where the axis is not real
abbrev pub side : Grid → Bool → IVec → ℕ
side p is_real x = if is_real then value_at p x else 0

abbrev pub lows : Grid → Flags → IVec → List ℕ
lows p real c = map (λ axis. side p (flag axis real) (lower axis c)) axes

abbrev pub highs : Grid → Flags → IVec → List ℕ
highs p real c = map (λ axis. side p (flag axis real) (upper axis c)) axes

-- the patch has the cell and those beside it
pub record HasSides (p : Grid) (real : Flags) (c : IVec) : Type 0 where
  pub cell : Holds (over p) c
  pub low : (axis : Axis) → flag axis real ≡ true → Holds (over p) (lower axis c)
  pub high : (axis : Axis) → flag axis real ≡ true → Holds (over p) (upper axis c)

-- a scratch patch is enough
abbrev pub ScratchIsEnough : Type 0
ScratchIsEnough = (s : Linear) (b : Corners) (width : IVec) (below : IVec → ℕ) (c o : IVec) → HasSides (grid_of b width below) s.real c
    → lin s (value_at (grid_of b width below) c) (lows (grid_of b width below) s.real c) (highs (grid_of b width below) s.real c) o
    ≡ lin s (below c) (map below (before c)) (map below (behind c)) o

-- the coarse cell over a fine one in another index space, and the value that the fine one gets from a scratch patch
abbrev pub over_cell : IVec → IVec → IVec → IVec
over_cell step offset x = plus (coarse x step) offset

abbrev pub linear_at : Linear → Grid → IVec → IVec → IVec → ℕ
linear_at s p step offset x =
    lin s (value_at p (over_cell step offset x)) (lows p s.real (over_cell step offset x)) (highs p s.real (over_cell step offset x)) (child x step)

-- what a fine cell needs of a scratch patch
pub record CanTake (s : Linear) (p : Grid) (step offset x : IVec) : Type 0 where
  pub cell : InRange x
  pub offset_fits : InRange offset
  pub same_step : step ≡ s.ratio
  pub small : AtMost step (alike (pos 4))
  pub over : InRange (over_cell step offset x)
  pub sides : HasSides p s.real (over_cell step offset x)
  pub below : value_at p (over_cell step offset x) < s.modulus
  pub place : IsPlace s.ratio (child x step)
