-- Which cells a moving shape tags.
use Rattle.std.specs.Prelude.{ℕ, ◌+◌, ◌*◌, nat_le, ℤ, pos, negsuc, ◌+ℤ◌, ◌≤ℤ◌, unsigned_abs, Bool, ◌&&◌, ◌||◌, List}
use Rattle.std.specs.List.{list_any}
use Rattle.samr_box.specs.declared.vector.Axis.{Axis}
use Rattle.samr_box.specs.declared.vector.Axis.TheVariants.{I, J, K}
use Rattle.samr_box.specs.declared.vector.IVec.{IVec}
use Rattle.samr_box.specs.declared.space.Flags.{Flags}
use Rattle.samr_box.specs.Vector.{alike, put, plus, minus, times, Between, InRange}
use Rattle.samr_box.specs.Corners.{Corners, meets, moved}
use Rattle.samr_box.specs.Ratios.{refined}
use Rattle.samr_box.specs.Space.{Space, flag, wrapped}
use Rattle.samr_shape.specs.declared.shape.Shape.{Shape}
use Rattle.samr_shape.specs.declared.shape.Shape.TheVariants.{Slab, Ball}

-- where a shape stands after so many steps: so many velocities from its start, wrapped round periodic borders
abbrev pub position : Space → IVec → IVec → ℕ → IVec
position finest start velocity step = wrapped finest (plus start (times velocity (alike (pos step))))

-- a test holds at a shift or, on a periodic axis, at one of its two neighbours
abbrev pub any_along : Axis → Flags → (IVec → Bool) → IVec → Bool
any_along axis periodic test s =
    test s || (flag axis periodic && (test (put axis s (negsuc 0)) || test (put axis s (pos 1))))

-- a test holds at one of the shifts at which there are images: -1, 0 and 1 on periodic axes and 0 on the others
abbrev pub any_image : Flags → (IVec → Bool) → Bool
any_image periodic test =
    any_along K periodic (any_along J periodic (any_along I periodic test)) (alike (pos 0))

-- the cells from one on, so many along each axis
abbrev pub cells_from : IVec → IVec → Corners
cells_from lo size = record { lo = lo; hi = minus (plus lo size) (alike (pos 1)) }

-- the square of a number
abbrev pub square : ℤ → ℕ
square z = unsigned_abs z * unsigned_abs z

-- the square of twice the distance between the middle of a box and a point
abbrev pub square_apart : Corners → IVec → ℕ
square_apart b p =
    let twice = minus (plus b.lo b.hi) (plus p p) in square twice.i + square twice.j + square twice.k

-- the image of a shape by a shift tags a cell, given by its cells in the finest index space: a slab the cells that
-- it meets, a ball those whose middle is no further than the radius from its own
unfoldable pub touches : Space → Corners → ℕ → Shape → IVec → Bool
touches finest cell step (Slab lo size velocity) s =
    meets cell (moved (cells_from (position finest lo velocity step) size) (times s finest.size))
touches finest cell step (Ball at radius velocity) s =
    nat_le (square_apart cell (plus (position finest at velocity step) (times s finest.size))) (square (radius +ℤ radius))

-- a shape tags a cell at a step
abbrev pub is_tagged_by : Space → Corners → ℕ → Shape → Bool
is_tagged_by finest cell step shape = any_image finest.periodic (touches finest cell step shape)

-- one of the shapes tags a cell of a level, with the ratio from the level to the finest one
unfoldable pub tags : List Shape → Space → IVec → IVec → ℕ → Bool
tags shapes finest to_finest cell step =
    list_any (is_tagged_by finest (refined (record { lo = cell; hi = cell }) to_finest) step) shapes

-- numbers that a shape may have
abbrev pub IsSpeed : IVec → Type 0
IsSpeed velocity = Between (alike (negsuc 1048575)) velocity (alike (pos 1048576))

pub record IsSlab (lo size velocity : IVec) : Type 0 where
  pub lo_range : InRange lo
  pub size_range : Between (alike (pos 1)) size (alike (pos 1073741824))
  pub speed : IsSpeed velocity

pub record IsBall (at velocity : IVec) (radius : ℤ) : Type 0 where
  pub at_range : InRange at
  pub radius_low : pos 0 ≤ℤ radius
  pub radius_high : radius ≤ℤ pos 1073741824
  pub speed : IsSpeed velocity

abbrev pub IsShape : Shape → Type 0
IsShape (Slab lo size velocity) = IsSlab lo size velocity
IsShape (Ball at radius velocity) = IsBall at velocity radius
