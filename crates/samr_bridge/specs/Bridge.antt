-- A bridge: the overlaps of two levels, the east and the west, by way of a third, the centre, which has all cells of the east.
use Rattle.std.specs.Prelude.{◌≡◌, ◌⊎◌, ℕ, ◌<◌, ℤ, pos, ◌*ℤ◌, ◌≤ℤ◌, List}
use Rattle.std.specs.List.Sorted.{IsStrictlySortedBy}
use Rattle.samr_box.specs.declared.vector.Axis.{Axis}
use Rattle.samr_box.specs.declared.vector.IVec.{IVec}
use Rattle.samr_box.specs.Vector.{at, alike, AtMost, IsRatio, least}
use Rattle.samr_box.specs.Ratios.{coarse}
use Rattle.samr_box.specs.Space.{Space}
use Rattle.samr_box.specs.Lists.{Member}
use Rattle.samr_level.specs.Refs.{Owned}
use Rattle.samr_level.specs.RefOrders.{ref_cmp}
use Rattle.samr_level.specs.Levels.{IsCellIn}
use Rattle.samr_level.specs.Overlaps.{rounded_up}

-- three whole levels with their ratios from level 0, whose domain is the frame; the wanted width of east and west, and
-- the widths at which the centre's overlaps with both are known. Each is in cells of the coarser of its two levels
pub record Bridging : Type 0 where
  pub ranks : ℕ
  pub frame : Space
  pub east : List Owned
  pub centre : List Owned
  pub west : List Owned
  pub east_ratio : IVec
  pub centre_ratio : IVec
  pub west_ratio : IVec
  pub width : IVec
  pub east_width : IVec
  pub west_width : IVec

-- a number divides another
pub record Divides (a b : ℤ) : Type 0 where
  pub times : ℤ
  pub positive : pos 1 ≤ℤ times
  pub is : b ≡ times *ℤ a

-- on one axis the east is at least as fine as the centre; the west is coarser than the centre, between both, or finer than the east
pub record AreRefinements (east centre west : ℤ) : Type 0 where
  pub fine : Divides centre east
  pub order : Divides west centre ⊎ ((Divides centre west × Divides west east) ⊎ Divides east west)

-- the wanted width, rounded up to cells of the coarser of centre and west
abbrev pub needed_width : Bridging → IVec
needed_width w = rounded_up w.width (coarse (least w.east_ratio w.west_ratio) (least w.centre_ratio w.west_ratio))

-- a level in level order whose boxes are not empty
pub record IsOrderly (level : List Owned) : Type 0 where
  pub in_order : IsStrictlySortedBy ref_cmp level
  pub not_empty : (b : Owned) → Member b level → AtMost b.bx.lo b.bx.hi

-- the ranks own the boxes of all three levels
abbrev pub Own : ℕ → List Owned → Type 0
Own ranks level = (b : Owned) → Member b level → b.owner < ranks

pub record IsOwned (w : Bridging) : Type 0 where
  pub east : Own w.ranks w.east
  pub centre : Own w.ranks w.centre
  pub west : Own w.ranks w.west

-- each cell of the fine level, coarsened, lies in the coarse one
abbrev pub IsCovered : IVec → List Owned → List Owned → Type 0
IsCovered ratio fine coarser = (x : IVec) → IsCellIn fine x → IsCellIn coarser (coarse x ratio)

-- what a bridge needs
pub record IsBridge (w : Bridging) : Type 0 where
  pub owned : IsOwned w
  pub east : IsOrderly w.east
  pub west : IsOrderly w.west
  pub east_ratio : IsRatio w.east_ratio
  pub centre_ratio : IsRatio w.centre_ratio
  pub west_ratio : IsRatio w.west_ratio
  pub refinements : (axis : Axis) → AreRefinements (at axis w.east_ratio) (at axis w.centre_ratio) (at axis w.west_ratio)
  pub covered : IsCovered (coarse w.east_ratio w.centre_ratio) w.east w.centre
  pub width : AtMost (alike (pos 0)) w.width
  pub east_width : AtMost (alike (pos 0)) w.east_width
  pub west_width : AtMost (needed_width w) w.west_width
