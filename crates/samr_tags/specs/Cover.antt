-- The cells of a level that a level two above needs below it: its boxes, coarsened by the ratio between them, grown by the
-- nesting width and coarsened again, wrapped round periodic borders.
use Rattle.std.specs.Prelude.{◌≡◌, ℕ, ◌<◌, Bool, ◌&&◌, ◌||◌, List}
use Rattle.std.specs.List.{list_any}
use Rattle.samr_box.specs.declared.vector.IVec.{IVec}
use Rattle.samr_box.specs.Vector.{times, AtMost, IsRatio}
use Rattle.samr_box.specs.Corners.{Corners, Holds, holds, grown}
use Rattle.samr_box.specs.Ratios.{coarsened}
use Rattle.samr_box.specs.Space.{Space, finer, image, wrapped}
use Rattle.samr_box.specs.Lists.{Member}
use Rattle.samr_border.specs.Turns.{IsNearFrame}
use Rattle.samr_level.specs.Refs.{Owned, Link}
use Rattle.samr_level.specs.Overlaps.{scale, shifts, true_overlaps, of_rank, rounded_up}
use Rattle.samr_tags.specs.Buffer.{in_level}

-- a level with its ratio from level 0, whose domain is the frame, and its tags; the level two above it, with the ratios of the
-- level between them (`lower`, from the level) and of its own (`upper`), the nesting width, and the width, in cells of the
-- level, at which the overlaps of both are known
pub record Covering : Type 0 where
  pub ranks : ℕ
  pub frame : Space
  pub ratio : IVec
  pub level : List Owned
  pub fine : List Owned
  pub upper : IVec
  pub lower : IVec
  pub nest : IVec
  pub width : IVec
  pub tags : IVec → Bool

-- the frame of the level's index space, and the ratio of the fine level from level 0
abbrev pub frame_of : Covering → Space
frame_of w = finer w.frame w.ratio

abbrev pub fine_ratio : Covering → IVec
fine_ratio w = times w.ratio (times w.lower w.upper)

-- what a fine box needs below it
abbrev pub covering : IVec → IVec → IVec → Corners → Corners
covering upper nest lower b = coarsened (grown (coarsened b upper) nest) lower

-- the cell lies in an image of what some fine box needs
unfoldable pub covered : Covering → IVec → Bool
covered w x =
    list_any (λ b. list_any (λ s. holds (image (frame_of w) (covering w.upper w.nest w.lower b.bx) s) x) (shifts w.frame.periodic)) w.fine

-- the same as a fact: the cell is the wrap of a cell that some fine box needs
pub record IsCovered (w : Covering) (x : IVec) : Type 0 where
  pub box : Owned
  pub is_fine : Member box w.fine
  pub needed : IVec
  pub is_needed : Holds (covering w.upper w.nest w.lower box.bx) needed
  pub is_wrap : wrapped (frame_of w) needed ≡ x

-- all cells that fine boxes need lie in the frame or at most one length outside of it
abbrev pub AreNear : Covering → Type 0
AreNear w = (b : Owned) (c : IVec) → Member b w.fine → Holds (covering w.upper w.nest w.lower b.bx) c → IsNearFrame (frame_of w) c

-- the tags with the cover: tagged, or in the level and covered
abbrev pub cover_tags : Covering → IVec → Bool
cover_tags w x = w.tags x || (in_level w.level x && covered w x)

-- the ranks own the boxes of both levels
pub record AreOwned (w : Covering) : Type 0 where
  pub level : (b : Owned) → Member b w.level → b.owner < w.ranks
  pub fine : (b : Owned) → Member b w.fine → b.owner < w.ranks

-- what the cover rests on: the overlaps are known at a width of at least the nesting width, rounded up to cells of the level
pub record IsCovering (w : Covering) : Type 0 where
  pub owned : AreOwned w
  pub ratio : IsRatio w.ratio
  pub upper : IsRatio w.upper
  pub lower : IsRatio w.lower
  pub boxes : (b : Owned) → Member b w.fine → AtMost b.bx.lo b.bx.hi
  pub width : AtMost (rounded_up w.nest w.lower) w.width

-- the overlaps of a rank's fine boxes with the level, and those of its boxes of the level with the fine ones
abbrev pub downs : Covering → ℕ → List Link
downs w rank = of_rank rank (true_overlaps (scale w.frame w.width (fine_ratio w) w.ratio) w.fine w.level)

abbrev pub ups : Covering → ℕ → List Link
ups w rank = of_rank rank (true_overlaps (scale w.frame w.width w.ratio (fine_ratio w)) w.level w.fine)
