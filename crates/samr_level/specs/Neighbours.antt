-- The overlaps of level 0 with itself, as the blocks in a window about each box and shift.
use Rattle.std.specs.Prelude.{ℕ, pos, List, map, filter}
use Rattle.std.specs.List.{flat_map}
use Rattle.samr_box.specs.declared.vector.IVec.{IVec}
use Rattle.samr_box.specs.Vector.{alike, AtMost, plus, minus, times, InRange}
use Rattle.samr_box.specs.Corners.{Corners, meets}
use Rattle.samr_box.specs.Space.{Space}
use Rattle.samr_level.specs.Refs.{Owned, Link, link}
use Rattle.samr_level.specs.Blocks.{blocks_in, with_owners, IsBlocking}

-- the boxes that are cut into blocks, for some ranks, and a width
pub record Layout : Type 0 where
  pub frame : Space
  pub boxes : List Corners
  pub block : IVec
  pub ranks : ℕ
  pub width : IVec

pub record IsLayout (l : Layout) : Type 0 where
  pub blocking : IsBlocking l.block l.boxes
  pub width : InRange l.width

-- the cells of which an image, by the shift, lies within the width of a box
abbrev pub about : Layout → Corners → IVec → Corners
about l b s = record {
  lo = minus (minus b.lo l.width) (times s l.frame.size);
  hi = minus (plus b.hi l.width) (times s l.frame.size);
}

-- the edges found from one box at one shift, and from some boxes at some shifts
unfoldable pub found_at : Layout → Owned → IVec → List Link
found_at l a s = map (λ b. link a b s) (filter (λ b. meets (about l a.bx s) b.bx) (with_owners l.ranks (blocks_in l.block l.boxes)))

unfoldable pub found_from : Layout → List IVec → Owned → List Link
found_from l ss a = flat_map (λ s. found_at l a s) ss

unfoldable pub found : Layout → List Owned → List IVec → List Link
found l bases ss = flat_map (λ a. found_from l ss a) bases

-- a width at which level 0 is compared with itself: at most the domain's length on each axis
pub record IsWidth (frame : Space) (width : IVec) : Type 0 where
  pub low : AtMost (alike (pos 0)) width
  pub high : AtMost width frame.size
