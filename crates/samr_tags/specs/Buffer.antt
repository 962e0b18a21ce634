-- The tags of a level: its cells within the tag buffer of a cell that a shape tags, across periodic borders too.
use Rattle.std.specs.Prelude.{◌≡◌, ℕ, ◌<◌, pos, Bool, ◌&&◌, true, nat_lt, List}
use Rattle.std.specs.List.{list_any}
use Rattle.samr_box.specs.declared.vector.IVec.{IVec}
use Rattle.samr_box.specs.Vector.{alike, AtMost, Within, IsRatio}
use Rattle.samr_box.specs.Corners.{IsBox, Holds, holds, grown}
use Rattle.samr_box.specs.Space.{Space, IsSpace, whole, finer, wrapped}
use Rattle.samr_box.specs.Lists.{Member}
use Rattle.samr_level.specs.Refs.{Owned, Link}
use Rattle.samr_level.specs.Levels.{IsCellIn}
use Rattle.samr_level.specs.Overlaps.{scale, true_overlaps, of_rank}
use Rattle.samr_sign.specs.Counts.{tally}

-- a level with its ratio from level 0, whose domain is the frame; the width at which its overlaps with itself are known, the
-- tag buffer, and the cells that a shape tags
pub record Tagging : Type 0 where
  pub ranks : ℕ
  pub frame : Space
  pub ratio : IVec
  pub level : List Owned
  pub width : IVec
  pub buffer : IVec
  pub shape : IVec → Bool

-- the frame of the level's index space
abbrev pub space : Tagging → Space
space w = finer w.frame w.ratio

-- the cell lies in a box of the level
abbrev pub in_level : List Owned → IVec → Bool
in_level level x = list_any (λ b. holds b.bx x) level

-- some cell within a width of a cell passes a test: not none of them do
abbrev pub some_near : (IVec → Bool) → IVec → IVec → Bool
some_near test width x = nat_lt 0 (tally test (grown (record { lo = x; hi = x }) width))

-- a cell of the level that a shape tags, seen from where it stands or from beyond a periodic border
abbrev pub is_shaped : Tagging → IVec → Bool
is_shaped w y = in_level w.level (wrapped (space w) y) && w.shape (wrapped (space w) y)

unfoldable pub tags_of : Tagging → IVec → Bool
tags_of w x = in_level w.level x && some_near (is_shaped w) w.buffer x

-- the same as a fact
pub record IsTagged (w : Tagging) (x : IVec) : Type 0 where
  pub is_cell : IsCellIn w.level x
  pub tag : IVec
  pub close : Within w.buffer x tag
  pub tag_cell : IsCellIn w.level (wrapped (space w) tag)
  pub shaped : w.shape (wrapped (space w) tag) ≡ true

-- the ranks own the boxes of the level
pub record IsOwned (w : Tagging) : Type 0 where
  pub owners : (b : Owned) → Member b w.level → b.owner < w.ranks
  pub boxes : (b : Owned) → Member b w.level → IsBox b.bx

-- what the tags rest on: the boxes lie in the frame, and the overlaps are known at a width of at least the buffer, which is
-- at most a length of the domain
pub record IsTagging (w : Tagging) : Type 0 where
  pub owned : IsOwned w
  pub frame : IsSpace w.frame
  pub finer : IsSpace (space w)
  pub ratio : IsRatio w.ratio
  pub inside : (b : Owned) (x : IVec) → Member b w.level → Holds b.bx x → Holds (whole (space w)) x
  pub buffer : AtMost (alike (pos 0)) w.buffer
  pub width : AtMost w.buffer w.width
  pub reach : AtMost w.width w.frame.size

-- the overlaps of a rank's boxes with the level
abbrev pub selves : Tagging → ℕ → List Link
selves w rank = of_rank rank (true_overlaps (scale w.frame w.width w.ratio w.ratio) w.level w.level)
