-- A level with the one below it, and the widths of the ghost cells of its fields: what a schedule of the level rests on.
use Rattle.std.specs.Prelude.{◌≡◌, ◌⊎◌, ℕ, ◌<◌, ◌^◌, pos, List, [], ◌∷◌}
use Rattle.samr_box.specs.declared.vector.IVec.{IVec}
use Rattle.samr_box.specs.Vector.{alike, times, AtMost, IsRatio}
use Rattle.samr_box.specs.Corners.{IsBox, Holds, grown, cells_of}
use Rattle.samr_box.specs.Ratios.{coarse}
use Rattle.samr_box.specs.Space.{Space, wrapped}
use Rattle.samr_box.specs.Lists.{Member}
use Rattle.samr_level.specs.Refs.{Owned, Link}
use Rattle.samr_level.specs.Regions.{Area, IsArea, IsInside, finer_area}
use Rattle.samr_level.specs.Levels.{IsLevel, IsCellIn}
use Rattle.samr_level.specs.Overlaps.{scale, true_overlaps, of_rank, rounded_up}
use Rattle.samr_nest.specs.Nested.{IsPlain}

-- the domain is that of level 0, `ratio` leads from there to the level, `below` to the level below it, and `step` from the one to the other.
-- The overlaps of the level with itself are known at `width`, in its cells, those with the level below at `reach`, in cells of that. Level 0
-- has no level below: its list is empty. `fixed` has the value beyond the borders of each field where the domain has parts.
pub record Scheduling : Type 0 where
  pub ranks : ℕ
  pub region : Area
  pub ratio : IVec
  pub level : List Owned
  pub width : IVec
  pub below : IVec
  pub step : IVec
  pub coarser : List Owned
  pub reach : IVec
  pub ghosts : List IVec
  pub fixed : List ℕ

-- the domains of the two levels, and their frames
abbrev pub domain_of : Scheduling → Area
domain_of w = finer_area w.region w.ratio

abbrev pub frame_of : Scheduling → Space
frame_of w = (domain_of w).frame

abbrev pub coarse_domain : Scheduling → Area
coarse_domain w = finer_area w.region w.below

abbrev pub coarse_frame : Scheduling → Space
coarse_frame w = (coarse_domain w).frame

-- the edges of a box to its level, and to the level below
abbrev pub selves_of : Scheduling → Owned → List Link
selves_of w b = true_overlaps (scale w.region.frame w.width w.ratio w.ratio) (b ∷ []) w.level

abbrev pub downs_of : Scheduling → Owned → List Link
downs_of w b = true_overlaps (scale w.region.frame w.reach w.ratio w.below) (b ∷ []) w.coarser

-- the edges of a rank's boxes to the level
abbrev pub selves : Scheduling → ℕ → List Link
selves w r = of_rank r (true_overlaps (scale w.region.frame w.width w.ratio w.ratio) w.level w.level)

-- the edges of a rank's boxes to the level below, and of its boxes there to the level
abbrev pub downs : Scheduling → ℕ → List Link
downs w r = of_rank r (true_overlaps (scale w.region.frame w.reach w.ratio w.below) w.level w.coarser)

abbrev pub ups : Scheduling → ℕ → List Link
ups w r = of_rank r (true_overlaps (scale w.region.frame w.reach w.below w.ratio) w.coarser w.level)

-- a width of ghost cells: at most the domain's length, and at most the widths at which overlaps are known
pub record IsGhost (w : Scheduling) (g : IVec) : Type 0 where
  pub low : AtMost (alike (pos 0)) g
  pub short : AtMost g (frame_of w).size
  pub wide : AtMost g w.width
  pub reach : AtMost (rounded_up g w.step) w.reach
  pub room : (b : Owned) → Member b w.level → IsBox (grown b.bx g) × (cells_of (grown b.bx g) < 2 ^ 62)

-- both are levels of their domains, and the widths are enough
pub record IsScheduling (w : Scheduling) : Type 0 where
  pub area : IsArea (domain_of w)
  pub coarse_area : IsArea (coarse_domain w)
  pub plain : IsPlain w.region
  pub level : IsLevel (domain_of w) w.ranks w.level
  pub coarser : IsLevel (coarse_domain w) w.ranks w.coarser
  pub ratio : IsRatio w.ratio
  pub below : IsRatio w.below
  pub step : IsRatio w.step
  pub product : times w.below w.step ≡ w.ratio
  pub ghosts : (g : IVec) → Member g w.ghosts → IsGhost w g

-- each ghost cell in the domain has a cell to take its value from: its own, wrapped, in the level, or the one over it in the level below
abbrev pub IsSourced : Scheduling → Type 0
IsSourced w =
    (b : Owned) (g x : IVec) → Member b w.level → Member g w.ghosts → Holds (grown b.bx g) x → IsInside (domain_of w) x
    → IsCellIn w.level (wrapped (frame_of w) x) ⊎ IsCellIn w.coarser (wrapped (coarse_frame w) (coarse x w.step))
