-- The values of a new level: old ones where the old level of its number has the cell, else refined ones of the level below.
use Rattle.std.specs.Prelude.{◌≡◌, ℕ, ◌<◌, ◌^◌, pos, cond, List, map, slice_get, Some, if◌then◌else◌}
use Rattle.std.specs.List.{All, enumerate_from}
use Rattle.samr_box.specs.declared.vector.IVec.{IVec}
use Rattle.samr_box.specs.Vector.{alike, times, AtMost, IsRatio}
use Rattle.samr_box.specs.Corners.{IsBox, holds, grown, cells_of}
use Rattle.samr_box.specs.Ratios.{coarse}
use Rattle.samr_box.specs.Space.{Space}
use Rattle.samr_box.specs.Lists.{Member}
use Rattle.samr_level.specs.Refs.{Owned, Link}
use Rattle.samr_level.specs.Regions.{Area}
use Rattle.samr_level.specs.Levels.{IsLevel, IsCellIn, own}
use Rattle.samr_level.specs.Overlaps.{scale, true_overlaps, of_rank}
use Rattle.samr_data.specs.Grids.{Grid, grid_of}
use Rattle.samr_ops.specs.declared.rules.Rules.{Rules}
use Rattle.samr_ops.specs.Rules.{IsRules, refined_value}
use Rattle.samr_values.specs.Patches.{has, child}

-- the frame is that of level 0; `ratio` leads from there to the new level and the old one of its number, `below` to the old level below,
-- and `step` from that to the new one. The overlaps of the new level with the old one are known at `width`, those with the level below at
-- `reach`. Where there was no old level its list is empty.
pub record Renewing : Type 0 where
  pub ranks : ℕ
  pub frame : Space
  pub ratio : IVec
  pub below : IVec
  pub step : IVec
  pub news : List Owned
  pub olds : List Owned
  pub coarser : List Owned
  pub width : IVec
  pub reach : IVec
  pub rules : List Rules
  pub values : ℕ → IVec → ℕ
  pub coarse_values : ℕ → IVec → ℕ

-- the value of a cell of the new level
unfoldable pub new_value : Renewing → ℕ × Rules → IVec → ℕ
new_value w f x =
    if has w.olds x then w.values f.0 x else refined_value f.1 (w.coarse_values f.0 (coarse x w.step)) (child x w.step)

-- a rank's patches of the new level, with zeros in the ghost cells
unfoldable pub renewed : Renewing → ℕ → List (List Grid)
renewed w r =
    map (λ f. map (λ b. grid_of b.bx f.1.width (λ x. cond (holds b.bx x) (new_value w f x) 0)) (own r w.news)) (enumerate_from 0 w.rules)

-- all three are levels, each cell of the new one lies over the level below, and the values are below the moduli
pub record IsRenewing (w : Renewing) : Type 0 where
  pub area : Area
  pub coarse_area : Area
  pub news : IsLevel area w.ranks w.news
  pub olds : IsLevel area w.ranks w.olds
  pub coarser : IsLevel coarse_area w.ranks w.coarser
  pub ratio : IsRatio w.ratio
  pub below : IsRatio w.below
  pub step : IsRatio w.step
  pub product : times w.below w.step ≡ w.ratio
  pub four : AtMost w.step (alike (pos 4))
  pub width : AtMost (alike (pos 0)) w.width
  pub reach : AtMost (alike (pos 0)) w.reach
  pub over : (x : IVec) → IsCellIn w.news x → IsCellIn w.coarser (coarse x w.step)
  pub rules : All IsRules w.rules
  pub room : (b : Owned) (r : Rules) → Member b w.news → Member r w.rules → IsBox (grown b.bx r.width) × (cells_of (grown b.bx r.width) < 2 ^ 62)
  pub coarse_fits : (f : ℕ) (r : Rules) (x : IVec) → slice_get w.rules f ≡ Some r → IsCellIn w.coarser x → w.coarse_values f x < r.modulus

-- the edges of a rank's old boxes, and of its boxes of the level below, to the new level; and those of its new boxes to both
abbrev pub old_ups : Renewing → ℕ → List Link
old_ups w r = of_rank r (true_overlaps (scale w.frame w.width w.ratio w.ratio) w.olds w.news)

abbrev pub coarse_ups : Renewing → ℕ → List Link
coarse_ups w r = of_rank r (true_overlaps (scale w.frame w.reach w.below w.ratio) w.coarser w.news)

abbrev pub to_olds : Renewing → ℕ → List Link
to_olds w r = of_rank r (true_overlaps (scale w.frame w.width w.ratio w.ratio) w.news w.olds)

abbrev pub downs : Renewing → ℕ → List Link
downs w r = of_rank r (true_overlaps (scale w.frame w.reach w.ratio w.below) w.news w.coarser)
