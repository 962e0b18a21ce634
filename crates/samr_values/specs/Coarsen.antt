-- The values of a level after coarsening: cells under the finer level get theirs from the cells over them.
use Rattle.std.specs.Prelude.{◌≡◌, ℕ, ◌<◌, ◌^◌, pos, Bool, ◌&&◌, List, length, map, zip, if◌then◌else◌}
use Rattle.std.specs.List.{All, enumerate_from}
use Rattle.samr_box.specs.declared.vector.IVec.{IVec}
use Rattle.samr_box.specs.Vector.{alike, times, AtMost, IsRatio}
use Rattle.samr_box.specs.Corners.{Corners, IsBox, holds, cells_of}
use Rattle.samr_box.specs.Ratios.{refined}
use Rattle.samr_box.specs.Space.{Space}
use Rattle.samr_box.specs.Lists.{Member}
use Rattle.samr_level.specs.Refs.{Owned, Link}
use Rattle.samr_level.specs.Regions.{Area}
use Rattle.samr_level.specs.Levels.{IsLevel}
use Rattle.samr_level.specs.Overlaps.{scale, true_overlaps, of_rank}
use Rattle.samr_data.specs.Places.{cells_in, one_cell}
use Rattle.samr_data.specs.Grids.{Grid, value_at, written}
use Rattle.samr_ops.specs.declared.rules.CoarsenRule.{CoarsenRule}
use Rattle.samr_ops.specs.Rules.{coarsened_value}
use Rattle.samr_values.specs.Patches.{has}

-- the frame is that of level 0; `ratio` leads from there to the coarse level and `step` from that to the fine one. Their overlaps are known
-- at `width`. `before` has each rank's patches of the coarse level.
pub record Coarsening : Type 0 where
  pub ranks : ℕ
  pub frame : Space
  pub ratio : IVec
  pub step : IVec
  pub fine : List Owned
  pub coarser : List Owned
  pub width : IVec
  pub rules : List CoarsenRule
  pub moduli : List ℕ
  pub fine_values : ℕ → IVec → ℕ
  pub before : ℕ → List (List Grid)

-- the fine cells over a coarse one, in row order
abbrev pub children : Coarsening → IVec → List IVec
children w x = cells_in (refined (one_cell x) w.step)

-- a coarse cell lies under the fine level, whose boxes are refined ones
abbrev pub is_under : Coarsening → IVec → Bool
is_under w x = has w.fine (times x w.step)

-- the fields, each with its number, its rule and its modulus
abbrev pub fields : Coarsening → List (ℕ × (CoarsenRule × ℕ))
fields w = enumerate_from 0 (zip w.rules w.moduli)

-- the value of a cell under the fine level
abbrev pub merged : Coarsening → ℕ × (CoarsenRule × ℕ) → IVec → ℕ
merged w f x = coarsened_value f.1.0 f.1.1 (map (w.fine_values f.0) (children w x))

-- a patch of the coarse level after coarsening: only cells of its box change
abbrev pub after : Coarsening → ℕ × (CoarsenRule × ℕ) → Grid → Grid
after w f p = written p (λ x. if holds p.bx x && is_under w x then merged w f x else value_at p x)

-- a rank's patches of the coarse level afterwards
unfoldable pub coarsened_patches : Coarsening → ℕ → List (List Grid)
coarsened_patches w r = map (λ e. map (λ p. after w e.0 p) e.1) (zip (fields w) (w.before r))

-- the box is the refinement of a box of the coarse index space
abbrev pub IsRefinement : IVec → Corners → Type 0
IsRefinement step b = (c : Corners) × IsBox c × (b ≡ refined c step)

-- both are levels, each fine box is such a refinement, and the cells of a coarse box can be counted
pub record IsCoarsening (w : Coarsening) : Type 0 where
  pub area : Area
  pub coarse_area : Area
  pub fine : IsLevel area w.ranks w.fine
  pub coarser : IsLevel coarse_area w.ranks w.coarser
  pub ratio : IsRatio w.ratio
  pub step : IsRatio w.step
  pub width : AtMost (alike (pos 0)) w.width
  pub refinements : (b : Owned) → Member b w.fine → IsRefinement w.step b.bx
  pub room : (b : Owned) → Member b w.coarser → cells_of b.bx < 2 ^ 62
  pub same_length : length w.rules ≡ length w.moduli
  pub some : All (λ m. 0 < m) w.moduli

-- the edges of a rank's fine boxes to the coarse level, and of its coarse boxes to the fine one
abbrev pub downs : Coarsening → ℕ → List Link
downs w r = of_rank r (true_overlaps (scale w.frame w.width (times w.ratio w.step) w.ratio) w.fine w.coarser)

abbrev pub ups : Coarsening → ℕ → List Link
ups w r = of_rank r (true_overlaps (scale w.frame w.width w.ratio (times w.ratio w.step)) w.coarser w.fine)
