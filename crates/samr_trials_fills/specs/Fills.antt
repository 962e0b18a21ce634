-- Fills of level 0 and of a level of blocks over it: their schedules, their first values, and what has to hold of a domain and of rules.
use Rattle.std.specs.Prelude.{◌≡◌, ◌⊎◌, ℕ, ◌<◌, ◌^◌, nat_lt, pos, List, [], length, map}
use Rattle.std.specs.List.{All}
use Rattle.samr_box.specs.declared.vector.IVec.{IVec}
use Rattle.samr_box.specs.Vector.{alike, AtMost, InRange, IsRatio}
use Rattle.samr_box.specs.Corners.{Corners}
use Rattle.samr_box.specs.Ratios.{coarse}
use Rattle.samr_box.specs.Space.{Space, IsSpace, finer}
use Rattle.samr_level.specs.Refs.{Owned}
use Rattle.samr_level.specs.Levels.{IsLevel, IsCellIn}
use Rattle.samr_level.specs.Regions.{Area, IsArea, IsCellOf, boxes_of, finer_area}
use Rattle.samr_level.specs.Blocks.{IsBlocking, level0}
use Rattle.samr_nest.specs.Nested.{IsPlain}
use Rattle.samr_sched.specs.Ask.{Scheduling}
use Rattle.samr_ops.specs.declared.rules.Rules.{Rules}
use Rattle.samr_fill.specs.Fill.{Filling}
use Rattle.samr_trials_levels.specs.Kept.{kept}
use Rattle.samr_trials_levels.specs.First.{first_value, HasRooms}
use Rattle.samr_trials_levels.specs.Cover.{fine_start, coarse_start, fine_blocks, CanCompare, AreFields, CanRefine}

-- the schedule of a level over level 0, or of level 0 itself, which has no level below: then the step is 1 and there are no coarser boxes
abbrev pub schedule_of : Area → IVec → ℕ → IVec → List IVec → List ℕ → List Owned → List Owned → Scheduling
schedule_of area step ranks width ghosts fixed level coarser = record {
  ranks = ranks;
  region = area;
  ratio = step;
  level = level;
  width = width;
  below = alike (pos 1);
  step = step;
  coarser = coarser;
  reach = width;
  ghosts = ghosts;
  fixed = fixed;
}

-- its fill from first values
abbrev pub filling_of : Area → IVec → ℕ → IVec → ℕ → List ℕ → List Rules → List Owned → List Owned → Filling
filling_of area step ranks width bound fixed rules level coarser = record {
  schedule = schedule_of area step ranks width (map (λ r. r.width) rules) fixed level coarser;
  rules = rules;
  values = first_value bound fine_start;
  coarse_values = first_value bound coarse_start;
}

-- the fill of level 0, all blocks of a domain
abbrev pub filling0 : Area → IVec → ℕ → IVec → ℕ → List ℕ → List Rules → Filling
filling0 area block ranks width bound fixed rules = filling_of area (alike (pos 1)) ranks width bound fixed rules (level0 area block ranks) []

-- the fill of some blocks of the finer domain over it
abbrev pub filling_over : Area → IVec → IVec → IVec → ℕ → ℕ → IVec → ℕ → List ℕ → List Rules → Filling
filling_over area block step fine_block over ranks width bound fixed rules =
    filling_of area step ranks width bound fixed rules (kept over (fine_blocks area step fine_block ranks)) (level0 area block ranks)

-- no ghost cells lie beyond a width, which is at most the length of the frame
pub record IsNarrow (frame : Space) (width : IVec) (rules : List Rules) : Type 0 where
  pub short : AtMost width frame.size
  pub wide : All (λ r. AtMost r.width width) rules

-- a fixed value for each field where the domain has parts, and none where it is a whole frame
pub record HasFixed (parts : List Corners) (fixed : List ℕ) (fields : ℕ) : Type 0 where
  pub both : nat_lt 0 (length parts) ≡ nat_lt 0 (length fixed)
  pub all : 0 < length parts → length fixed ≡ fields

-- a domain whose ghost cells all have values
pub record IsFillable (area : Area) (width : IVec) (fixed : List ℕ) (rules : List Rules) : Type 0 where
  pub plain : IsPlain area
  pub narrow : IsNarrow area.frame width rules
  pub has_fixed : HasFixed area.parts fixed (length rules)

-- what a fill of level 0 rests on
pub record CanFill0 (area : Area) (block : IVec) (ranks : ℕ) (width : IVec) (bound : ℕ) (fixed : List ℕ) (rules : List Rules) : Type 0 where
  pub is_area : IsArea area
  pub some : 0 < ranks
  pub blocks : IsBlocking block (boxes_of area)
  pub in_range : InRange width
  pub same : CanCompare area.frame (alike (pos 1)) (alike (pos 1))
  pub few : length rules < 2 ^ 8
  pub fields : AreFields bound rules
  pub fillable : IsFillable area width fixed rules
  pub rooms : All (HasRooms (level0 area block ranks)) (map (λ r. r.width) rules)

-- and one of blocks over it
pub record CanFillOver (area : Area) (block step fine_block : IVec) (ranks : ℕ) (width : IVec) (bound : ℕ) (fixed : List ℕ) (rules : List Rules) : Type 0 where
  pub refine : CanRefine area block step fine_block ranks width bound rules
  pub fillable : IsFillable area width fixed rules

-- the same of any such levels: each cell of the domain lies in the level or over a coarser box
pub record CanPrepare (area : Area) (step : IVec) (ranks : ℕ) (width : IVec) (bound : ℕ) (fixed : List ℕ) (rules : List Rules) (level coarser : List Owned) : Type 0 where
  pub is_area : IsArea area
  pub ratio : IsRatio step
  pub is_finer : IsSpace (finer area.frame step)
  pub four : AtMost step (alike (pos 4))
  pub in_range : InRange width
  pub same : CanCompare area.frame step step
  pub below : CanCompare area.frame step (alike (pos 1))
  pub few : length rules < 2 ^ 8
  pub fields : AreFields bound rules
  pub fillable : IsFillable area width fixed rules
  pub is_level : IsLevel (finer_area area step) ranks level
  pub is_coarser : IsLevel area ranks coarser
  pub alone : coarser ≡ [] → step ≡ alike (pos 1)
  pub rooms : All (HasRooms level) (map (λ r. r.width) rules)
  pub coarse_rooms : All (HasRooms coarser) (map (λ r. r.width) rules)
  pub sourced : (x : IVec) → IsCellOf (finer_area area step) x → IsCellIn level x ⊎ IsCellIn coarser (coarse x step)
