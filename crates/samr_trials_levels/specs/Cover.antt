-- Level 0 and a level of blocks over it, with their first values: what has to hold of a domain and of the rules of fields.
use Rattle.std.specs.Prelude.{ℕ, ◌<◌, ◌≤◌, ◌^◌, pos, List, length, map}
use Rattle.std.specs.List.{All}
use Rattle.samr_box.specs.declared.vector.IVec.{IVec}
use Rattle.samr_box.specs.Vector.{alike, AtMost, InRange, IsRatio, greatest}
use Rattle.samr_box.specs.Space.{Space, IsSpace, finer}
use Rattle.samr_level.specs.Refs.{Owned}
use Rattle.samr_level.specs.Regions.{Area, IsArea, boxes_of, finer_area}
use Rattle.samr_level.specs.Blocks.{IsBlocking, level0}
use Rattle.samr_ops.specs.declared.rules.Rules.{Rules}
use Rattle.samr_ops.specs.Rules.{IsRules}
use Rattle.samr_trials_levels.specs.First.{HasRooms}

-- what the first values of a level and of the level below it count from
abbrev pub fine_start : ℕ
fine_start = 0

abbrev pub coarse_start : ℕ
coarse_start = 500

-- the blocks of the finer domain
abbrev pub fine_blocks : Area → IVec → IVec → ℕ → List Owned
fine_blocks area step fine_block ranks = level0 (finer_area area step) fine_block ranks

-- levels with these ratios can be compared, one way and the other
pub record CanCompare (frame : Space) (base head : IVec) : Type 0 where
  pub forth : IsSpace (finer frame (greatest base head))
  pub back : IsSpace (finer frame (greatest head base))

-- a level of blocks and one of blocks of the finer domain over it
pub record CanCover (area : Area) (block step fine_block : IVec) (ranks : ℕ) (width : IVec) : Type 0 where
  pub is_area : IsArea area
  pub some : 0 < ranks
  pub ratio : IsRatio step
  pub is_finer : IsSpace (finer area.frame step)
  pub blocks : IsBlocking block (boxes_of area)
  pub over_blocks : IsBlocking fine_block (boxes_of (finer_area area step))
  pub positive : AtMost (alike (pos 0)) width
  pub in_range : InRange width
  pub same : CanCompare area.frame step step
  pub below : CanCompare area.frame step (alike (pos 1))

-- and room for the patches of all fields on both
pub record CanHold (area : Area) (block step fine_block : IVec) (ranks : ℕ) (widths : List IVec) : Type 0 where
  pub few : length widths < 2 ^ 8
  pub rooms : All (HasRooms (level0 area block ranks)) widths
  pub over_rooms : All (HasRooms (fine_blocks area step fine_block ranks)) widths

-- fields with these rules can have all values below a bound
pub record AreFields (bound : ℕ) (rules : List Rules) : Type 0 where
  pub ranges : All IsRules rules
  pub some : 0 < bound
  pub least : All (λ r. bound ≤ r.modulus) rules

-- such fields on both levels, whose step is short enough for refinement
pub record CanRefine (area : Area) (block step fine_block : IVec) (ranks : ℕ) (width : IVec) (bound : ℕ) (rules : List Rules) : Type 0 where
  pub cover : CanCover area block step fine_block ranks width
  pub hold : CanHold area block step fine_block ranks (map (λ r. r.width) rules)
  pub four : AtMost step (alike (pos 4))
  pub fields : AreFields bound rules
