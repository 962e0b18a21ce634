-- A new level over level 0, both of blocks: what its values are made of, and what that rests on.
use Rattle.std.specs.Prelude.{ℕ, ◌<◌, ◌^◌, pos, List, length, map}
use Rattle.std.specs.List.{All}
use Rattle.samr_box.specs.declared.vector.IVec.{IVec}
use Rattle.samr_box.specs.Vector.{alike, InRange}
use Rattle.samr_box.specs.Space.{Space}
use Rattle.samr_level.specs.Refs.{Owned}
use Rattle.samr_level.specs.Regions.{Area}
use Rattle.samr_level.specs.Blocks.{level0}
use Rattle.samr_ops.specs.declared.rules.Rules.{Rules}
use Rattle.samr_values.specs.Values.{Renewing, IsRenewing}
use Rattle.samr_trials_levels.specs.Kept.{kept}
use Rattle.samr_trials_levels.specs.First.{first_value, HasRooms}
use Rattle.samr_trials_levels.specs.Cover.{fine_start, coarse_start, fine_blocks, CanCompare}

-- the values of a new level from the first ones of an old level and of level 0 below
abbrev pub renewing_of : Space → IVec → ℕ → IVec → ℕ → List Rules → List Owned → List Owned → List Owned → Renewing
renewing_of frame step ranks width bound rules news olds coarser = record {
  ranks = ranks;
  frame = frame;
  ratio = step;
  below = alike (pos 1);
  step = step;
  news = news;
  olds = olds;
  coarser = coarser;
  width = width;
  reach = width;
  rules = rules;
  values = first_value bound fine_start;
  coarse_values = first_value bound coarse_start;
}

-- the same, where level 0 is of blocks, and the new level and the old one are some of those of the finer domain
abbrev pub renewing : Area → IVec → IVec → IVec → ℕ → ℕ → ℕ → IVec → ℕ → List Rules → Renewing
renewing area block step fine_block news olds ranks width bound rules =
    renewing_of area.frame step ranks width bound rules (kept news (fine_blocks area step fine_block ranks)) (kept olds (fine_blocks area step fine_block ranks)) (level0 area block ranks)

-- what the values of a new level of any boxes rest on
pub record CanRenewOver (frame : Space) (step : IVec) (ranks : ℕ) (width : IVec) (bound : ℕ) (rules : List Rules) (news olds coarser : List Owned) : Type 0 where
  pub is : IsRenewing (renewing_of frame step ranks width bound rules news olds coarser)
  pub in_range : InRange width
  pub same : CanCompare frame step step
  pub below : CanCompare frame step (alike (pos 1))
  pub few : length rules < 2 ^ 8
  pub some : 0 < bound
  pub old_rooms : All (HasRooms olds) (map (λ r. r.width) rules)
  pub coarse_rooms : All (HasRooms coarser) (map (λ r. r.width) rules)
