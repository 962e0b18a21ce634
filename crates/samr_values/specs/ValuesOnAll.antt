-- What all ranks have at first, in order of rank.
use Rattle.std.specs.Prelude.{◌≡◌, ℕ, List, length, Some, slice_get}
use Rattle.samr_box.specs.declared.vector.IVec.{IVec}
use Rattle.samr_box.specs.Corners.{Corners}
use Rattle.samr_level.specs.declared.parts.Pair.{Pair}
use Rattle.samr_data.specs.Grids.{Grid}
use Rattle.samr_ops.specs.declared.rules.Rules.{Rules}
use Rattle.samr_values.specs.Values.{Renewing}
use Rattle.samr_values.specs.ValuesParts.{HasOld}

-- the boxes of the new level, the overlaps with the old one of its number, the overlaps with the level below, and the patches of both
-- levels; where there was no old level there are no overlaps with it
pub record HaveAllOld (news : List (List Corners)) (same coarser : List Pair) (step : IVec) (patches coarse : List (List (List Grid))) (rules : List Rules) (w : Renewing) : Type 0 where
  pub all_news : length news ≡ w.ranks
  pub all_pairs : length coarser ≡ w.ranks
  pub all_patches : length patches ≡ w.ranks
  pub all_coarse : length coarse ≡ w.ranks
  pub each : (r : ℕ) (n : List Corners) (c : Pair) (p q : List (List Grid)) → slice_get news r ≡ Some n → slice_get coarser r ≡ Some c → slice_get patches r ≡ Some p
      → slice_get coarse r ≡ Some q → HasOld r n (slice_get same r) c step p q rules w r
