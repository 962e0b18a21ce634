-- Some blocks of the finer domain over level 0: what their coarsening makes of its values, and what that rests on.
use Rattle.std.specs.Prelude.{◌≡◌, ℕ, ◌<◌, ◌^◌, pos, List, length}
use Rattle.std.specs.List.{All}
use Rattle.samr_box.specs.declared.vector.IVec.{IVec}
use Rattle.samr_box.specs.Vector.{alike, InRange}
use Rattle.samr_box.specs.Corners.{cells_of}
use Rattle.samr_box.specs.Space.{Space}
use Rattle.samr_level.specs.Refs.{Owned}
use Rattle.samr_level.specs.Levels.{own}
use Rattle.samr_level.specs.Regions.{Area}
use Rattle.samr_level.specs.Blocks.{level0}
use Rattle.samr_ops.specs.declared.rules.CoarsenRule.{CoarsenRule}
use Rattle.samr_values.specs.Coarsen.{Coarsening, IsCoarsening, IsRefinement}
use Rattle.samr_trials_levels.specs.Kept.{kept}
use Rattle.samr_trials_levels.specs.First.{first_value, first_fields, HasRooms}
use Rattle.samr_trials_levels.specs.Cover.{fine_start, coarse_start, fine_blocks, CanCompare, CanCover, CanHold}

-- the coarsening of the first values of a level into those of level 0 below
abbrev pub coarsening_of : Space → IVec → ℕ → IVec → ℕ → List CoarsenRule → List ℕ → List IVec → List Owned → List Owned → Coarsening
coarsening_of frame step ranks width bound rules moduli widths fine coarser = record {
  ranks = ranks;
  frame = frame;
  ratio = alike (pos 1);
  step = step;
  fine = fine;
  coarser = coarser;
  width = width;
  rules = rules;
  moduli = moduli;
  fine_values = first_value bound fine_start;
  before = λ r. first_fields bound coarse_start widths (own r coarser);
}

-- the same, where level 0 is of blocks, and the finer level is some of those of the finer domain
abbrev pub coarsening : Area → IVec → IVec → IVec → ℕ → ℕ → IVec → ℕ → List CoarsenRule → List ℕ → List IVec → Coarsening
coarsening area block step fine_block over ranks width bound rules moduli widths =
    coarsening_of area.frame step ranks width bound rules moduli widths (kept over (fine_blocks area step fine_block ranks)) (level0 area block ranks)

-- a rule and a modulus that is not 0 for each field
pub record AreMerges (rules : List CoarsenRule) (moduli : List ℕ) (widths : List IVec) : Type 0 where
  pub same_rules : length rules ≡ length widths
  pub same_moduli : length moduli ≡ length widths
  pub some : All (λ m. 0 < m) moduli

-- blocks of level 0 that can be counted, and blocks over it that consist of all cells over coarse ones
pub record CanCoarsen (area : Area) (block step fine_block : IVec) (ranks : ℕ) (width : IVec) (bound : ℕ) (rules : List CoarsenRule) (moduli : List ℕ) (widths : List IVec) : Type 0 where
  pub cover : CanCover area block step fine_block ranks width
  pub hold : CanHold area block step fine_block ranks widths
  pub some : 0 < bound
  pub merges : AreMerges rules moduli widths
  pub small : All (λ b. cells_of b.bx < 2 ^ 62) (level0 area block ranks)
  pub refinements : All (λ b. IsRefinement step b.bx) (fine_blocks area step fine_block ranks)

-- the same of any levels
pub record CanCoarsenOver (frame : Space) (step : IVec) (ranks : ℕ) (width : IVec) (bound : ℕ) (rules : List CoarsenRule) (moduli : List ℕ) (widths : List IVec) (fine coarser : List Owned) : Type 0 where
  pub is : IsCoarsening (coarsening_of frame step ranks width bound rules moduli widths fine coarser)
  pub in_range : InRange width
  pub compare : CanCompare frame step (alike (pos 1))
  pub few : length widths < 2 ^ 8
  pub merges : AreMerges rules moduli widths
  pub some : 0 < bound
  pub fine_rooms : All (HasRooms fine) widths
  pub coarse_rooms : All (HasRooms coarser) widths
