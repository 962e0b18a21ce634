-- The update of a rank's filled patches.
use Rattle.std.specs.Prelude.{◌≡◌, ℕ, ◌<◌, length}
use Rattle.samr_fill.specs.FillParts.{filled}
use Rattle.samr_values.specs.Updating.{updated_patches, CanUpdateAll}
use Rattle.samr_problem.specs.Fields.{Fields}
use Rattle.samr_mesh.specs.Soundness.{IsMesh}
use Rattle.samr_hierarchy.specs.Scales.{all_rules}
use Rattle.samr_hierarchy.specs.Grounds.{IsGround}
use Rattle.samr_hierarchy.specs.Hierarchies.{Hierarchy, filling, patches}
use Rattle.samr_hierarchy.specs.Passes.{updated}
use Rattle.samr_hierarchy.specs.Laws.{Fits}

-- what a fill gives can be updated
abbrev pub FilledCanBeUpdated : Type 0
FilledCanBeUpdated = (p : Fields) (ranks l rank : ℕ) (h : Hierarchy) → IsGround p → IsMesh p ranks h.levels → Fits p h → l < length h.levels
    → CanUpdateAll p.dim (all_rules p) (filled (filling p ranks h l) rank)

-- and, updated, it is the patches of the next hierarchy
abbrev pub UpdatesPatches : Type 0
UpdatesPatches = (p : Fields) (ranks l rank : ℕ) (h : Hierarchy) → IsGround p → IsMesh p ranks h.levels → Fits p h → l < length h.levels
    → updated_patches p.dim (all_rules p) (filled (filling p ranks h l) rank) ≡ patches p (updated p ranks h) l rank
