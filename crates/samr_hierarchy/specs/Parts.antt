-- What a rank holds of a hierarchy, and that the stages give it.
use Rattle.std.specs.Prelude.{◌≡◌, ℕ, suc, ◌<◌, ◌-◌, ◌==◌, false, List, [], length}
use Rattle.samr_level.specs.Refs.{Owned}
use Rattle.samr_level.specs.Levels.{own}
use Rattle.samr_fill.specs.FillParts.{HasValues as HasFillValues}
use Rattle.samr_values.specs.Patches.{HasValues}
use Rattle.samr_values.specs.Values.{renewed}
use Rattle.samr_values.specs.Coarsen.{coarsened_patches}
use Rattle.samr_problem.specs.Fields.{Fields}
use Rattle.samr_mesh.specs.Meshes.{level_at}
use Rattle.samr_mesh.specs.Soundness.{IsMesh, IsRemade}
use Rattle.samr_hierarchy.specs.Grounds.{IsGround}
use Rattle.samr_hierarchy.specs.Hierarchies.{Hierarchy, Values, renewing, coarsening, patches}
use Rattle.samr_hierarchy.specs.Passes.{first_values, first_hierarchy, renewing_at, regridded, merged_values, with_values, coarsened}

-- a rank's patches have the values of its boxes: what `Values`, `Fill` and `Coarsen` begin with
abbrev pub PatchesHaveValues : Type 0
PatchesHaveValues = (p : Fields) (ranks l rank : ℕ) (h : Hierarchy) → IsGround p → IsMesh p ranks h.levels → l < length h.levels
    → HasValues (h.values l) (own rank (level_at h.levels l)) (patches p h l rank) × HasFillValues (h.values l) (own rank (level_at h.levels l)) (patches p h l rank)

-- what `Values` gives
abbrev pub NewPatches : Type 0
NewPatches = (p : Fields) (ranks l rank : ℕ) (h : Hierarchy) (news : List (List Owned)) → renewed (renewing_at p ranks h news l) rank ≡ patches p (regridded p ranks h news) (suc l) rank

abbrev pub FirstNewPatches : Type 0
FirstNewPatches = (p : Fields) (ranks l rank : ℕ) (levels : List (List Owned))
    → renewed (renewing p ranks l (level_at levels (suc l)) [] (level_at levels l) (λ f x. 0) (first_values p ranks levels l)) rank
    ≡ patches p (first_hierarchy p ranks levels) (suc l) rank

-- what `Coarsen` gives
abbrev pub CoarsePatches : Type 0
CoarsePatches = (p : Fields) (ranks l rank : ℕ) (h : Hierarchy) (v : Values) → IsGround p → IsMesh p ranks h.levels → l < length h.levels → v l ≡ merged_values p ranks h l
    → coarsened_patches (coarsening p ranks h l) rank ≡ patches p (with_values h v) l rank

-- round by round: the level that round n coarsens, and the others, which keep their patches
abbrev pub CoarsenRounds : Type 0
CoarsenRounds = (p : Fields) (ranks rank n : ℕ) (h : Hierarchy) → IsGround p → IsMesh p ranks h.levels
    → coarsened_patches (coarsening p ranks (coarsened p ranks h n) (length h.levels - 2 - n)) rank ≡ patches p (coarsened p ranks h (suc n)) (length h.levels - 2 - n) rank

abbrev pub OthersKeepTheirPatches : Type 0
OthersKeepTheirPatches = (p : Fields) (ranks rank n l : ℕ) (h : Hierarchy) → (l == length h.levels - 2 - n) ≡ false
    → patches p (coarsened p ranks h (suc n)) l rank ≡ patches p (coarsened p ranks h n) l rank

-- level 0 keeps its patches in a regrid
abbrev pub Level0KeepsItsPatches : Type 0
Level0KeepsItsPatches = (p : Fields) (ranks rank : ℕ) (h : Hierarchy) (news : List (List Owned)) → IsRemade p h.levels news
    → patches p (regridded p ranks h news) 0 rank ≡ patches p h 0 rank
