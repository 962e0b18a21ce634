-- What each rank has as it begins a stage on a hierarchy: the whole of the stage, and the rank's part of it.
use Rattle.std.specs.Prelude.{ℕ, zero, suc, ◌<◌, nat_lt, List, [], map, length, Option, Some, None, if◌then◌else◌}
use Rattle.samr_level.specs.declared.parts.Pair.{Pair}
use Rattle.samr_level.specs.Refs.{Owned}
use Rattle.samr_level.specs.Levels.{own}
use Rattle.samr_level.specs.Pairs.{part, pair}
use Rattle.samr_data.specs.Grids.{Grid}
use Rattle.samr_sched.specs.Plans.{plan_of}
use Rattle.samr_sched.specs.AskParts.{HasLevels, self_pair, down_pair}
use Rattle.samr_fill.specs.FillParts.{HasPatches, filled}
use Rattle.samr_values.specs.ValuesParts.{HasOld}
use Rattle.samr_values.specs.CoarsenParts.{HasFine}
use Rattle.samr_problem.specs.Fields.{Fields}
use Rattle.samr_mesh.specs.Domains.{area_of, step_of, ratio_to}
use Rattle.samr_mesh.specs.Meshes.{level_at}
use Rattle.samr_mesh.specs.Soundness.{IsMesh, IsRemade}
use Rattle.samr_hierarchy.specs.Scales.{all_rules}
use Rattle.samr_hierarchy.specs.Grounds.{IsGround}
use Rattle.samr_hierarchy.specs.Hierarchies.{Hierarchy, scheduling, filling, renewing, coarsening, patches}
use Rattle.samr_hierarchy.specs.Passes.{first_values, first_hierarchy, renewing_at}
use Rattle.samr_hierarchy.specs.Laws.{Fits}

-- the overlaps with the level below, and the patches there; level 0 has none
abbrev pub pair_below : Fields → ℕ → List (List Owned) → ℕ → ℕ → Option Pair
pair_below p ranks levels zero rank = None
pair_below p ranks levels (suc l) rank = Some (down_pair (scheduling p ranks levels (suc l)) rank)

abbrev pub no_patches : Fields → List (List Grid)
no_patches p = map (λ f. []) p.fields

-- the level below has been filled before
abbrev pub patches_below : Fields → ℕ → Hierarchy → ℕ → ℕ → List (List Grid)
patches_below p ranks h zero rank = no_patches p
patches_below p ranks h (suc l) rank = filled (filling p ranks h l) rank

-- the overlaps of a new level with the old one of its number, where there was one
abbrev pub old_pair : Fields → ℕ → List (List Owned) → List (List Owned) → ℕ → ℕ → Option Pair
old_pair p ranks olds news l rank =
    if nat_lt (suc l) (length olds) then Some (pair (area_of p).frame p.width (ratio_to p (suc l)) (ratio_to p (suc l)) (level_at news (suc l)) (level_at olds (suc l)) rank) else None

-- and with the level below it
abbrev pub under_pair : Fields → List Owned → List Owned → ℕ → ℕ → Pair
under_pair p news coarser l rank = pair (area_of p).frame p.width (ratio_to p (suc l)) (ratio_to p l) news coarser rank

abbrev pub AsksBegin : Type 0
AsksBegin = (p : Fields) (ranks l rank : ℕ) (levels : List (List Owned)) → IsGround p → IsMesh p ranks levels → l < length levels → rank < ranks
    → HasLevels rank ranks (area_of p) (part (level_at levels l) rank) (self_pair (scheduling p ranks levels l) rank) (pair_below p ranks levels l rank)
    (scheduling p ranks levels l).ghosts (scheduling p ranks levels l).fixed (scheduling p ranks levels l) rank

abbrev pub FillsBegin : Type 0
FillsBegin = (p : Fields) (ranks l rank : ℕ) (h : Hierarchy) → IsGround p → IsMesh p ranks h.levels → Fits p h → l < length h.levels → rank < ranks
    → HasPatches rank ranks (plan_of (scheduling p ranks h.levels l) rank) (patches p h l rank) (patches_below p ranks h l rank) (all_rules p) (filling p ranks h l) rank

abbrev pub RenewalsBegin : Type 0
RenewalsBegin = (p : Fields) (ranks l rank : ℕ) (h : Hierarchy) (news : List (List Owned)) → IsGround p → IsMesh p ranks h.levels → IsMesh p ranks news → IsRemade p h.levels news → Fits p h
    → suc l < length news → rank < ranks
    → HasOld rank (map (λ b. b.bx) (own rank (level_at news (suc l)))) (old_pair p ranks h.levels news l rank) (under_pair p (level_at news (suc l)) (level_at h.levels l) l rank) (step_of p l)
    (patches p h (suc l) rank) (patches p h l rank) (all_rules p) (renewing_at p ranks h news l) rank

abbrev pub FirstRenewalsBegin : Type 0
FirstRenewalsBegin = (p : Fields) (ranks l rank : ℕ) (levels : List (List Owned)) → IsGround p → IsMesh p ranks levels → suc l < length levels → rank < ranks
    → HasOld rank (map (λ b. b.bx) (own rank (level_at levels (suc l)))) None (under_pair p (level_at levels (suc l)) (level_at levels l) l rank) (step_of p l)
    (no_patches p) (patches p (first_hierarchy p ranks levels) l rank) (all_rules p)
    (renewing p ranks l (level_at levels (suc l)) [] (level_at levels l) (λ f x. 0) (first_values p ranks levels l)) rank

abbrev pub CoarseningsBegin : Type 0
CoarseningsBegin = (p : Fields) (ranks l rank : ℕ) (h : Hierarchy) → IsGround p → IsMesh p ranks h.levels → suc l < length h.levels → rank < ranks
    → HasFine rank ranks (under_pair p (level_at h.levels (suc l)) (level_at h.levels l) l rank) (patches p h (suc l) rank) (patches p h l rank)
    (map (λ f. f.coarsen) p.fields) (map (λ f. f.modulus) p.fields) (coarsening p ranks h l) rank
