-- What holds of the hierarchies of an accepted problem whose levels nest.
use Rattle.std.specs.Prelude.{◌≡◌, ℕ, suc, ◌<◌, true, false, List, [], ◌∷◌, slice_get, Some, length}
use Rattle.samr_box.specs.declared.vector.IVec.{IVec}
use Rattle.samr_box.specs.Corners.{Holds, grown}
use Rattle.samr_box.specs.Lists.{Member}
use Rattle.samr_level.specs.Refs.{Owned}
use Rattle.samr_level.specs.Levels.{IsCellIn}
use Rattle.samr_sched.specs.declared.origin.Origin.{Origin}
use Rattle.samr_sched.specs.Ask.{IsScheduling, IsSourced}
use Rattle.samr_sched.specs.Origins.{origins}
use Rattle.samr_fill.specs.Fill.{IsFilling}
use Rattle.samr_values.specs.Values.{IsRenewing}
use Rattle.samr_values.specs.Coarsen.{IsCoarsening}
use Rattle.samr_problem.specs.declared.field.Field.{Field}
use Rattle.samr_problem.specs.Fields.{Fields}
use Rattle.samr_mesh.specs.Meshes.{level_at, is_due}
use Rattle.samr_mesh.specs.Soundness.{IsMesh, IsRemade}
use Rattle.samr_hierarchy.specs.Grounds.{IsGround}
use Rattle.samr_hierarchy.specs.Hierarchies.{Hierarchy, scheduling, filling, renewing, coarsening}
use Rattle.samr_hierarchy.specs.Passes.{first_values, first_hierarchy, renewing_at, begun, stepped, after}
use Rattle.samr_hierarchy.specs.Meshes.{AreMeshes}

-- each value of each level is below the modulus of its field
abbrev pub Fits : Fields → Hierarchy → Type 0
Fits p h = (l f : ℕ) (r : Field) (x : IVec) → slice_get p.fields f ≡ Some r → IsCellIn (level_at h.levels l) x → h.values l f x < r.modulus

-- the schedule of each level is one, and each ghost cell has a source
abbrev pub SchedulesHold : Type 0
SchedulesHold = (p : Fields) (ranks l : ℕ) (levels : List (List Owned)) → IsGround p → IsMesh p ranks levels → l < length levels
    → IsScheduling (scheduling p ranks levels l) × IsSourced (scheduling p ranks levels l)

-- so each ghost cell of each level has one origin
abbrev pub EachCellHasOneOrigin : Type 0
EachCellHasOneOrigin = (p : Fields) (ranks l : ℕ) (levels : List (List Owned)) (b : Owned) (f : Field) (x : IVec) → IsGround p → IsMesh p ranks levels → l < length levels
    → Member b (level_at levels l) → Member f p.fields → Holds (grown b.bx f.ghosts) x → (o : Origin) × (origins (scheduling p ranks levels l) x ≡ o ∷ [])

-- the fill of each level can be made
abbrev pub FillsHold : Type 0
FillsHold = (p : Fields) (ranks l : ℕ) (h : Hierarchy) → IsGround p → IsMesh p ranks h.levels → Fits p h → l < length h.levels → IsFilling (filling p ranks h l)

-- and so can the values of a new level, and coarsening
abbrev pub RenewalsHold : Type 0
RenewalsHold = (p : Fields) (ranks l : ℕ) (h : Hierarchy) (news : List (List Owned)) → IsGround p → IsMesh p ranks h.levels → IsMesh p ranks news → IsRemade p h.levels news → Fits p h
    → suc l < length news → IsRenewing (renewing_at p ranks h news l)

abbrev pub CoarseningsHold : Type 0
CoarseningsHold = (p : Fields) (ranks l : ℕ) (h : Hierarchy) → IsGround p → IsMesh p ranks h.levels → suc l < length h.levels → IsCoarsening (coarsening p ranks h l)

-- at step 0 each level is made over the one below it
abbrev pub FirstRenewalsHold : Type 0
FirstRenewalsHold = (p : Fields) (ranks l : ℕ) (levels : List (List Owned)) → IsGround p → IsMesh p ranks levels → suc l < length levels
    → IsRenewing (renewing p ranks l (level_at levels (suc l)) [] (level_at levels l) (λ f x. 0) (first_values p ranks levels l))

-- the values of the first hierarchy are below the moduli, and after a step those of any hierarchy whose values were
abbrev pub FirstValuesFit : Type 0
FirstValuesFit = (p : Fields) (ranks : ℕ) (levels : List (List Owned)) → IsGround p → IsMesh p ranks levels → Fits p (first_hierarchy p ranks levels)

abbrev pub StepsFit : Type 0
StepsFit = (p : Fields) (ranks t : ℕ) (h : Hierarchy) (news : List (List Owned)) → IsGround p → IsMesh p ranks h.levels → IsMesh p ranks news
    → (is_due p t ≡ true → IsRemade p h.levels news) → (is_due p t ≡ false → news ≡ h.levels) → Fits p h
    → Fits p (begun p ranks h news t) × Fits p (stepped p ranks h news t)

-- so they are at each step
pub record IsSoundAfter (p : Fields) (ranks : ℕ) (mesh : ℕ → List (List Owned)) (t : ℕ) : Type 0 where
  pub levels : (after p ranks mesh t).levels ≡ mesh t
  pub fits : Fits p (after p ranks mesh t)

abbrev pub EachStepIsSound : Type 0
EachStepIsSound = (p : Fields) (ranks t : ℕ) (mesh : ℕ → List (List Owned)) → IsGround p → AreMeshes p ranks mesh → IsSoundAfter p ranks mesh t
