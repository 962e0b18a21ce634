-- What holds of linear refinement.
use Rattle.std.specs.Prelude.{◌≡◌, ℕ, ◌<◌, true, Some, slice_get, slice_index, List, length}
use Rattle.samr_box.specs.declared.vector.Axis.{Axis}
use Rattle.samr_box.specs.declared.vector.IVec.{IVec}
use Rattle.samr_box.specs.Corners.{Corners, Holds, grown}
use Rattle.samr_box.specs.Space.{flag, wrapped}
use Rattle.samr_box.specs.Lists.{Member}
use Rattle.samr_level.specs.Refs.{Owned}
use Rattle.samr_ops.specs.declared.rules.Rules.{Rules}
use Rattle.samr_fill.specs.Fill.{Filling, IsFilling}
use Rattle.samr_linear.specs.declared.linear.Linear.{Linear}
use Rattle.samr_linear.specs.Lin.{on, lin}
use Rattle.samr_problem.specs.declared.field.Field.{Field}
use Rattle.samr_problem.specs.Fields.{Fields}
use Rattle.samr_hierarchy.specs.Grounds.{IsGround}
use Rattle.samr_mesh.specs.Meshes.{level_at}
use Rattle.samr_hierarchy.specs.Hierarchies.{Hierarchy}
use Rattle.samr_mesh.specs.Soundness.{IsMesh}
use Rattle.samr_hierarchy.specs.Laws.{Fits}
use Rattle.samr_level.specs.Levels.{IsCellIn}
use Rattle.samr_level.specs.Regions.{IsInside}
use Rattle.samr_sched.specs.Ask.{domain_of, frame_of}
use Rattle.samr_data.specs.Grids.{grid_of}
use Rattle.samr_linear.specs.LinVal.{under, linear_value, lin_val}
use Rattle.samr_linear.specs.Scratches.{HasSides, over_cell, linear_at}

-- only the neighbours on real axes count
abbrev pub OnlyRealAxesCount : Type 0
OnlyRealAxesCount = (s : Linear) (v : ℕ) (low high low2 high2 : List ℕ) (o : IVec) → ((axis : Axis) → flag axis s.real ≡ true → (on axis low ≡ on axis low2) × (on axis high ≡ on axis high2))
    → lin s v low high o ≡ lin s v low2 high2 o

-- each cell of each grown box has a value below the modulus, whatever the level below has
abbrev pub LinearValuesFit : Type 0
LinearValuesFit = (w : Filling) (r : Rules) (s : Linear) (below : IVec → ℕ) (b : Owned) (x : IVec) → IsFilling w → slice_get w.rules 0 ≡ Some r → s.modulus ≡ r.modulus → Member b w.schedule.level
    → (0 < length w.schedule.region.parts → slice_index w.schedule.fixed 0 < r.modulus) → Holds (grown b.bx r.width) x → linear_value w r s below x < r.modulus

-- over a hierarchy whose values are below the moduli, so is the value of each cell of each grown box of each level
abbrev pub LinValsFit : Type 0
LinValsFit = (p : Fields) (ranks l : ℕ) (h : Hierarchy) (f : Field) (b : Owned) (x : IVec) → IsGround p → IsMesh p ranks h.levels → Fits p h → l < length h.levels
    → slice_get p.fields 0 ≡ Some f → Member b (level_at h.levels l) → Holds (grown b.bx f.ghosts) x → lin_val p ranks h l x < f.modulus

-- the level keeps its values
abbrev pub TheLevelKeepsItsValues : Type 0
TheLevelKeepsItsValues = (w : Filling) (r : Rules) (s : Linear) (below : IVec → ℕ) (b : Owned) (x : IVec) → IsFilling w → Member b w.schedule.level → Holds b.bx x → linear_value w r s below x ≡ w.values 0 x

-- a cell of the domain that the level does not have gets its value from a scratch patch of the level below, which keeps its values
abbrev pub ScratchGivesTheValue : Type 0
ScratchGivesTheValue = (w : Filling) (r : Rules) (s : Linear) (below : IVec → ℕ) (b : Corners) (width offset x : IVec) → IsFilling w → IsInside (domain_of w.schedule) x
    → (IsCellIn w.schedule.level (wrapped (frame_of w.schedule) x) → ⊥) → over_cell w.schedule.step offset x ≡ under w x → HasSides (grid_of b width below) s.real (under w x)
    → below (under w x) ≡ w.coarse_values 0 (under w x) → linear_at s (grid_of b width below) w.schedule.step offset x ≡ linear_value w r s below x
