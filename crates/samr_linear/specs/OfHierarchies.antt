-- The linear fills of the levels of a hierarchy, for its first field.
use Rattle.std.specs.Prelude.{◌≡◌, ℕ, zero, suc, ◌<◌, ◌==◌, [], ◌∷◌, length, Some, slice_get, if◌then◌else◌}
use Rattle.samr_box.specs.declared.vector.IVec.{IVec}
use Rattle.samr_box.specs.Vector.{AtMost}
use Rattle.samr_ops.specs.declared.rules.Rules.{Rules}
use Rattle.samr_sched.specs.Ask.{Scheduling}
use Rattle.samr_fill.specs.Fill.{Filling}
use Rattle.samr_problem.specs.declared.field.Field.{Field}
use Rattle.samr_problem.specs.Fields.{Fields}
use Rattle.samr_mesh.specs.Soundness.{IsMesh}
use Rattle.samr_hierarchy.specs.Scales.{rules_of, number_of}
use Rattle.samr_hierarchy.specs.Grounds.{IsGround}
use Rattle.samr_hierarchy.specs.Hierarchies.{Hierarchy, scheduling, filling}
use Rattle.samr_hierarchy.specs.Laws.{Fits}
use Rattle.samr_linear.specs.Around.{one_around}
use Rattle.samr_linear.specs.LinVal.{linear_to, lin_val_by, lin_val}
use Rattle.samr_linear.specs.LinearFill.{LinearFilling, IsLinearFilling, value_of}

-- the schedule and the fill of a level, for this field alone
abbrev pub scheduling_of : Fields → ℕ → Hierarchy → Field → ℕ → Scheduling
scheduling_of p ranks h f l =
    record (scheduling p ranks h.levels l) {
      ghosts = f.ghosts ∷ [];
      fixed = if length p.parts == 0 then [] else (number_of f.boundary.i ∷ []);
    }

abbrev pub filling_of : Fields → ℕ → Hierarchy → Field → ℕ → Filling
filling_of p ranks h f l = record (filling p ranks h l) { schedule = scheduling_of p ranks h f l; rules = rules_of f ∷ [] }

-- what level 0 stands on is nothing; each other level stands on the one below it with its ghost cells
abbrev pub below_of : Fields → ℕ → Hierarchy → Rules → ℕ → IVec → ℕ
below_of p ranks h r zero = λ y. 0
below_of p ranks h r (suc l) = lin_val_by p ranks h r l

abbrev pub linear_filling : Fields → ℕ → Hierarchy → Field → ℕ → LinearFilling
linear_filling p ranks h f l = record {
  filling = filling_of p ranks h f l;
  rules = rules_of f;
  stencil = linear_to p (rules_of f) l;
  below = below_of p ranks h (rules_of f) l;
}

-- what the stage gives for the first field of a hierarchy is its `lin_val`
abbrev pub StageGivesLinVal : Type 0
StageGivesLinVal = (p : Fields) (ranks l : ℕ) (h : Hierarchy) (f : Field) (x : IVec) → slice_get p.fields 0 ≡ Some f → value_of (linear_filling p ranks h f l) x ≡ lin_val p ranks h l x

-- and the stage can be run on each level, where each level over level 0 has a ghost cell on each real axis
abbrev pub LinearFillingsHold : Type 0
LinearFillingsHold = (p : Fields) (ranks l : ℕ) (h : Hierarchy) (f : Field) → IsGround p → IsMesh p ranks h.levels → Fits p h → l < length h.levels → slice_get p.fields 0 ≡ Some f
    → (0 < l → AtMost (one_around (linear_to p (rules_of f) l).real) f.ghosts) → IsLinearFilling (linear_filling p ranks h f l)
