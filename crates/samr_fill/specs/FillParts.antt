-- What a rank has before a fill, and after it.
use Rattle.std.specs.Prelude.{◌≡◌, ◌⊎◌, ℕ, ◌<◌, List, [], map, length, Some, slice_get}
use Rattle.std.specs.List.{enumerate_from}
use Rattle.samr_box.specs.declared.vector.IVec.{IVec}
use Rattle.samr_box.specs.Corners.{Holds}
use Rattle.samr_level.specs.Refs.{Owned}
use Rattle.samr_level.specs.Levels.{own}
use Rattle.samr_data.specs.Grids.{Grid, value_at, grid_of}
use Rattle.samr_ops.specs.declared.rules.Rules.{Rules}
use Rattle.samr_sched.specs.declared.plan.Plan.{Plan}
use Rattle.samr_sched.specs.Plans.{plan_of}
use Rattle.samr_fill.specs.Fill.{Filling, IsFilling, value_of}

-- patches of boxes, field by field and box by box, whose boxes have these values; nothing is said of their ghost cells
pub record HasValues (values : ℕ → IVec → ℕ) (boxes : List Owned) (patches : List (List Grid)) : Type 0 where
  pub patch : (f place : ℕ) (field : List Grid) (p : Grid) → slice_get patches f ≡ Some field → slice_get field place ≡ Some p
      → (b : Owned) × (slice_get boxes place ≡ Some b) × (p.bx ≡ b.bx) × ((x : IVec) → Holds b.bx x → value_at p x ≡ values f x)
  pub full : (f : ℕ) (field : List Grid) → slice_get patches f ≡ Some field → length field ≡ length boxes

-- the patches of a field after a fill: each cell of each grown box has its value
abbrev pub filled_field : Filling → ℕ → ℕ × Rules → List Grid
filled_field w r f = map (λ b. grid_of b.bx f.1.width (value_of w f)) (own r w.schedule.level)

-- those of all fields
abbrev pub filled : Filling → ℕ → List (List Grid)
filled w r = map (λ f. filled_field w r f) (enumerate_from 0 w.rules)

-- patches of each field of the level below; where there is no such level, nothing will do
abbrev pub HasFields : Filling → List (List Grid) → Type 0
HasFields w coarser = ((w.schedule.coarser ≡ []) × (coarser ≡ [])) ⊎ (length coarser ≡ length w.rules)

-- what a rank has at first
pub record HasPatches (rank ranks : ℕ) (plan : Plan) (patches coarser : List (List Grid)) (rules : List Rules) (w : Filling) (r : ℕ) : Type 0 where
  pub is : IsFilling w
  pub same_rank : rank ≡ r
  pub same_ranks : ranks ≡ w.schedule.ranks
  pub within : r < w.schedule.ranks
  pub same_plan : plan ≡ plan_of w.schedule r
  pub same_rules : rules ≡ w.rules
  pub same_values : HasValues w.values (own r w.schedule.level) patches
  pub fields : length patches ≡ length w.rules
  pub widths : (f place : ℕ) (field : List Grid) (p : Grid) (g : IVec) → slice_get patches f ≡ Some field → slice_get field place ≡ Some p
      → slice_get w.schedule.ghosts f ≡ Some g → p.width ≡ g
  pub same_coarser : HasValues w.coarse_values (own r w.schedule.coarser) coarser
  pub coarse_fields : HasFields w coarser
