-- What a rank has once all parcels have come, and what it has of one box.
use Rattle.std.specs.Prelude.{◌≡◌, ℕ, ◌<◌, List, length, Some, slice_get}
use Rattle.samr_box.specs.Lists.{Member}
use Rattle.samr_level.specs.Refs.{Owned}
use Rattle.samr_level.specs.Levels.{own}
use Rattle.samr_data.specs.Grids.{Grid}
use Rattle.samr_ops.specs.declared.rules.Rules.{Rules}
use Rattle.samr_sched.specs.declared.plan.Plan.{Plan}
use Rattle.samr_sched.specs.declared.plan.BoxPlan.{BoxPlan}
use Rattle.samr_sched.specs.declared.plan.FieldPlan.{FieldPlan}
use Rattle.samr_sched.specs.Plans.{plan_of, box_plan, field_plan}
use Rattle.samr_data.specs.declared.parcel.Parcel.{Parcel}
use Rattle.samr_fill.specs.Orders.{AreInOrder}
use Rattle.samr_fill.specs.FilledSoFar.{IsPatch}
use Rattle.samr_linear.specs.declared.linear.Linear.{Linear}
use Rattle.samr_linear.specs.LinearFill.{LinearFilling, IsLinearFilling}
use Rattle.samr_linear.specs.LinearFillRow.{linear_parcels}

-- the plan of a rank, its rules and stencil, and all parcels for it, in order
pub record HasParcels (plan : Plan) (all : List Parcel) (s : Rules) (stencil : Linear) (w : LinearFilling) (r : ℕ) : Type 0 where
  pub is : IsLinearFilling w
  pub within : r < w.filling.schedule.ranks
  pub same_plan : plan ≡ plan_of w.filling.schedule r
  pub same_rules : s ≡ w.rules
  pub same_stencil : stencil ≡ w.stencil
  pub known : (p : Parcel) → Member p all → (from : ℕ) × Member p (linear_parcels w from r)
  pub come : (from : ℕ) (p : Parcel) → from < w.filling.schedule.ranks → Member p (linear_parcels w from r) → Member p all
  pub ordered : AreInOrder all

-- the patches of all boxes
pub record IsField (plan : Plan) (all : List Parcel) (s : Rules) (stencil : Linear) (patches : List Grid) (w : LinearFilling) (r : ℕ) : Type 0 where
  pub has : HasParcels plan all s stencil w r
  pub full : length patches ≡ length (own r w.filling.schedule.level)
  pub patch : (place : ℕ) (p : Grid) (b : Owned) → slice_get patches place ≡ Some p → slice_get (own r w.filling.schedule.level) place ≡ Some b → IsPatch w.filling 0 s b p

-- the patch of a box, and its plan
pub record IsBoxOf (plan : Plan) (all : List Parcel) (s : Rules) (stencil : Linear) (bp : BoxPlan) (p : Grid) (w : LinearFilling) (r : ℕ) : Type 0 where
  pub has : HasParcels plan all s stencil w r
  pub own_box : Member bp.base (own r w.filling.schedule.level)
  pub same_plan : bp ≡ box_plan w.filling.schedule bp.base
  pub patch : IsPatch w.filling 0 s bp.base p

pub record IsPatchOf (plan : Plan) (all : List Parcel) (s : Rules) (stencil : Linear) (base : Owned) (fp : FieldPlan) (p : Grid) (w : LinearFilling) (r : ℕ) : Type 0 where
  pub has : HasParcels plan all s stencil w r
  pub own_box : Member base (own r w.filling.schedule.level)
  pub same_plan : fp ≡ field_plan w.filling.schedule base (0, s.width)
  pub patch : IsPatch w.filling 0 s base p
