-- What a rank has once all parcels have come, and what it has of one field and of one box.
use Rattle.std.specs.Prelude.{◌≡◌, ℕ, ◌<◌, List, length, Some, slice_get}
use Rattle.samr_box.specs.declared.vector.IVec.{IVec}
use Rattle.samr_box.specs.Corners.{Holds}
use Rattle.samr_box.specs.Lists.{Member}
use Rattle.samr_level.specs.Refs.{Owned}
use Rattle.samr_level.specs.Levels.{own}
use Rattle.samr_data.specs.Grids.{Grid, value_at}
use Rattle.samr_ops.specs.declared.rules.Rules.{Rules}
use Rattle.samr_sched.specs.declared.plan.Plan.{Plan}
use Rattle.samr_sched.specs.declared.plan.BoxPlan.{BoxPlan}
use Rattle.samr_sched.specs.declared.plan.FieldPlan.{FieldPlan}
use Rattle.samr_sched.specs.Plans.{plan_of, box_plan, field_plan}
use Rattle.samr_data.specs.declared.parcel.Parcel.{Parcel}
use Rattle.samr_fill.specs.Fill.{Filling, IsFilling, value_of}
use Rattle.samr_fill.specs.FillParts.{HasValues}
use Rattle.samr_fill.specs.FillRow.{parcels}
use Rattle.samr_fill.specs.Orders.{AreInOrder}

-- the plan of a rank, and all parcels for it, in order
pub record HasParcels (plan : Plan) (all : List Parcel) (w : Filling) (r : ℕ) : Type 0 where
  pub is : IsFilling w
  pub within : r < w.schedule.ranks
  pub same_plan : plan ≡ plan_of w.schedule r
  pub known : (p : Parcel) → Member p all → (from : ℕ) × Member p (parcels w from r)
  pub come : (from : ℕ) (p : Parcel) → from < w.schedule.ranks → Member p (parcels w from r) → Member p all
  pub ordered : AreInOrder all

-- a patch of a box, whose own cells have the values of a field
pub record IsPatch (w : Filling) (f : ℕ) (s : Rules) (b : Owned) (p : Grid) : Type 0 where
  pub same_box : p.bx ≡ b.bx
  pub same_width : p.width ≡ s.width
  pub values : (x : IVec) → Holds b.bx x → value_at p x ≡ w.values f x

-- the patches of a field
pub record IsField (plan : Plan) (all : List Parcel) (f : ℕ) (s : Rules) (patches : List Grid) (w : Filling) (r : ℕ) : Type 0 where
  pub has : HasParcels plan all w r
  pub same_rules : slice_get w.rules f ≡ Some s
  pub full : length patches ≡ length (own r w.schedule.level)
  pub patch : (place : ℕ) (p : Grid) (b : Owned) → slice_get patches place ≡ Some p → slice_get (own r w.schedule.level) place ≡ Some b → IsPatch w f s b p

-- the patch of a box, and its plan
pub record IsBoxOf (plan : Plan) (all : List Parcel) (f : ℕ) (s : Rules) (bp : BoxPlan) (p : Grid) (w : Filling) (r : ℕ) : Type 0 where
  pub has : HasParcels plan all w r
  pub same_rules : slice_get w.rules f ≡ Some s
  pub own_box : Member bp.base (own r w.schedule.level)
  pub same_plan : bp ≡ box_plan w.schedule bp.base
  pub patch : IsPatch w f s bp.base p

pub record IsPatchOf (plan : Plan) (all : List Parcel) (f : ℕ) (s : Rules) (base : Owned) (fp : FieldPlan) (p : Grid) (w : Filling) (r : ℕ) : Type 0 where
  pub has : HasParcels plan all w r
  pub same_rules : slice_get w.rules f ≡ Some s
  pub own_box : Member base (own r w.schedule.level)
  pub same_plan : fp ≡ field_plan w.schedule base (f, s.width)
  pub patch : IsPatch w f s base p

-- the patches of all fields
pub record AreFields (plan : Plan) (all : List Parcel) (rules : List Rules) (patches : List (List Grid)) (w : Filling) (r : ℕ) : Type 0 where
  pub has : HasParcels plan all w r
  pub same_rules : rules ≡ w.rules
  pub full : length patches ≡ length rules
  pub field : (f : ℕ) (s : Rules) (field : List Grid) → slice_get rules f ≡ Some s → slice_get patches f ≡ Some field → IsField plan all f s field w r

-- a patch of the same cells that has the same values in the box
pub record IsCopyOf (p q : Grid) : Type 0 where
  pub same_box : q.bx ≡ p.bx
  pub same_width : q.width ≡ p.width
  pub values : (x : IVec) → Holds p.bx x → value_at q x ≡ value_at p x
