-- What the stage `LinearFill` keeps.
use Rattle.std.specs.Prelude.{◌≡◌, ◌↔◌, ℕ, ◌<◌, List, length, Some, slice_get}
use Rattle.samr_box.specs.Lists.{Member}
use Rattle.samr_stage.specs.Row.{told}
use Rattle.samr_level.specs.Levels.{own}
use Rattle.samr_data.specs.Grids.{Grid}
use Rattle.samr_data.specs.declared.parcel.Parcel.{Parcel}
use Rattle.samr_ops.specs.declared.rules.Rules.{Rules}
use Rattle.samr_peers.specs.Peers.{other_owners}
use Rattle.samr_sched.specs.declared.plan.Plan.{Plan}
use Rattle.samr_sched.specs.Plans.{plan_of}
use Rattle.samr_fill.specs.FillParts.{HasValues}
use Rattle.samr_fill.specs.FillRow.{hears}
use Rattle.samr_linear.specs.declared.linear.Linear.{Linear}
use Rattle.samr_linear.specs.LinearFill.{LinearFilling, IsLinearFilling}
use Rattle.samr_linear.specs.LinearFillRow.{linear_parcels, linear_row}

-- its patches, as a list of one field, and its plan, its parcels for itself, and who tells it something
pub record IsReady (plan : Plan) (fields : List (List Grid)) (rules : Rules) (stencil : Linear) (mine : List Parcel) (senders : List ℕ) (w : LinearFilling) (r : ℕ) : Type 0 where
  pub is : IsLinearFilling w
  pub within : r < w.filling.schedule.ranks
  pub same_plan : plan ≡ plan_of w.filling.schedule r
  pub same_rules : rules ≡ w.rules
  pub same_stencil : stencil ≡ w.stencil
  pub same_values : HasValues w.filling.values (own r w.filling.schedule.level) fields
  pub one : length fields ≡ 1
  pub widths : (place : ℕ) (patches : List Grid) (p : Grid) → slice_get fields 0 ≡ Some patches → slice_get patches place ≡ Some p → p.width ≡ w.rules.width
  pub own_parcels : (p : Parcel) → Member p mine ↔ Member p (linear_parcels w r r)
  pub same_senders : senders ≡ other_owners r (hears w.filling r)

-- and its letters
pub record HasLetters (plan : Plan) (fields : List (List Grid)) (rules : Rules) (stencil : Linear) (letters : List (ℕ × List Parcel)) (mine : List Parcel) (senders : List ℕ) (w : LinearFilling) (r : ℕ) : Type 0 where
  pub ready : IsReady plan fields rules stencil mine senders w r
  pub same_letters : letters ≡ told (linear_row w r) w.filling.schedule.ranks
