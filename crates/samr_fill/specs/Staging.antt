-- What the stage `Fill` keeps.
use Rattle.std.specs.Prelude.{◌≡◌, ◌↔◌, ℕ, ◌<◌, List, length, Some, slice_get}
use Rattle.samr_box.specs.declared.vector.IVec.{IVec}
use Rattle.samr_box.specs.Lists.{Member}
use Rattle.samr_stage.specs.Row.{told}
use Rattle.samr_level.specs.Levels.{own}
use Rattle.samr_data.specs.Grids.{Grid}
use Rattle.samr_ops.specs.declared.rules.Rules.{Rules}
use Rattle.samr_peers.specs.Peers.{other_owners}
use Rattle.samr_sched.specs.declared.plan.Plan.{Plan}
use Rattle.samr_sched.specs.Plans.{plan_of}
use Rattle.samr_data.specs.declared.parcel.Parcel.{Parcel}
use Rattle.samr_fill.specs.Fill.{Filling, IsFilling}
use Rattle.samr_fill.specs.FillParts.{HasValues}
use Rattle.samr_fill.specs.FillRow.{parcels, hears, fill_row}

-- its patches and its plan, its parcels for itself, and who tells it something
pub record IsReady (plan : Plan) (patches : List (List Grid)) (rules : List Rules) (mine : List Parcel) (senders : List ℕ) (w : Filling) (r : ℕ) : Type 0 where
  pub is : IsFilling w
  pub within : r < w.schedule.ranks
  pub same_plan : plan ≡ plan_of w.schedule r
  pub same_rules : rules ≡ w.rules
  pub same_values : HasValues w.values (own r w.schedule.level) patches
  pub fields : length patches ≡ length w.rules
  pub widths : (f place : ℕ) (field : List Grid) (p : Grid) (g : IVec) → slice_get patches f ≡ Some field → slice_get field place ≡ Some p
      → slice_get w.schedule.ghosts f ≡ Some g → p.width ≡ g
  pub own_parcels : (p : Parcel) → Member p mine ↔ Member p (parcels w r r)
  pub same_senders : senders ≡ other_owners r (hears w r)

-- and its letters
pub record HasLetters (plan : Plan) (patches : List (List Grid)) (rules : List Rules) (letters : List (ℕ × List Parcel)) (mine : List Parcel) (senders : List ℕ) (w : Filling) (r : ℕ) : Type 0 where
  pub ready : IsReady plan patches rules mine senders w r
  pub same_letters : letters ≡ told (fill_row w r) w.schedule.ranks
