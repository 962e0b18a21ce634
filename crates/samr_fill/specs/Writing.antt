-- What parcels change in a patch.
use Rattle.std.specs.Prelude.{◌≡◌, ℕ, ◌<◌, Bool, ◌&&◌, ◌||◌, not, true, false, List, length, nat_eq, IsTrue, if◌then◌else◌}
use Rattle.std.specs.List.{list_any, All}
use Rattle.std.specs.Ordering.{is_eq}
use Rattle.samr_box.specs.declared.vector.IVec.{IVec}
use Rattle.samr_box.specs.Vector.{plus, times}
use Rattle.samr_box.specs.Corners.{Corners, Holds, holds, holds_box, cells_of}
use Rattle.samr_box.specs.Ratios.{coarse}
use Rattle.samr_box.specs.Space.{Space}
use Rattle.samr_boxlist.specs.Covers.{held}
use Rattle.samr_level.specs.Refs.{Owned}
use Rattle.samr_level.specs.RefOrders.{ref_cmp}
use Rattle.samr_data.specs.Places.{moved_back}
use Rattle.samr_data.specs.Values.{value_in}
use Rattle.samr_data.specs.Grids.{Grid, over, value_at}
use Rattle.samr_ops.specs.declared.rules.Rules.{Rules}
use Rattle.samr_ops.specs.Rules.{refined_value}
use Rattle.samr_sched.specs.declared.plan.Plan.{Plan}
use Rattle.samr_data.specs.declared.parcel.Parcel.{Parcel}
use Rattle.samr_fill.specs.Fill.{child}

-- the cell of a parcel's region that stands for a cell about the head
abbrev pub seen_at : Plan → Parcel → IVec → IVec
seen_at plan p x =
    if p.is_coarse then plus (coarse x plan.step) (times p.edge.shift plan.below.size) else plus x (times p.edge.shift plan.frame.size)

-- whether a cell takes a value of a parcel: of coarse values only a cell that the level does not have; and which
abbrev pub takes : Plan → List Corners → Parcel → IVec → Bool
takes plan rest p x = (not p.is_coarse || held x rest) && holds p.region (seen_at plan p x)

abbrev pub taken : Plan → Rules → Parcel → IVec → ℕ
taken plan r p x =
    if p.is_coarse then refined_value r (value_in p.region p.values (seen_at plan p x)) (child x plan.step)
    else value_in p.region p.values (seen_at plan p x)

-- the same of a patch of coarse values: a cell of a piece takes a refined value
abbrev pub takes_from : Corners → IVec → IVec → Corners → IVec → Bool
takes_from b step offset piece x = holds piece x && holds b (plus (coarse x step) offset)

abbrev pub any_takes_from : Corners → IVec → IVec → List Corners → IVec → Bool
any_takes_from b step offset pieces x = list_any (λ piece. takes_from b step offset piece x) pieces

abbrev pub refined_at : Rules → Grid → IVec → IVec → IVec → ℕ
refined_at r source step offset x = refined_value r (value_at source (plus (coarse x step) offset)) (child x step)

-- the region of copied values, where the head stands
abbrev pub target : Space → Parcel → Corners
target d p = moved_back p.region (times p.edge.shift d.size)

-- the parcel is for this box and field
abbrev pub is_for : Owned → ℕ → Parcel → Bool
is_for base field p = is_eq (ref_cmp p.edge.head base) && nat_eq p.field field

-- a parcel fits a patch: it has a value for each cell; copied values have a place there, and coarse ones are below the modulus
pub record IsFit (d : Space) (r : Rules) (whole : Corners) (p : Parcel) : Type 0 where
  pub full : length p.values ≡ cells_of p.region
  pub into : p.is_coarse ≡ false → IsTrue (holds_box whole (target d p))
  pub below : p.is_coarse ≡ true → (x : IVec) → Holds p.region x → value_in p.region p.values x < r.modulus

-- the values of a parcel are those of a function
abbrev pub AreOf : (IVec → ℕ) → Plan → Rules → List Corners → Parcel → Type 0
AreOf v plan r rest p = (x : IVec) → takes plan rest p x ≡ true → taken plan r p x ≡ v x

-- after a change of a patch the cells that pass a test have their values, and all cells that had theirs keep them
pub record Fixes (v : IVec → ℕ) (wrote : IVec → Bool) (old new : Grid) : Type 0 where
  pub same_box : new.bx ≡ old.bx
  pub same_width : new.width ≡ old.width
  pub kept : (x : IVec) → Holds (over old) x → value_at old x ≡ v x → value_at new x ≡ v x
  pub right : (x : IVec) → Holds (over old) x → wrote x ≡ true → value_at new x ≡ v x

-- the cells that take a value of a parcel
abbrev pub any_takes : Plan → List Corners → List Parcel → IVec → Bool
any_takes plan rest parcels x = list_any (λ p. takes plan rest p x) parcels
