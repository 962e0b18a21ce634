-- What parcels change in a patch: copied values where they stand, and cells that the level does not have by linear refinement.
use Rattle.std.specs.Prelude.{◌≡◌, ℕ, ◌<◌, Bool, ◌&&◌, ◌||◌, not, true, false, List, length, map, IsTrue, if◌then◌else◌}
use Rattle.std.specs.List.{list_any}
use Rattle.samr_box.specs.declared.vector.IVec.{IVec}
use Rattle.samr_box.specs.declared.space.Flags.{Flags}
use Rattle.samr_box.specs.Vector.{plus, minus}
use Rattle.samr_box.specs.Corners.{Corners, IsBox, Holds, holds, holds_box, cells_of}
use Rattle.samr_box.specs.Space.{Space, flag}
use Rattle.samr_boxlist.specs.Covers.{held}
use Rattle.samr_data.specs.Values.{value_in}
use Rattle.samr_data.specs.Grids.{Grid, value_at}
use Rattle.samr_data.specs.declared.parcel.Parcel.{Parcel}
use Rattle.samr_sched.specs.declared.plan.Plan.{Plan}
use Rattle.samr_fill.specs.Fill.{child}
use Rattle.samr_fill.specs.Writing.{seen_at, target}
use Rattle.samr_linear.specs.declared.linear.Linear.{Linear}
use Rattle.samr_linear.specs.Lin.{lin}
use Rattle.samr_linear.specs.LinVal.{axes}
use Rattle.samr_linear.specs.Around.{one_around}
use Rattle.samr_linear.specs.Scratches.{lower, upper, HasSides}

-- a region without the cells about it
abbrev pub inner : Flags → Corners → Corners
inner real b = record { lo = plus b.lo (one_around real); hi = minus b.hi (one_around real) }

-- the cells of a parcel that a patch takes values from
abbrev pub inner_of : Flags → Parcel → Corners
inner_of real p = if p.is_coarse then inner real p.region else p.region

-- whether a cell takes a value of a parcel: of coarse values only a cell that the level does not have
abbrev pub takes : Plan → Flags → List Corners → Parcel → IVec → Bool
takes plan real rest p x = (not p.is_coarse || held x rest) && holds (inner_of real p) (seen_at plan p x)

-- linear refinement of the values of a region: 0 beside a cell where the axis is not real
abbrev pub side_in : Bool → Corners → List ℕ → IVec → ℕ
side_in is_real b vs x = if is_real then value_in b vs x else 0

abbrev pub lin_in : Linear → Corners → List ℕ → IVec → IVec → ℕ
lin_in s b vs c o =
    lin s (value_in b vs c) (map (λ axis. side_in (flag axis s.real) b vs (lower axis c)) axes) (map (λ axis. side_in (flag axis s.real) b vs (upper axis c)) axes) o

-- and which value
abbrev pub taken : Plan → Linear → Parcel → IVec → ℕ
taken plan s p x =
    if p.is_coarse then lin_in s p.region p.values (seen_at plan p x) (child x plan.step) else value_in p.region p.values (seen_at plan p x)

-- a patch of coarse cells has what linear refinement over these cells reads, and values below the modulus there
pub record IsSource (s : Linear) (p : Grid) (inside : Corners) : Type 0 where
  pub sides : (y : IVec) → Holds inside y → HasSides p s.real y
  pub below : (y : IVec) → Holds inside y → value_at p y < s.modulus

-- a parcel fits a patch: it has a value for each cell; copied values have a place there, and coarse ones are below the modulus
pub record IsFit (d : Space) (s : Linear) (whole : Corners) (p : Parcel) : Type 0 where
  pub full : length p.values ≡ cells_of p.region
  pub into : p.is_coarse ≡ false → IsTrue (holds_box whole (target d p))
  pub solid : p.is_coarse ≡ true → IsBox (inner s.real p.region)
  pub below : p.is_coarse ≡ true → (x : IVec) → Holds (inner s.real p.region) x → value_in p.region p.values x < s.modulus

-- the values of a parcel are those of a function
abbrev pub AreOf : (IVec → ℕ) → Plan → Linear → List Corners → Parcel → Type 0
AreOf v plan s rest p = (x : IVec) → takes plan s.real rest p x ≡ true → taken plan s p x ≡ v x

-- the cells that take a value of a parcel
abbrev pub any_takes : Plan → Flags → List Corners → List Parcel → IVec → Bool
any_takes plan real rest parcels x = list_any (λ p. takes plan real rest p x) parcels
