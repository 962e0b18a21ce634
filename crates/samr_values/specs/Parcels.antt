-- What parcels hold, and which of them are for a box.
use Rattle.std.specs.Prelude.{◌≡◌, ℕ, ◌<◌, ◌^◌, true, false, cond, Bool, ◌&&◌, not, nat_eq, List, length, IsTrue}
use Rattle.std.specs.List.{list_any}
use Rattle.samr_box.specs.declared.vector.IVec.{IVec}
use Rattle.samr_box.specs.Corners.{Corners, Holds, holds, holds_box, cells_of}
use Rattle.samr_box.specs.Ratios.{coarse}
use Rattle.samr_box.specs.Lists.{Member}
use Rattle.samr_data.specs.Values.{value_in}
use Rattle.samr_ops.specs.declared.rules.Rules.{Rules}
use Rattle.samr_ops.specs.Rules.{refined_value}
use Rattle.samr_data.specs.declared.parcel.Parcel.{Parcel}
use Rattle.samr_values.specs.Patches.{child}

-- a value for each cell of the region, which lies in the head unless it is one of coarse cells
pub record IsParcel (q : Parcel) : Type 0 where
  pub full : length q.values ≡ cells_of q.region
  pub few : cells_of q.region < 2 ^ 62
  pub inside : q.is_coarse ≡ false → IsTrue (holds_box q.edge.head.bx q.region)

-- the parcel is for this field of this box
abbrev pub same_box : Corners → Corners → Bool
same_box a b = holds_box a b && holds_box b a

abbrev pub is_for : ℕ → Corners → Parcel → Bool
is_for field b q = nat_eq q.field field && same_box q.edge.head.bx b

-- it has values of cells of the box itself, or of coarse cells under them
abbrev pub has_fine : ℕ → Corners → Parcel → Bool
has_fine field b q = not q.is_coarse && is_for field b q

abbrev pub has_coarse : ℕ → Corners → Parcel → Bool
has_coarse field b q = q.is_coarse && is_for field b q

-- a cell of the box has a value among the parcels, or a value under it
abbrev pub is_told : ℕ → Corners → List Parcel → IVec → Bool
is_told field b parcels x = list_any (λ q. has_fine field b q && holds q.region x) parcels

abbrev pub is_told_under : ℕ → IVec → Corners → List Parcel → IVec → Bool
is_told_under field step b parcels x = list_any (λ q. has_coarse field b q && holds q.region (coarse x step)) parcels

-- the refined value of a cell from the parcel's value under it
abbrev pub refined_under : Rules → IVec → Parcel → IVec → ℕ
refined_under r step q x = refined_value r (value_in q.region q.values (coarse x step)) (child x step)

-- these values agree with a function
abbrev pub Tell : ℕ → Corners → List Parcel → (IVec → ℕ) → Type 0
Tell field b parcels v = (q : Parcel) (x : IVec) → Member q parcels → has_fine field b q ≡ true → Holds q.region x → value_in q.region q.values x ≡ v x

abbrev pub TellUnder : ℕ → IVec → Rules → Corners → List Parcel → (IVec → ℕ) → Type 0
TellUnder field step r b parcels v =
    (q : Parcel) (x : IVec) → Member q parcels → has_coarse field b q ≡ true → Holds b x → Holds q.region (coarse x step)
    → refined_under r step q x ≡ v x

-- and those of coarse cells can be refined
abbrev pub Refinable : ℕ → Rules → Corners → List Parcel → Type 0
Refinable field r b parcels =
    (q : Parcel) (c : IVec) → Member q parcels → has_coarse field b q ≡ true → Holds q.region c → value_in q.region q.values c < r.modulus

-- what parcels tell of a field of a box: each cell has a value under it, some have one of their own, which is then theirs
pub record Tells (field : ℕ) (step : IVec) (r : Rules) (b : Corners) (parcels : List Parcel) (value : IVec → ℕ) : Type 0 where
  pub under_values : IVec → ℕ
  pub own_values : IVec → ℕ
  pub under : TellUnder field step r b parcels under_values
  pub own : Tell field b parcels own_values
  pub covered : (x : IVec) → Holds b x → is_told_under field step b parcels x ≡ true
  pub is : (x : IVec) → Holds b x → cond (is_told field b parcels x) (own_values x) (under_values x) ≡ value x
