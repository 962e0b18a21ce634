-- The merged values for one rank.
use Rattle.std.proofs.Common.{◌≡◌, ℕ, ◌<◌, length, get_or, sym, ap, ◌∙◌, subst}
use Rattle.std.proofs.lemmas.Option.{slice_get-get_or}
use Rattle.std.specs.Prelude.{List, filter, Some, slice_get}
use Rattle.std.specs.List.{flat_map, filter_map}
use Rattle.samr_box.specs.declared.vector.IVec.{IVec}
use Rattle.samr_box.specs.Lists.{Member}
use Rattle.samr_box.proofs.Members.{Member-from_filter}
use Rattle.samr_level.specs.Refs.{Link}
use Rattle.samr_level.specs.RefOrders.{in_order}
use Rattle.samr_data.specs.Grids.{Grid}
use Rattle.samr_data.specs.declared.parcel.Parcel.{Parcel}
use Rattle.samr_data.specs.ParcelOrder.{parcel_cmp}
use Rattle.samr_values.specs.declared.merging.Merge.{Merge}
use Rattle.samr_values.specs.Patches.{HasField, HaveFields}
use Rattle.samr_values.specs.ValuesRow.{leads_to}
use Rattle.samr_values.specs.Merging.{merged_along, merged_to, CanMerge}

-- the patches of a field
pub field_got : (fine : List (List Grid)) (place n : ℕ) (field : List Grid) → place ≡ n → n < length fine → field ≡ get_or fine place field → slice_get fine n ≡ Some field
field_got fine place n field same below is =
    slice_get-get_or fine n field below ∙ ap (λ (f : List Grid). Some f) (ap (λ (k : ℕ). get_or fine k field) (sym same) ∙ sym is)

pub field_of : (values : ℕ → IVec → ℕ) (fine : List (List Grid)) (place n : ℕ) (field : List Grid) → HaveFields values fine → place ≡ n → n < length fine
    → field ≡ get_or fine place field → HasField (values n) field
field_of values fine place n field has same below is = has n field (field_got fine place n field same below is)

module _ (list : List Merge) (edges leading : List Link) (fine : List (List Grid)) (to : ℕ) (can : CanMerge list edges fine) (is : leading ≡ filter (λ e. leads_to to e) edges) where
  leads : (e : Link) → Member e leading → Member e edges
  leads e m = (Member-from_filter (λ e. leads_to to e) e edges (subst (λ (l : List Link). Member e l) is m)).0

  pub can_leading : CanMerge list leading fine
  can_leading = record {
    some = can.some;
    there = can.there;
    based = λ n field got. let b = can.based n field got in record { order = b.order; there = λ e m. b.there e (leads e m) };
    refinements = λ m e mm me. can.refinements m e mm (leads e me);
  }

pub merged_to_is : (list : List Merge) (values : ℕ → IVec → ℕ) (edges leading : List Link) (to : ℕ) (all out : List Parcel) → leading ≡ filter (λ e. leads_to to e) edges
    → all ≡ flat_map (λ m. filter_map (λ e. merged_along m (values m.field) e) leading) list → out ≡ in_order parcel_cmp all → out ≡ merged_to list values edges to
unfolding merged_to
merged_to_is list values edges leading to all out is made sorted =
    sorted ∙ ap (in_order parcel_cmp) (made ∙ ap (λ (l : List Link). flat_map (λ m. filter_map (λ e. merged_along m (values m.field) e) l) list) is)
