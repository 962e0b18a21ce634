-- The merged values of the cells under fine boxes, from patches of these.
use Rattle.std.specs.Prelude.{ℕ, ◌<◌, false, List, ◌++◌, length, map, zip, filter, Option}
use Rattle.std.specs.List.{flat_map, filter_map, enumerate_from}
use Rattle.std.specs.Option.{option_map}
use Rattle.samr_box.specs.declared.vector.IVec.{IVec}
use Rattle.samr_box.specs.Corners.{met}
use Rattle.samr_box.specs.Ratios.{coarse, coarsened, refined}
use Rattle.samr_box.specs.Lists.{Member}
use Rattle.samr_stage.specs.declared.stage.Held.{Held}
use Rattle.samr_level.specs.declared.parts.Pair.{Pair}
use Rattle.samr_level.specs.Refs.{Link}
use Rattle.samr_level.specs.RefOrders.{in_order}
use Rattle.samr_data.specs.Places.{one_cell}
use Rattle.samr_data.specs.Grids.{Grid}
use Rattle.samr_data.specs.Values.{listed}
use Rattle.samr_ops.specs.declared.rules.CoarsenRule.{CoarsenRule}
use Rattle.samr_ops.specs.Rules.{coarsened_value}
use Rattle.samr_data.specs.declared.parcel.Parcel.{Parcel}
use Rattle.samr_data.specs.ParcelOrder.{parcel_cmp}
use Rattle.samr_values.specs.declared.merging.Merge.{Merge}
use Rattle.samr_values.specs.Patches.{AreBased}
use Rattle.samr_values.specs.ValuesRow.{leads_to, parcel_of}
use Rattle.samr_values.specs.Coarsen.{IsRefinement}

-- the value of a coarse cell, from the fine values over it
abbrev pub merged_by : Merge → (IVec → ℕ) → IVec → ℕ
merged_by m v x = coarsened_value m.rule m.modulus (listed (refined (one_cell x) m.step) v)

-- the values of those cells of an edge's head that lie under its base
abbrev pub merged_along : Merge → (IVec → ℕ) → Link → Option Parcel
merged_along m v e = option_map (parcel_of e false m.field (merged_by m v)) (met (coarsened e.base.bx m.step) e.head.bx)

-- those for the heads that a rank owns, in order
unfoldable pub merged_to : List Merge → (ℕ → IVec → ℕ) → List Link → ℕ → List Parcel
merged_to merges v edges to =
    in_order parcel_cmp (flat_map (λ m. filter_map (λ e. merged_along m (v m.field) e) (filter (λ e. leads_to to e) edges)) merges)

-- how each field is merged
abbrev pub merge_of : IVec → ℕ × (CoarsenRule × ℕ) → Merge
merge_of step f = record { field = f.0; rule = f.1.0; modulus = f.1.1; step = step }

abbrev pub merges : IVec → List CoarsenRule → List ℕ → List Merge
merges step rules moduli = map (λ f. merge_of step f) (enumerate_from 0 (zip rules moduli))

-- how many fine cells lie along a coarse one
abbrev pub step_of : Pair → IVec
step_of p = coarse p.forth.base_ratio p.forth.head_ratio

-- each field has patches of the edges' bases, and these are refinements
pub record CanMerge (list : List Merge) (edges : List Link) (fine : List (List Grid)) : Type 0 where
  pub some : (m : Merge) → Member m list → 0 < m.modulus
  pub there : (m : Merge) → Member m list → m.field < length fine
  pub based : AreBased edges fine
  pub refinements : (m : Merge) (e : Link) → Member m list → Member e edges → IsRefinement m.step e.base.bx

-- all parcels that a rank has for itself or gets
abbrev pub parcels_with : List Parcel → List (Held (List Parcel)) → List Parcel
parcels_with own_parcels held = own_parcels ++ flat_map (λ letter. letter.body) held
