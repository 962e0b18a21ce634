-- The letters of the stage `Coarsen`: what the ranks of fine boxes send to those of the boxes under them.
use Rattle.std.specs.Prelude.{ℕ, false, List, filter, Option}
use Rattle.std.specs.List.{flat_map, filter_map}
use Rattle.std.specs.Option.{option_map}
use Rattle.samr_box.specs.Corners.{met}
use Rattle.samr_box.specs.Ratios.{coarsened}
use Rattle.samr_level.specs.Refs.{Link}
use Rattle.samr_level.specs.RefOrders.{in_order}
use Rattle.samr_ops.specs.declared.rules.CoarsenRule.{CoarsenRule}
use Rattle.samr_peers.specs.Peers.{peer_row}
use Rattle.samr_data.specs.declared.parcel.Parcel.{Parcel}
use Rattle.samr_data.specs.ParcelOrder.{parcel_cmp}
use Rattle.samr_values.specs.ValuesRow.{leads_to, parcel_of}
use Rattle.samr_values.specs.Coarsen.{Coarsening, fields, merged, downs}

-- the merged values of those cells of an edge's head that lie under its base
abbrev pub merged_parcel : Coarsening → ℕ × (CoarsenRule × ℕ) → Link → Option Parcel
merged_parcel w f e = option_map (parcel_of e false f.0 (merged w f)) (met (coarsened e.base.bx w.step) e.head.bx)

-- what a rank has for another
abbrev pub all_merged : Coarsening → ℕ → ℕ → List Parcel
all_merged w from to =
    flat_map (λ f. filter_map (λ e. merged_parcel w f e) (filter (λ e. leads_to to e) (downs w from))) (fields w)

-- and sends to it: by edge, and then by field
unfoldable pub coarse_parcels : Coarsening → ℕ → ℕ → List Parcel
coarse_parcels w from to = in_order parcel_cmp (all_merged w from to)

unfoldable pub coarsen_row : Coarsening → ℕ → ℕ → Option (List Parcel)
coarsen_row w = peer_row w.ranks (downs w) (coarse_parcels w)
