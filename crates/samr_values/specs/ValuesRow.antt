-- The letters of the stage `Values`: what the ranks of old boxes send to those of new ones.
use Rattle.std.specs.Prelude.{ℕ, Bool, true, false, ◌&&◌, nat_eq, List, ◌++◌, length, filter, Option}
use Rattle.std.specs.List.{flat_map, filter_map, range_with_len}
use Rattle.std.specs.Option.{option_map}
use Rattle.samr_box.specs.declared.vector.IVec.{IVec}
use Rattle.samr_box.specs.Corners.{Corners, met}
use Rattle.samr_box.specs.Ratios.{coarsened}
use Rattle.samr_box.specs.Space.{is_zero}
use Rattle.samr_level.specs.Refs.{Link}
use Rattle.samr_level.specs.RefOrders.{in_order}
use Rattle.samr_data.specs.Values.{listed}
use Rattle.samr_peers.specs.Peers.{peer_row}
use Rattle.samr_data.specs.declared.parcel.Parcel.{Parcel}
use Rattle.samr_data.specs.ParcelOrder.{parcel_cmp}
use Rattle.samr_values.specs.Values.{Renewing, old_ups, coarse_ups, to_olds, downs}

-- the values of those cells of an edge's base that lie in its head, or under it; the domain has no cell of an image at another shift than 0
abbrev pub leads_to : ℕ → Link → Bool
leads_to rank e = nat_eq e.head.owner rank && is_zero e.shift

abbrev pub parcel_of : Link → Bool → ℕ → (IVec → ℕ) → Corners → Parcel
parcel_of e coarse field values region = record { edge = e; is_coarse = coarse; field = field; region = region; values = listed region values }

abbrev pub old_parcel : ℕ → (IVec → ℕ) → Link → Option Parcel
old_parcel f values e = option_map (parcel_of e false f values) (met e.base.bx e.head.bx)

abbrev pub coarse_parcel : ℕ → IVec → (IVec → ℕ) → Link → Option Parcel
coarse_parcel f step values e = option_map (parcel_of e true f values) (met e.base.bx (coarsened e.head.bx step))

-- of a field, along edges of old boxes and of boxes of the level below
abbrev pub field_parcels : ℕ → IVec → (IVec → ℕ) → (IVec → ℕ) → List Link → List Link → List Parcel
field_parcels f step values coarse_values olds coarser =
    filter_map (λ e. old_parcel f values e) olds ++ filter_map (λ e. coarse_parcel f step coarse_values e) coarser

-- for a rank, of each field along edges from old boxes and from boxes of the level below
abbrev pub packed_by : IVec → (ℕ → IVec → ℕ) → (ℕ → IVec → ℕ) → List Link → List Link → ℕ → ℕ → List Parcel
packed_by step values coarse_values olds coarser fields to =
    flat_map (λ f. field_parcels f step (values f) (coarse_values f) (filter (λ e. leads_to to e) olds) (filter (λ e. leads_to to e) coarser)) (range_with_len 0 fields)

-- the same in order: by edge, then those of old boxes before those of the level below, and then by field
abbrev pub parcels_by : IVec → (ℕ → IVec → ℕ) → (ℕ → IVec → ℕ) → List Link → List Link → ℕ → ℕ → List Parcel
parcels_by step values coarse_values olds coarser fields to = in_order parcel_cmp (packed_by step values coarse_values olds coarser fields to)

-- what a rank sends to another: the values of its old boxes, and those of its boxes of the level below
unfoldable pub parcels : Renewing → ℕ → ℕ → List Parcel
parcels w from to = parcels_by w.step w.values w.coarse_values (old_ups w from) (coarse_ups w from) (length w.rules) to

-- to each other owner of a head of its edges to the new level, also where it has nothing for it
abbrev pub sends : Renewing → ℕ → List Link
sends w r = old_ups w r ++ coarse_ups w r

abbrev pub hears : Renewing → ℕ → List Link
hears w r = to_olds w r ++ downs w r

unfoldable pub values_row : Renewing → ℕ → ℕ → Option (List Parcel)
values_row w = peer_row w.ranks (sends w) (parcels w)
