-- The letters of a linear fill: those of a fill, with one cell about what was asked of the level below.
use Rattle.std.specs.Prelude.{ℕ, List, ◌++◌, map, filter, Option, nat_eq}
use Rattle.std.specs.List.{flat_map, filter_map, enumerate_from}
use Rattle.samr_level.specs.RefOrders.{in_order}
use Rattle.samr_level.specs.Levels.{own}
use Rattle.samr_peers.specs.Peers.{peer_row}
use Rattle.samr_sched.specs.Plans.{copies, requests}
use Rattle.samr_data.specs.declared.parcel.Parcel.{Parcel}
use Rattle.samr_data.specs.ParcelOrder.{parcel_cmp}
use Rattle.samr_fill.specs.FillRow.{copied_along, sends}
use Rattle.samr_linear.specs.Around.{answered_around}
use Rattle.samr_linear.specs.LinearFill.{LinearFilling}

-- what a rank has for another: what is copied of its boxes, and what was asked for
abbrev pub packed_for : LinearFilling → ℕ → ℕ → List Parcel
packed_for w from to =
    flat_map (λ b. flat_map (λ f. filter_map (λ e. copied_along w.filling f.0 f.1 e) (filter (λ e. nat_eq e.head.owner to) (copies w.filling.schedule f.1 b)))
    (enumerate_from 0 w.filling.schedule.ghosts)) (own from w.filling.schedule.level)
    ++ map (λ q. answered_around w.filling w.stencil w.below q) (requests w.filling.schedule to from)

-- and sends to it, in the order of parcels
unfoldable pub linear_parcels : LinearFilling → ℕ → ℕ → List Parcel
linear_parcels w from to = in_order parcel_cmp (packed_for w from to)

unfoldable pub linear_row : LinearFilling → ℕ → ℕ → Option (List Parcel)
linear_row w = peer_row w.filling.schedule.ranks (sends w.filling) (linear_parcels w)
