-- The order of parcels.
use Rattle.std.specs.Cmp.Lexicographic.{slice_cmp}
use Rattle.std.specs.Ordering.{nat_cmp, bool_cmp, ordering_then}
use Rattle.std.specs.declared.cmp.Ordering.{Ordering}
use Rattle.samr_box.specs.Orders.{corner_cmp}
use Rattle.samr_level.specs.RefOrders.{edge_cmp}
use Rattle.samr_data.specs.declared.parcel.Parcel.{Parcel}

-- by edge, then those of the level's own boxes before those of the level below, then by field, then by region in corner order, then by values
abbrev pub parcel_cmp : Parcel → Parcel → Ordering
parcel_cmp p q =
    ordering_then (edge_cmp p.edge q.edge)
    (ordering_then (bool_cmp p.is_coarse q.is_coarse)
    (ordering_then (nat_cmp p.field q.field) (ordering_then (corner_cmp p.region q.region) (slice_cmp nat_cmp p.values q.values))))
