-- The order of parcels: by the box that they are for, and then by field.
use Rattle.std.specs.Prelude.{ℕ, List}
use Rattle.std.specs.List.Sorted.{IsSortedByKey}
use Rattle.std.specs.Ordering.{nat_cmp, ordering_then}
use Rattle.std.specs.declared.cmp.Ordering.{Ordering}
use Rattle.samr_level.specs.Refs.{Owned}
use Rattle.samr_level.specs.RefOrders.{ref_cmp}
use Rattle.samr_data.specs.declared.parcel.Parcel.{Parcel}

-- what a parcel is for
abbrev pub key_of : Parcel → Owned × ℕ
key_of p = (p.edge.head, p.field)

abbrev pub key_cmp : Owned × ℕ → Owned × ℕ → Ordering
key_cmp a b = ordering_then (ref_cmp a.0 b.0) (nat_cmp a.1 b.1)

-- where a parcel stands to those for a box and a field
abbrev pub order_to : Owned → ℕ → Parcel → Ordering
order_to base field p = ordering_then (ref_cmp p.edge.head base) (nat_cmp p.field field)

unfoldable pub AreInOrder : List Parcel → Type 0
AreInOrder all = IsSortedByKey key_of key_cmp all
