-- The letters of a bridge: the rank of a centre box tells what it finds to the owners of the boxes found.
use Rattle.std.specs.Prelude.{ℕ, Bool, ◌&&◌, ◌||◌, not, nat_eq, nat_lt, List, ◌++◌, map, filter, Option, Some, None, if◌then◌else◌}
use Rattle.std.specs.List.{list_any}
use Rattle.std.specs.Ordering.{nat_cmp}
use Rattle.samr_level.specs.Refs.{Link}
use Rattle.samr_level.specs.RefOrders.{in_order}
use Rattle.samr_bridge.specs.Bridge.{Bridging}
use Rattle.samr_bridge.specs.Found.{east_pair, west_pair, found}

-- a rank's edges from the centre to east and west, and those back
abbrev pub from_centre : Bridging → ℕ → List Link
from_centre w rank = (east_pair w rank).back.edges ++ (west_pair w rank).forth.edges

abbrev pub to_centre : Bridging → ℕ → List Link
to_centre w rank = (east_pair w rank).forth.edges ++ (west_pair w rank).back.edges

-- whether a rank owns the head of an edge, and the other ranks that do, ascending, each once
abbrev pub owns_head : ℕ → List Link → Bool
owns_head rank edges = list_any (λ e. nat_eq e.head.owner rank) edges

unfoldable pub other_owners : ℕ → List Link → List ℕ
other_owners rank edges = in_order nat_cmp (filter (λ r. not (nat_eq r rank)) (map (λ e. e.head.owner) edges))

-- the edges of which a rank owns the base or the head
unfoldable pub about : ℕ → List Link → List Link
about rank edges = filter (λ e. nat_eq e.base.owner rank || nat_eq e.head.owner rank) edges

-- a rank tells each other owner of a head of its edges from the centre what it found about it, also where that is nothing
unfoldable pub bridge_row : Bridging → ℕ → ℕ → Option (List Link)
bridge_row w from to =
    if (nat_lt from w.ranks && (nat_lt to w.ranks && (not (nat_eq to from) && owns_head to (from_centre w from)))) then Some (about to (found w from)) else None
