-- The letters home: each rank tells the owners of boxes which pieces of these it has.
use Rattle.std.specs.Prelude.{ℕ, ◌&&◌, not, List, map, sum_by, filter, nat_eq, nat_lt, Option, Some, None, if◌then◌else◌}
use Rattle.std.specs.Ordering.{ordering_then, is_eq}
use Rattle.std.specs.declared.cmp.Ordering.{Ordering}
use Rattle.samr_box.specs.Corners.{Corners, cells_of}
use Rattle.samr_box.specs.Orders.{corner_cmp}
use Rattle.samr_level.specs.Refs.{Owned}
use Rattle.samr_load.specs.Pieces.{Placed, size_of, sorted, of_origin}
use Rattle.samr_load.specs.Balanced.{owned_by}
use Rattle.samr_balance.specs.Home.{Homes, pieces_in}

-- a piece as its owner tells of it: the box that it was cut from, and its own
pub record Cutting : Type 0 where
  pub origin : Corners
  pub bx : Corners

abbrev pub cutting_of : Placed → Cutting
cutting_of q = record { origin = q.origin.bx; bx = q.bx }

abbrev pub cutting_cmp : Cutting → Cutting → Ordering
cutting_cmp a b = ordering_then (corner_cmp a.origin b.origin) (corner_cmp a.bx b.bx)

-- the pieces of boxes that a rank owns, and how they are told, in order
unfoldable pub of_owner : ℕ → List Placed → List Placed
of_owner rank pieces = filter (λ q. nat_eq q.origin.owner rank) pieces

unfoldable pub told_of : ℕ → List Placed → List Cutting
told_of rank pieces = sorted cutting_cmp (map cutting_of (of_owner rank pieces))

-- the number of cells of a piece, if it is of a box that a rank owns
abbrev pub size_for : ℕ → Placed → ℕ
size_for rank q = if nat_eq q.origin.owner rank then size_of q else 0

-- a letter weighs the cells of its pieces
unfoldable pub weight : List Cutting → ℕ
weight cuttings = sum_by (λ c. cells_of c.bx) cuttings

-- a rank with these pieces tells another one of those of its boxes, if they have any cells
unfoldable pub line_of : List Placed → ℕ → ℕ → Option (List Cutting)
line_of pieces from to =
    if (not (nat_eq from to) && nat_lt 0 (weight (told_of to pieces))) then Some (told_of to pieces) else None

unfoldable pub home_row : Homes → ℕ → ℕ → Option (List Cutting)
home_row w from to = if (nat_lt from w.ranks && nat_lt to w.ranks) then line_of (pieces_in w from) from to else None

-- the pieces of a box among those that a rank tells of, and among those that it has
unfoldable pub told_on : Owned → ℕ → List Cutting → List Owned
told_on old rank cuttings =
    map (λ c. record { owner = rank; bx = c.bx }) (filter (λ c. is_eq (corner_cmp c.origin old.bx)) cuttings)

unfoldable pub kept_on : Owned → ℕ → List Placed → List Owned
kept_on old rank pieces = map (owned_by rank) (of_origin old pieces)
