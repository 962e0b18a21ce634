-- Pieces of the boxes of a list, and lists of them in corner order.
use Rattle.std.specs.Prelude.{ℕ, ◌+◌, cond, List, [], ◌∷◌, filter}
use Rattle.std.specs.Ordering.{ordering_then, is_eq, is_le}
use Rattle.std.specs.declared.cmp.Ordering.{Ordering}
use Rattle.samr_box.specs.Corners.{Corners, cells_of}
use Rattle.samr_box.specs.Orders.{corner_cmp}
use Rattle.samr_level.specs.Refs.{Owned}
use Rattle.samr_level.specs.RefOrders.{ref_cmp}

-- a piece, and the box that it was cut from
pub record Placed : Type 0 where
  pub bx : Corners
  pub origin : Owned

-- a box as its own only piece
abbrev pub whole : Owned → Placed
whole o = record { bx = o.bx; origin = o }

-- in corner order, then by the origins in level order
abbrev pub piece_cmp : Placed → Placed → Ordering
piece_cmp p q = ordering_then (corner_cmp p.bx q.bx) (ref_cmp p.origin q.origin)

-- the sum of a number of each piece
abbrev pub total : (Placed → ℕ) → List Placed → ℕ
total m [] = 0
total m (q ∷ qs) = m q + total m qs

-- the number of cells
abbrev pub size_of : Placed → ℕ
size_of q = cells_of q.bx

abbrev pub load : List Placed → ℕ
load list = total size_of list

-- the pieces of one box
abbrev pub of_origin : Owned → List Placed → List Placed
of_origin o list = filter (λ q. is_eq (ref_cmp q.origin o)) list

-- a list in ascending order
abbrev pub put_in : {X : Type 0} → (X → X → Ordering) → X → List X → List X
put_in cmp x [] = x ∷ []
put_in cmp x (y ∷ ys) = cond (is_le (cmp x y)) (x ∷ y ∷ ys) (y ∷ put_in cmp x ys)

unfoldable pub sorted : {X : Type 0} → (X → X → Ordering) → List X → List X
sorted cmp [] = []
sorted cmp (x ∷ xs) = put_in cmp x (sorted cmp xs)
