-- Level order and edge order, and lists in order.
use Rattle.std.specs.Prelude.{List, [], ◌∷◌}
use Rattle.std.specs.Ordering.{nat_cmp, ordering_then}
use Rattle.std.specs.declared.cmp.Ordering.{Ordering}
use Rattle.std.specs.declared.cmp.Ordering.TheVariants.{Less, Equal, Greater}
use Rattle.samr_box.specs.Orders.{cell_cmp, corner_cmp}
use Rattle.samr_level.specs.Refs.{Owned, Link}

-- level order: by owner, then in corner order
abbrev pub ref_cmp : Owned → Owned → Ordering
ref_cmp a b = ordering_then (nat_cmp a.owner b.owner) (corner_cmp a.bx b.bx)

-- edge order: by base, then by head, then in shift order
abbrev pub edge_cmp : Link → Link → Ordering
edge_cmp a b = ordering_then (ref_cmp a.base b.base) (ordering_then (ref_cmp a.head b.head) (cell_cmp a.shift b.shift))

-- a member put into an ascending list, unless it is there
abbrev pub placed : {X : Type 0} → Ordering → X → X → List X → List X → List X
placed Less x y ys more = x ∷ y ∷ ys
placed Equal x y ys more = y ∷ ys
placed Greater x y ys more = y ∷ more

unfoldable pub inserted : {X : Type 0} → (X → X → Ordering) → X → List X → List X
inserted cmp x [] = x ∷ []
inserted cmp x (y ∷ ys) = placed (cmp x y) x y ys (inserted cmp x ys)

-- the members of a list in ascending order, each once
unfoldable pub in_order : {X : Type 0} → (X → X → Ordering) → List X → List X
in_order cmp [] = []
in_order cmp (x ∷ xs) = inserted cmp x (in_order cmp xs)
