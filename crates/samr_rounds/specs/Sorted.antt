-- Lists in ascending order, in which members of one place stand as they stood before; boxes in corner order.
use Rattle.std.specs.Prelude.{Bool, cond, List, [], ◌∷◌}
use Rattle.std.specs.Ordering.{is_lt}
use Rattle.samr_box.specs.Corners.{Corners}
use Rattle.samr_box.specs.Orders.{corner_cmp}

-- a member put into an ascending list, behind those that are less
abbrev pub put_in : {X : Type 0} → (X → X → Bool) → X → List X → List X
put_in less x [] = x ∷ []
put_in less x (y ∷ ys) = cond (less y x) (y ∷ put_in less x ys) (x ∷ y ∷ ys)

unfoldable pub sorted : {X : Type 0} → (X → X → Bool) → List X → List X
sorted less [] = []
sorted less (x ∷ xs) = put_in less x (sorted less xs)

-- corner order of boxes
abbrev pub corner_less : Corners → Corners → Bool
corner_less a b = is_lt (corner_cmp a b)
