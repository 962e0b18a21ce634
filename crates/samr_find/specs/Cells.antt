-- The cells of a box as a list.
use Rattle.std.specs.Prelude.{ℕ, pos, List, map}
use Rattle.std.specs.List.{flat_map, range_with_len}
use Rattle.samr_box.specs.declared.vector.Axis.TheVariants.{I, J, K}
use Rattle.samr_box.specs.declared.vector.IVec.{IVec}
use Rattle.samr_box.specs.Vector.{plus}
use Rattle.samr_box.specs.Corners.{Corners, span}

-- the cell so many planes above the lower corner
abbrev pub cell_at : Corners → ℕ → ℕ → ℕ → IVec
cell_at b x y z = plus b.lo (record { k = pos z; j = pos y; i = pos x })

unfoldable pub row : Corners → ℕ → ℕ → List IVec
row b y z = map (λ x. cell_at b x y z) (range_with_len 0 (span I b))

unfoldable pub plane : Corners → ℕ → List IVec
plane b z = flat_map (λ y. row b y z) (range_with_len 0 (span J b))

-- the cells, `i` fastest, then `j`, then `k`
unfoldable pub cells_in : Corners → List IVec
cells_in b = flat_map (λ z. plane b z) (range_with_len 0 (span K b))
