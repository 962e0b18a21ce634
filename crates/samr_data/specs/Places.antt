-- The cells of a box in row order: `i` fastest, then `j`, then `k`.
use Rattle.std.specs.Prelude.{◌≡◌, ℕ, ◌+◌, ◌*◌, ◌/◌, ◌%◌, pos, ◌+ℤ◌, ◌-ℤ◌, unsigned_abs, List, map}
use Rattle.std.specs.List.{range_with_len}
use Rattle.samr_box.specs.declared.vector.Axis.{Axis}
use Rattle.samr_box.specs.declared.vector.Axis.TheVariants.{I, J, K}
use Rattle.samr_box.specs.declared.vector.IVec.{IVec}
use Rattle.samr_box.specs.Vector.{at, put, minus}
use Rattle.samr_box.specs.Corners.{Corners, span, cells_of}

-- how many planes a cell lies above the lowest plane of a box
abbrev pub offset : Axis → Corners → IVec → ℕ
offset axis b x = unsigned_abs (at axis x -ℤ at axis b.lo)

-- column i of row j of plane k, where a plane has so many rows and a row so many columns
abbrev pub place_at : ℕ → ℕ → ℕ → ℕ → ℕ → ℕ
place_at k j i rows columns = (k * rows + j) * columns + i

-- the place of a cell
unfoldable pub place : Corners → IVec → ℕ
place b x = place_at (offset K b x) (offset J b x) (offset I b x) (span J b) (span I b)

-- the cell at a place
unfoldable pub cell_at : Corners → ℕ → IVec
cell_at b n = record {
  k = b.lo.k +ℤ pos (n / span I b / span J b);
  j = b.lo.j +ℤ pos (n / span I b % span J b);
  i = b.lo.i +ℤ pos (n % span I b);
}

-- all cells in this order
unfoldable pub cells_in : Corners → List IVec
cells_in b = map (cell_at b) (range_with_len 0 (cells_of b))

-- the plane of a box that lies so many planes above its lowest
abbrev pub slice : Axis → Corners → ℕ → Corners
slice axis b p = record { lo = put axis b.lo (at axis b.lo +ℤ pos p); hi = put axis b.hi (at axis b.lo +ℤ pos p) }

-- a row: a box of one plane on the axes k and j
abbrev pub IsRow : Corners → Type 0
IsRow b = (b.hi.k ≡ b.lo.k) × (b.hi.j ≡ b.lo.j)

-- the box of one cell
abbrev pub one_cell : IVec → Corners
one_cell x = record { lo = x; hi = x }

-- a box moved back by a step
abbrev pub moved_back : Corners → IVec → Corners
moved_back b by = record { lo = minus b.lo by; hi = minus b.hi by }
