-- A patch: a box, a width of ghost cells, and a value for each cell of the box grown by the width.
use Rattle.std.specs.Prelude.{◌≡◌, ℕ, ◌<◌, ◌^◌, pos, List, length}
use Rattle.samr_box.specs.declared.vector.IVec.{IVec}
use Rattle.samr_box.specs.Vector.{alike, AtMost}
use Rattle.samr_box.specs.Corners.{Corners, IsBox, cells_of, grown, holds}
use Rattle.samr_data.specs.Values.{value_in, listed, changed_in, moved_from}

pub record Grid : Type 0 where
  pub bx : Corners
  pub width : IVec
  pub values : List ℕ

-- the box with its ghost cells
abbrev pub over : Grid → Corners
over p = grown p.bx p.width

pub record IsGrid (p : Grid) : Type 0 where
  pub positive : AtMost (alike (pos 0)) p.width
  pub whole : IsBox (over p)
  pub full : length p.values ≡ cells_of (over p)
  pub few : cells_of (over p) < 2 ^ 62

-- the value of a cell
abbrev pub value_at : Grid → IVec → ℕ
value_at p x = value_in (over p) p.values x

-- the patch of a box and a width with these values, and the same patch with other values
abbrev pub grid_of : Corners → IVec → (IVec → ℕ) → Grid
grid_of b w f = record { bx = b; width = w; values = listed (grown b w) f }

abbrev pub written : Grid → (IVec → ℕ) → Grid
written p f = grid_of p.bx p.width f

-- new values in a region, the old ones elsewhere
abbrev pub copied : Grid → Corners → (IVec → ℕ) → IVec → ℕ
copied p region f = changed_in (over p) p.values (holds region) f

-- the values of a patch, moved by a step
abbrev pub moved_values : Grid → IVec → IVec → ℕ
moved_values p by = moved_from (over p) p.values by

-- the values of a region, in row order
abbrev pub packed : Grid → Corners → List ℕ
packed p region = listed region (value_at p)
