-- First values, from which a cell, its field and its level can be told, and the patches that have them.
use Rattle.std.specs.Prelude.{ℕ, ◌+◌, ◌*◌, ◌%◌, ◌<◌, ◌^◌, pos, cond, unsigned_abs, List, map}
use Rattle.std.specs.List.{All, enumerate_from, range_with_len}
use Rattle.samr_box.specs.declared.vector.IVec.{IVec}
use Rattle.samr_box.specs.Vector.{alike, AtMost}
use Rattle.samr_box.specs.Corners.{Corners, IsBox, holds, grown, cells_of}
use Rattle.samr_level.specs.Refs.{Owned}
use Rattle.samr_level.specs.Levels.{own}
use Rattle.samr_data.specs.Grids.{Grid, grid_of}

-- the first value of a cell of a field, below a bound, on a level that counts from a start
unfoldable pub first_value : ℕ → ℕ → ℕ → IVec → ℕ
first_value bound start field x = (start + 7 * field + unsigned_abs x.i + 20 * unsigned_abs x.j + 400 * unsigned_abs x.k) % bound

-- the patch of a box, with zeros in the ghost cells
abbrev pub first_patch : ℕ → ℕ → ℕ → IVec → Corners → Grid
first_patch bound start field width b = grid_of b width (λ x. cond (holds b x) (first_value bound start field x) 0)

-- the patches of a field on some boxes, and of all fields, by the widths of their ghost cells
abbrev pub first_field : ℕ → ℕ → List Owned → ℕ × IVec → List Grid
first_field bound start boxes f = map (λ b. first_patch bound start f.0 f.1 b.bx) boxes

unfoldable pub first_fields : ℕ → ℕ → List IVec → List Owned → List (List Grid)
first_fields bound start widths boxes = map (first_field bound start boxes) (enumerate_from 0 widths)

-- those of all ranks, in order of rank
abbrev pub all_first : ℕ → ℕ → List IVec → List Owned → ℕ → List (List (List Grid))
all_first bound start widths level ranks = map (λ rank. first_fields bound start widths (own rank level)) (range_with_len 0 ranks)

-- there is room for a box with its ghost cells
abbrev pub HasRoom : IVec → Owned → Type 0
HasRoom width b = IsBox (grown b.bx width) × (cells_of (grown b.bx width) < 2 ^ 62)

-- there is room for each box of a level with ghost cells of a width
pub record HasRooms (level : List Owned) (width : IVec) : Type 0 where
  pub positive : AtMost (alike (pos 0)) width
  pub rooms : All (HasRoom width) level
