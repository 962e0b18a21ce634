-- Patches cell by cell.
use Rattle.std.specs.Prelude.{◌≡◌, ℕ, false}
use Rattle.samr_box.specs.declared.vector.IVec.{IVec}
use Rattle.samr_box.specs.Corners.{Corners, Holds, holds, grown}
use Rattle.samr_data.specs.Grids.{Grid, IsGrid, over, value_at, grid_of, written, copied}

-- a patch made from a function has its value at each cell
abbrev pub HasItsValues : Type 0
HasItsValues = (b : Corners) (w : IVec) (f : IVec → ℕ) (x : IVec) → Holds (grown b w) x → value_at (grid_of b w f) x ≡ f x

-- after values were copied into a region, its cells have them
abbrev pub CopiesRegion : Type 0
CopiesRegion = (p : Grid) (region : Corners) (f : IVec → ℕ) (x : IVec) → Holds (over p) x → Holds region x → value_at (written p (copied p region f)) x ≡ f x

-- and all other cells have their old ones
abbrev pub KeepsOthers : Type 0
KeepsOthers = (p : Grid) (region : Corners) (f : IVec → ℕ) (x : IVec) → Holds (over p) x → holds region x ≡ false → value_at (written p (copied p region f)) x ≡ value_at p x

-- a patch is determined by the values of its cells
abbrev pub IsItsValues : Type 0
IsItsValues = (p : Grid) (f : IVec → ℕ) → IsGrid p → ((x : IVec) → Holds (over p) x → value_at p x ≡ f x) → p ≡ written p f
