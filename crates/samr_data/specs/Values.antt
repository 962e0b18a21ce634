-- The values of the cells of a box as a list in row order.
use Rattle.std.specs.Prelude.{◌≡◌, ℕ, ◌+◌, ◌<◌, ◌^◌, Bool, cond, List, ◌++◌, map, length, take, drop, slice_index, IsTrue}
use Rattle.samr_box.specs.declared.vector.IVec.{IVec}
use Rattle.samr_box.specs.Vector.{minus}
use Rattle.samr_box.specs.Corners.{Corners, cells_of, holds_box}
use Rattle.samr_data.specs.Places.{place, cells_in, moved_back}

-- the value of a cell
abbrev pub value_in : Corners → List ℕ → IVec → ℕ
value_in b values x = slice_index values (place b x)

-- the list of these values
abbrev pub listed : Corners → (IVec → ℕ) → List ℕ
listed b f = map f (cells_in b)

-- new values where a test holds, the old ones elsewhere
abbrev pub changed_in : Corners → List ℕ → (IVec → Bool) → (IVec → ℕ) → IVec → ℕ
changed_in b old test f = λ x. cond (test x) (f x) (value_in b old x)

-- the values of a box, moved by a step
abbrev pub moved_from : Corners → List ℕ → IVec → IVec → ℕ
moved_from b values by = λ x. value_in b values (minus x by)

-- a list with so many values of another, from a start on, written at a place
abbrev pub pasted : List ℕ → ℕ → List ℕ → ℕ → ℕ → List ℕ
pasted to first from start count = take first to ++ (take count (drop start from) ++ drop (first + count) to)

-- a region lies in one box and, moved back, in another, and both have a value for each cell
pub record CanCopy (to : List ℕ) (at : Corners) (from : List ℕ) (source region : Corners) (by : IVec) : Type 0 where
  pub full : length to ≡ cells_of at
  pub few : cells_of at < 2 ^ 62
  pub into : IsTrue (holds_box at region)
  pub source_full : length from ≡ cells_of source
  pub source_few : cells_of source < 2 ^ 62
  pub out : IsTrue (holds_box source (moved_back region by))
