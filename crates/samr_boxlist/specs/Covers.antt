-- Lists of boxes as sets of cells.
use Rattle.std.specs.Prelude.{ℕ, ◌≤◌, Bool, IsTrue, List, count_by}
use Rattle.std.specs.List.{list_any, AllPairs}
use Rattle.samr_box.specs.declared.vector.IVec.{IVec}
use Rattle.samr_box.specs.Vector.{Within}
use Rattle.samr_box.specs.Corners.{Corners, holds, Meet}

-- a member has the cell
abbrev pub held : IVec → List Corners → Bool
held x list = list_any (λ b. holds b x) list

-- in how many members the cell lies
abbrev pub cover : IVec → List Corners → ℕ
cover x list = count_by (λ b. holds b x) list

-- a cell of a member is within the width
abbrev pub IsNear : IVec → IVec → List Corners → Type 0
IsNear w x list = (y : IVec) × IsTrue (held y list) × Within w y x

-- no cell lies in two members
abbrev pub IsDisjoint : List Corners → Type 0
IsDisjoint list = (x : IVec) → cover x list ≤ 1

-- no two members meet
abbrev pub NoneMeet : List Corners → Type 0
NoneMeet list = AllPairs (λ a b. ¬ Meet a b) list
