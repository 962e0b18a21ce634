-- The walk of a cell that lies beyond physical borders: axis by axis, i, then j, then k, until a fixed value or a cell is left.
use Rattle.std.specs.Prelude.{◌≡◌, ℕ, ℤ, pos, ◌+ℤ◌, ◌-ℤ◌, ◌≤ℤ◌, int_lt, true, cond, Result, Ok, Err}
use Rattle.samr_box.specs.declared.vector.Axis.{Axis}
use Rattle.samr_box.specs.declared.vector.Axis.TheVariants.{I, J, K}
use Rattle.samr_box.specs.declared.vector.IVec.{IVec}
use Rattle.samr_box.specs.Vector.{at, put}
use Rattle.samr_box.specs.Space.{Space, leaves}
use Rattle.samr_ops.specs.declared.rules.Edgewise.{Edgewise}
use Rattle.samr_ops.specs.declared.rules.Edgewise.TheVariants.{Value, Depth}
use Rattle.samr_ops.specs.declared.rules.Rules.{Rules}
use Rattle.samr_ops.specs.Rules.{edge_of}

-- how far beyond the border a cell lies
abbrev pub depth : Axis → Space → IVec → ℤ
depth axis d x = cond (int_lt (at axis x) (pos 0)) (pos 0 -ℤ at axis x) ((at axis x -ℤ at axis d.size) +ℤ pos 1)

-- the cell moved to a depth inside that border
abbrev pub moved_in : Axis → Space → IVec → ℤ → IVec
moved_in axis d x inside = put axis x (cond (int_lt (at axis x) (pos 0)) (inside -ℤ pos 1) (at axis d.size -ℤ inside))

-- the fixed value, or the moved cell
abbrev pub answered : Axis → Space → IVec → Edgewise → Result IVec ℕ
answered axis d x (Value v) = Err v
answered axis d x (Depth inside) = Ok (moved_in axis d x inside)

-- one axis
abbrev pub stepped : Rules → Space → Axis → IVec → Result IVec ℕ
stepped r d axis x = cond (leaves axis d x) (answered axis d x (edge_of r axis (depth axis d x))) (Ok x)

-- the next axis, where a cell is left
abbrev pub onward : Result IVec ℕ → (IVec → Result IVec ℕ) → Result IVec ℕ
onward (Err v) next = Err v
onward (Ok x) next = next x

abbrev pub walked : Rules → Space → IVec → Result IVec ℕ
walked r d x = onward (stepped r d I x) (λ y. onward (stepped r d J y) (λ z. stepped r d K z))

-- where the cell lies beyond a border of an axis, it does by at most the width
abbrev pub IsNearOn : Rules → Space → Axis → IVec → Type 0
IsNearOn r d axis x = leaves axis d x ≡ true → depth axis d x ≤ℤ at axis r.width

abbrev pub IsNear : Rules → Space → IVec → Type 0
IsNear r d x = (axis : Axis) → IsNearOn r d axis x

-- a boundary's answer is a value, or a depth inside of at least 1 and at most the depth outside
abbrev pub IsInside : ℤ → Edgewise → Type 0
IsInside depth (Value v) = Unit {0}
IsInside depth (Depth inside) = (pos 1 ≤ℤ inside) × (inside ≤ℤ depth)
