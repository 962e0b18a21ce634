-- The update of patches: each cell of a box gets a new value from its own and from those of the cells at its faces.
use Rattle.std.specs.Prelude.{◌≡◌, ◌⊎◌, ℕ, ◌<◌, ◌==◌, pos, ◌+ℤ◌, ◌-ℤ◌, sum, List, [], ◌∷◌, map, zip, length, slice_get, Some, if◌then◌else◌}
use Rattle.std.specs.List.{flat_map}
use Rattle.samr_box.specs.declared.vector.Axis.{Axis}
use Rattle.samr_box.specs.declared.vector.Axis.TheVariants.{I, J, K}
use Rattle.samr_box.specs.declared.vector.IVec.{IVec}
use Rattle.samr_box.specs.Vector.{at, put}
use Rattle.samr_box.specs.Corners.{Holds, holds}
use Rattle.samr_box.specs.Lists.{Member}
use Rattle.samr_data.specs.Grids.{Grid, over, value_at, written}
use Rattle.samr_ops.specs.declared.rules.Rules.{Rules}
use Rattle.samr_ops.specs.Rules.{updated_value}

-- the cells at the faces of a cell, on the real axes
abbrev pub real_axes : ℕ → List Axis
real_axes dim = if dim == 2 then I ∷ J ∷ [] else I ∷ J ∷ K ∷ []

abbrev pub faces : ℕ → IVec → List IVec
faces dim x = flat_map (λ axis. put axis x (at axis x -ℤ pos 1) ∷ put axis x (at axis x +ℤ pos 1) ∷ []) (real_axes dim)

-- the cells of a patch's box get new values, all from those before; the others keep theirs
abbrev pub updated_at : ℕ → Rules → Grid → Grid
updated_at dim r g = written g (λ x. (if holds g.bx x then updated_value r (value_at g x) (sum (map (λ y. value_at g y) (faces dim x))) else value_at g x))

abbrev pub updated_patches : ℕ → List Rules → List (List Grid) → List (List Grid)
updated_patches dim rules patches = map (λ e. map (λ g. updated_at dim e.0 g) e.1) (zip rules patches)

-- a cell of a patch can be updated: its value is below the modulus, and so are those of the cells at its faces, which lie in the patch, where they count
pub record CanUpdate (dim : ℕ) (r : Rules) (p : Grid) (x : IVec) : Type 0 where
  pub here : Holds (over p) x
  pub fits : value_at p x < r.modulus
  pub about : (r.face ≡ 0) ⊎ ((y : IVec) → Member y (faces dim x) → Holds (over p) y × (value_at p y < r.modulus))

-- so can each cell of the boxes of some patches, and of those of each field
abbrev pub CanUpdatePatch : ℕ → Rules → Grid → Type 0
CanUpdatePatch dim r p = (x : IVec) → Holds p.bx x → CanUpdate dim r p x

abbrev pub CanUpdateField : ℕ → Rules → List Grid → Type 0
CanUpdateField dim r patches = (p : Grid) → Member p patches → CanUpdatePatch dim r p

pub record CanUpdateAll (dim : ℕ) (rules : List Rules) (patches : List (List Grid)) : Type 0 where
  pub same : length patches ≡ length rules
  pub each : (f : ℕ) (r : Rules) (field : List Grid) → slice_get rules f ≡ Some r → slice_get patches f ≡ Some field → CanUpdateField dim r field
