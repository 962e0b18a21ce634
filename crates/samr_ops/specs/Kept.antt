-- What closures have to keep so that they are the operators of a field's rules. Each is known by when it may be called and by what it may give.
use Rattle.std.specs.Prelude.{◌≡◌, ℕ, ◌*◌, ◌<◌, ℤ, pos, ◌≤ℤ◌}
use Rattle.samr_box.specs.declared.vector.Axis.{Axis}
use Rattle.samr_box.specs.declared.vector.IVec.{IVec}
use Rattle.samr_box.specs.Vector.{at}
use Rattle.samr_ops.specs.declared.rules.Edgewise.{Edgewise}
use Rattle.samr_ops.specs.declared.rules.Rules.{Rules}
use Rattle.samr_ops.specs.Rules.{IsOffset, refined_value, edge_of, updated_value}

-- for each value below the modulus and each offset, the refined value
pub record KeepsRefine (r : Rules) (pre : ℕ → IVec → Type 0) (post : ℕ → IVec → ℕ → Type 0) : Type 0 where
  pub can : (v : ℕ) (o : IVec) → v < r.modulus → IsOffset o → pre v o
  pub gives : (v : ℕ) (o : IVec) (y : ℕ) → v < r.modulus → IsOffset o → post v o y → y ≡ refined_value r v o

-- for each depth from 1 to the width, what the boundary says
pub record KeepsBoundary (r : Rules) (pre : Axis → ℤ → Type 0) (post : Axis → ℤ → Edgewise → Type 0) : Type 0 where
  pub can : (axis : Axis) (depth : ℤ) → pos 1 ≤ℤ depth → depth ≤ℤ at axis r.width → pre axis depth
  pub gives : (axis : Axis) (depth : ℤ) (y : Edgewise) → pos 1 ≤ℤ depth → depth ≤ℤ at axis r.width → post axis depth y → y ≡ edge_of r axis depth

-- for each value below the modulus and each sum of six such values, the value after a step
pub record KeepsUpdate (r : Rules) (pre : ℕ → ℕ → Type 0) (post : ℕ → ℕ → ℕ → Type 0) : Type 0 where
  pub can : (v neighbours : ℕ) → v < r.modulus → neighbours < 6 * r.modulus → pre v neighbours
  pub gives : (v neighbours y : ℕ) → v < r.modulus → neighbours < 6 * r.modulus → post v neighbours y → y ≡ updated_value r v neighbours
