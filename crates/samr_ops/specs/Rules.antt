-- The rules of a field: what its operators give.
use Rattle.std.specs.Prelude.{ℕ, ◌+◌, ◌*◌, ◌%◌, ◌<◌, ◌≤◌, ℤ, pos, max, unsigned_abs, List, fold, sum, slice_index}
use Rattle.samr_box.specs.declared.vector.Axis.{Axis}
use Rattle.samr_box.specs.declared.vector.Axis.TheVariants.{I, J, K}
use Rattle.samr_box.specs.declared.vector.IVec.{IVec}
use Rattle.samr_box.specs.Vector.{alike, AtMost, Between}
use Rattle.samr_ops.specs.declared.rules.CoarsenRule.{CoarsenRule}
use Rattle.samr_ops.specs.declared.rules.CoarsenRule.TheVariants.{First, Max, Sum}
use Rattle.samr_ops.specs.declared.rules.RefineRule.{RefineRule}
use Rattle.samr_ops.specs.declared.rules.RefineRule.TheVariants.{Same, Ramp}
use Rattle.samr_ops.specs.declared.rules.Rule.{Rule}
use Rattle.samr_ops.specs.declared.rules.Rule.TheVariants.{Fixed, Clamp, Reflect}
use Rattle.samr_ops.specs.declared.rules.Border.{Border}
use Rattle.samr_ops.specs.declared.rules.Edgewise.{Edgewise}
use Rattle.samr_ops.specs.declared.rules.Edgewise.TheVariants.{Value, Depth}
use Rattle.samr_ops.specs.declared.rules.Rules.{Rules}

-- the rule of an axis
abbrev pub rule_on : Axis → Border → Rule
rule_on I b = b.i
rule_on J b = b.j
rule_on K b = b.k

-- a value that a rule has is below the modulus
abbrev pub IsBelow : ℕ → Rule → Type 0
IsBelow modulus (Fixed v) = v < modulus
IsBelow modulus Clamp = Unit {0}
IsBelow modulus Reflect = Unit {0}

-- the ranges of a field's numbers
pub record IsRules (r : Rules) : Type 0 where
  pub some : 2 ≤ r.modulus
  pub most : r.modulus ≤ 2147483647
  pub positive : AtMost (alike (pos 0)) r.width
  pub narrow : AtMost r.width (alike (pos 1073741823))
  pub centre : r.centre ≤ 1000
  pub face : r.face ≤ 1000
  pub boundary : (axis : Axis) → IsBelow r.modulus (rule_on axis r.boundary)

-- the offset of a fine cell in its coarse cell
abbrev pub IsOffset : IVec → Type 0
IsOffset o = Between (alike (pos 0)) o (alike (pos 3))

-- the value of a fine cell, from that of its coarse cell
abbrev pub refined_by : RefineRule → ℕ → ℕ → IVec → ℕ
refined_by Same modulus v o = v
refined_by Ramp modulus v o = (v + unsigned_abs o.i + unsigned_abs o.j + unsigned_abs o.k) % modulus

abbrev pub refined_value : Rules → ℕ → IVec → ℕ
refined_value r v o = refined_by r.refine r.modulus v o

-- the value of a coarse cell, from those of its fine cells, the one with the lowest corner first
abbrev pub coarsened_value : CoarsenRule → ℕ → List ℕ → ℕ
coarsened_value First modulus children = slice_index children 0
coarsened_value Max modulus children = fold max 0 children
coarsened_value Sum modulus children = sum children % modulus

-- the value of a cell after a step, from its own and the sum of its neighbours'
abbrev pub updated_value : Rules → ℕ → ℕ → ℕ
updated_value r v neighbours = (r.centre * v + r.face * neighbours) % r.modulus

-- what stands at a depth beyond a border: one value, or the value of a cell at a depth inside
abbrev pub edge_by : Rule → ℤ → Edgewise
edge_by (Fixed v) depth = Value v
edge_by Clamp depth = Depth (pos 1)
edge_by Reflect depth = Depth depth

abbrev pub edge_of : Rules → Axis → ℤ → Edgewise
edge_of r axis depth = edge_by (rule_on axis r.boundary) depth
