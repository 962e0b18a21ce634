-- Laws of the operators: where a walk ends, and that values stay below the modulus.
use Rattle.std.specs.Prelude.{◌≡◌, ℕ, ◌<◌, ◌≤◌, pos, Ok, Err, List, ◌∷◌, All, true, false}
use Rattle.samr_box.specs.declared.vector.Axis.{Axis}
use Rattle.samr_box.specs.declared.vector.IVec.{IVec}
use Rattle.samr_box.specs.Vector.{at, put, AtMost}
use Rattle.samr_box.specs.Corners.{Holds, grown}
use Rattle.samr_box.specs.Space.{Space, IsSpace, whole, leaves, is_outside, clamped, mirrored}
use Rattle.samr_box.specs.Lists.{Member}
use Rattle.samr_ops.specs.declared.rules.Rules.{Rules}
use Rattle.samr_ops.specs.declared.rules.CoarsenRule.{CoarsenRule}
use Rattle.samr_ops.specs.declared.rules.CoarsenRule.TheVariants.{Max}
use Rattle.samr_ops.specs.Rules.{IsRules, refined_value, coarsened_value, updated_value}
use Rattle.samr_ops.specs.Walks.{depth, moved_in, stepped, walked, IsNear}

-- a cell of the domain grown by the width is near it
abbrev pub GrownCellsAreNear : Type 0
GrownCellsAreNear = (r : Rules) (d : Space) (x : IVec) → Holds (grown (whole d) r.width) x → IsNear r d x

-- no step of a walk leads beyond the width
abbrev pub WalksStayNear : Type 0
WalksStayNear = (r : Rules) (d : Space) (axis : Axis) (x y : IVec) → IsSpace d → IsNear r d x → stepped r d axis x ≡ Ok y → IsNear r d y

-- where the width is at most the domain's length, a cell that a walk leaves lies inside all physical borders
abbrev pub WalksEndInside : Type 0
WalksEndInside = (r : Rules) (d : Space) (x y : IVec) → IsSpace d → IsNear r d x → AtMost r.width d.size → walked r d x ≡ Ok y → is_outside d y ≡ false

-- a cell inside all physical borders stays where it is
abbrev pub WalksStayInside : Type 0
WalksStayInside = (r : Rules) (d : Space) (x : IVec) → is_outside d x ≡ false → walked r d x ≡ Ok x

-- a fixed value that a walk ends with is below the modulus
abbrev pub FixedValuesFit : Type 0
FixedValuesFit = (r : Rules) (d : Space) (x : IVec) (v : ℕ) → IsRules r → walked r d x ≡ Err v → v < r.modulus

-- the operators of values below the modulus give such values
abbrev pub RefinedValuesFit : Type 0
RefinedValuesFit = (r : Rules) (v : ℕ) (o : IVec) → IsRules r → v < r.modulus → refined_value r v o < r.modulus

abbrev pub UpdatedValuesFit : Type 0
UpdatedValuesFit = (r : Rules) (v neighbours : ℕ) → IsRules r → updated_value r v neighbours < r.modulus

abbrev pub CoarsenedValuesFit : Type 0
CoarsenedValuesFit = (rule : CoarsenRule) (modulus : ℕ) (children : List ℕ) → 0 < modulus → All (λ v. v < modulus) children → coarsened_value rule modulus children < modulus

-- clamp moves a cell to the nearest one of the axis, and reflect to its mirror image
abbrev pub ClampMovesToTheNearest : Type 0
ClampMovesToTheNearest = (axis : Axis) (d : Space) (x : IVec) → IsSpace d → leaves axis d x ≡ true → moved_in axis d x (pos 1) ≡ put axis x (clamped (at axis d.size) (at axis x))

abbrev pub ReflectMirrors : Type 0
ReflectMirrors = (axis : Axis) (d : Space) (x : IVec) → IsSpace d → leaves axis d x ≡ true → moved_in axis d x (depth axis d x) ≡ put axis x (mirrored (at axis d.size) (at axis x))

-- a value of a list that no value of it passes
pub record IsGreatest (n : ℕ) (values : List ℕ) : Type 0 where
  pub most : (v : ℕ) → Member v values → v ≤ n
  pub reached : Member n values

abbrev pub MaxIsTheGreatest : Type 0
MaxIsTheGreatest = (modulus first : ℕ) (rest : List ℕ) → IsGreatest (coarsened_value Max modulus (first ∷ rest)) (first ∷ rest)
