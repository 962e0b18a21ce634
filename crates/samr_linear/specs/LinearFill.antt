-- The whole of a linear fill: the fill of one field, and what the level below has, its ghost cells too.
use Rattle.std.specs.Prelude.{◌≡◌, ℕ, [], ◌∷◌}
use Rattle.samr_box.specs.declared.vector.IVec.{IVec}
use Rattle.samr_box.specs.Vector.{AtMost}
use Rattle.samr_box.specs.Lists.{Member}
use Rattle.samr_level.specs.Refs.{Owned}
use Rattle.samr_level.specs.Levels.{IsCellIn}
use Rattle.samr_ops.specs.declared.rules.Rules.{Rules}
use Rattle.samr_fill.specs.Fill.{Filling, IsFilling}
use Rattle.samr_linear.specs.declared.linear.Linear.{Linear}
use Rattle.samr_linear.specs.LinVal.{linear_value}
use Rattle.samr_linear.specs.Around.{one_around}

-- a fill, the rules of its field, how that is refined, and the values of the level below with its ghost cells
pub record LinearFilling : Type 0 where
  pub filling : Filling
  pub rules : Rules
  pub stencil : Linear
  pub below : IVec → ℕ

-- the value of a cell about the level
abbrev pub value_of : LinearFilling → IVec → ℕ
value_of w = linear_value w.filling w.rules w.stencil w.below

-- the fill is of one field, refined by its modulus and the ratio to the level below, which keeps its values and has a ghost cell on each real axis
pub record IsLinearFilling (w : LinearFilling) : Type 0 where
  pub is : IsFilling w.filling
  pub one : w.filling.rules ≡ w.rules ∷ []
  pub modulus : w.stencil.modulus ≡ w.rules.modulus
  pub ratio : w.filling.schedule.step ≡ w.stencil.ratio
  pub keeps : (x : IVec) → IsCellIn w.filling.schedule.coarser x → w.below x ≡ w.filling.coarse_values 0 x
  pub wide : (b : Owned) → Member b w.filling.schedule.coarser → AtMost (one_around w.stencil.real) w.rules.width
