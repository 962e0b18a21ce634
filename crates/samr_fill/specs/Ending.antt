-- The last pass over a patch: cells beyond the borders.
use Rattle.std.specs.Prelude.{◌≡◌, ℕ, Bool, true, false, nat_lt, List, length, slice_index, Result, Ok, Err, if◌then◌else◌}
use Rattle.samr_box.specs.declared.vector.IVec.{IVec}
use Rattle.samr_box.specs.Corners.{Corners, Holds}
use Rattle.samr_boxlist.specs.Covers.{held}
use Rattle.samr_data.specs.Grids.{Grid, over, value_at}
use Rattle.samr_ops.specs.declared.rules.Rules.{Rules}
use Rattle.samr_ops.specs.Walks.{walked, IsNear}
use Rattle.samr_sched.specs.declared.plan.Plan.{Plan}

-- the value where a walk ends, in a patch
abbrev pub walk_in : Grid → Result IVec ℕ → ℕ
walk_in p (Err v) = v
walk_in p (Ok y) = value_at p y

-- a cell in the domain keeps its value; beyond the borders it gets the fixed one of a domain of parts, else what its walk gives
unfoldable pub ended_at : Plan → List Corners → ℕ → Rules → Grid → IVec → ℕ
ended_at plan inside field r p x =
    if held x inside then value_at p x
    else (if nat_lt 0 (length plan.fixed) then slice_index plan.fixed field else walk_in p (walked r plan.frame x))

-- the walk of a cell of the patch beyond the borders is known, and ends in the patch
pub record CanEnd (plan : Plan) (r : Rules) (p : Grid) (x : IVec) : Type 0 where
  pub here : Holds (over p) x
  pub near : IsNear r plan.frame x
  pub there : (y : IVec) → walked r plan.frame x ≡ Ok y → Holds (over p) y
