-- What a rank has before a linear fill, and after it.
use Rattle.std.specs.Prelude.{◌≡◌, ℕ, ◌<◌, List, [], ◌∷◌, map, Some, slice_get}
use Rattle.samr_level.specs.Levels.{own}
use Rattle.samr_data.specs.Grids.{Grid, grid_of}
use Rattle.samr_ops.specs.declared.rules.Rules.{Rules}
use Rattle.samr_sched.specs.declared.plan.Plan.{Plan}
use Rattle.samr_sched.specs.Plans.{plan_of}
use Rattle.samr_fill.specs.FillParts.{HasValues}
use Rattle.samr_linear.specs.declared.linear.Linear.{Linear}
use Rattle.samr_linear.specs.LinearFill.{LinearFilling, IsLinearFilling, value_of}

-- the patches after a linear fill: each cell of each grown box has its value
abbrev pub linear_filled : LinearFilling → ℕ → List Grid
linear_filled w r = map (λ b. grid_of b.bx w.rules.width (value_of w)) (own r w.filling.schedule.level)

-- the patches of the level below, each cell of each grown box with its value
abbrev pub patches_below : LinearFilling → ℕ → List Grid
patches_below w r = map (λ b. grid_of b.bx w.rules.width w.below) (own r w.filling.schedule.coarser)

-- what a rank has at first
pub record HasPatches (rank ranks : ℕ) (plan : Plan) (patches coarser : List Grid) (rules : Rules) (stencil : Linear) (w : LinearFilling) (r : ℕ) : Type 0 where
  pub is : IsLinearFilling w
  pub same_rank : rank ≡ r
  pub same_ranks : ranks ≡ w.filling.schedule.ranks
  pub within : r < w.filling.schedule.ranks
  pub same_plan : plan ≡ plan_of w.filling.schedule r
  pub same_rules : rules ≡ w.rules
  pub same_stencil : stencil ≡ w.stencil
  pub same_values : HasValues w.filling.values (own r w.filling.schedule.level) (patches ∷ [])
  pub widths : (place : ℕ) (p : Grid) → slice_get patches place ≡ Some p → p.width ≡ w.rules.width
  pub same_coarser : coarser ≡ patches_below w r
