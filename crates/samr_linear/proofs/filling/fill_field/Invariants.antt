use Rattle.std.proofs.Common.{◌≡◌, ◌≤◌, ℕ, map, take}
use Rattle.samr_level.specs.Levels.{own}
use Rattle.samr_data.specs.Grids.{grid_of}
use Rattle.samr_linear.specs.LinearFill.{LinearFilling, value_of}
use Rattle.samr_linear.specs.FilledSoFar.{IsField}
use Rattle.samr_linear.proofs.filling.fill_field.Given as goal

abbrev pub invariant-loop-place : goal.invariant-loop-place
invariant-loop-place g l =
    (l.place ≤ l.place-end)
    × ((w : LinearFilling) (r : ℕ) → IsField l.plan l.parcels l.strategy l.stencil l.patches w r
    → l.filled.items ≡ map (λ b. grid_of b.bx w.rules.width (value_of w)) (take l.place (own r w.filling.schedule.level)))
