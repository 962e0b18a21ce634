use Rattle.std.proofs.Common.{◌≡◌, ◌≤◌, ℕ, map, take}
use Rattle.samr_level.specs.Levels.{own}
use Rattle.samr_data.specs.Grids.{grid_of}
use Rattle.samr_fill.specs.Fill.{Filling, value_of}
use Rattle.samr_fill.specs.FilledSoFar.{IsField}
use Rattle.samr_fill.proofs.filling.fill_field.Given as goal

abbrev pub invariant-loop-place : goal.invariant-loop-place
invariant-loop-place g l =
    (l.place ≤ l.place-end)
    × ((w : Filling) (r : ℕ) → IsField l.plan l.parcels l.fn.field l.strategy l.patches w r
    → l.filled.items ≡ map (λ b. grid_of b.bx l.strategy.width (value_of w (l.fn.field, l.strategy))) (take l.place (own r w.schedule.level)))
