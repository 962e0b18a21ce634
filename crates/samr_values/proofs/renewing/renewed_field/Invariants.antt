use Rattle.std.proofs.Common.{◌≡◌, ℕ, map, take, cond}
use Rattle.samr_box.specs.declared.vector.IVec.{IVec}
use Rattle.samr_box.specs.Corners.{Corners, holds}
use Rattle.samr_box.specs.Lists.{Member}
use Rattle.samr_data.specs.Grids.{grid_of}
use Rattle.samr_values.specs.Parcels.{Tells}
use Rattle.samr_values.proofs.renewing.renewed_field.Given as goal

abbrev pub invariant-loop-b : goal.invariant-loop-b
invariant-loop-b g l =
    (value : IVec → ℕ) → ((b : Corners) → Member b l.boxes → Tells l.field l.fn.step l.strategy b l.parcels value)
    → l.patches.items ≡ map (λ b. grid_of b l.strategy.width (λ x. cond (holds b x) (value x) 0)) (take l.b-index l.boxes)
