use Rattle.std.proofs.Common.{◌≡◌, ◌&&◌, ◌||◌, take}
use Rattle.std.specs.List.{list_any}
use Rattle.samr_box.specs.declared.vector.IVec.{IVec}
use Rattle.samr_box.specs.Corners.{holds}
use Rattle.samr_sign.specs.Fields.{tagged}
use Rattle.samr_trials_stages.proofs.clusters.mark_parts.Given as goal

abbrev pub invariant-loop-spot : goal.invariant-loop-spot
invariant-loop-spot l =
    (l.field.bx ≡ l.fn.field.bx)
    × ((x : IVec) → tagged l.field x ≡ ((holds l.fn.field.bx x && list_any (λ s. holds s x) (take l.spot-index l.spots)) || tagged l.fn.field x))
