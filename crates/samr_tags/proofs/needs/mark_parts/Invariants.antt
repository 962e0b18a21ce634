use Rattle.std.proofs.Common.{◌≡◌, ◌&&◌, ◌||◌, take}
use Rattle.std.specs.List.{list_any}
use Rattle.samr_box.specs.declared.vector.IVec.{IVec}
use Rattle.samr_box.specs.Corners.{holds}
use Rattle.samr_sign.specs.Fields.{tagged}
use Rattle.samr_tags.proofs.needs.mark_parts.Given as goal

abbrev pub invariant-loop-b : goal.invariant-loop-b
invariant-loop-b l =
    (l.field.bx ≡ l.fn.field.bx)
    × ((x : IVec) → tagged l.field x ≡ ((holds l.fn.field.bx x && list_any (λ b. holds b x) (take l.b-index l.boxes)) || tagged l.fn.field x))
