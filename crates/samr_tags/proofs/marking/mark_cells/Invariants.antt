use Rattle.std.proofs.Common.{◌≡◌, ◌&&◌, ◌||◌, take}
use Rattle.std.specs.List.{list_any}
use Rattle.samr_box.specs.declared.vector.IVec.{IVec}
use Rattle.samr_box.specs.Corners.{holds}
use Rattle.samr_sign.specs.Fields.{tagged}
use Rattle.samr_tags.specs.Seeing.{spread}
use Rattle.samr_tags.proofs.marking.mark_cells.Given as goal

abbrev pub invariant-loop-cell : goal.invariant-loop-cell
invariant-loop-cell l =
    (l.field.bx ≡ l.fn.field.bx)
    × ((x : IVec) → tagged l.field x ≡ ((holds l.fn.field.bx x && list_any (λ c. holds (spread l.fn.frame l.fn.buffer l.fn.s c) x) (take l.cell-index l.cells)) || tagged l.fn.field x))
