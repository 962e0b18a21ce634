use Rattle.std.proofs.Common.{◌≡◌, ◌&&◌, ◌||◌, take}
use Rattle.samr_box.specs.declared.vector.IVec.{IVec}
use Rattle.samr_box.specs.Corners.{holds}
use Rattle.samr_sign.specs.Fields.{tagged}
use Rattle.samr_tags.specs.Seeing.{marked_by}
use Rattle.samr_tags.proofs.marking.mark_list.Given as goal

abbrev pub invariant-loop-one : goal.invariant-loop-one
invariant-loop-one l =
    (l.field.bx ≡ l.fn.field.bx)
    × ((x : IVec) → tagged l.field x ≡ ((holds l.fn.field.bx x && marked_by l.fn.frame l.fn.buffer l.fn.a (take l.one-index l.list) x) || tagged l.fn.field x))
