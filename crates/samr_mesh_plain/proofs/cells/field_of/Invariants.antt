use Rattle.std.proofs.Common.{◌≡◌, take}
use Rattle.std.specs.List.{list_any}
use Rattle.samr_box.specs.declared.vector.IVec.{IVec}
use Rattle.samr_box.specs.Corners.{holds}
use Rattle.samr_sign.specs.Fields.{tagged}
use Rattle.samr_mesh_plain.specs.Making.{one_cell}
use Rattle.samr_mesh_plain.proofs.cells.field_of.Given as goal

abbrev pub invariant-loop-x : goal.invariant-loop-x
invariant-loop-x l = (l.field.bx ≡ l.fn.b) × ((y : IVec) → tagged l.field y ≡ list_any (λ x. holds (one_cell x) y) (take l.x-index l.cells))
