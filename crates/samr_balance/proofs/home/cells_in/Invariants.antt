use Rattle.std.proofs.Common.{◌≡◌, take}
use Rattle.std.specs.Prelude.{sum_by}
use Rattle.samr_box.specs.Corners.{cells_of}
use Rattle.samr_balance.proofs.home.cells_in.Given as goal

abbrev pub invariant-loop-old : goal.invariant-loop-old
invariant-loop-old l = l.sum ≡ sum_by (λ o. cells_of o.bx) (take l.old-index l.boxes)
