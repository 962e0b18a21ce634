use Rattle.std.proofs.Common.{◌≡◌, take}
use Rattle.std.specs.Prelude.{sum_by}
use Rattle.samr_box.specs.Corners.{cells_of}
use Rattle.samr_sched.specs.PlanRows.{capped}
use Rattle.samr_sched.proofs.rows.all_cells.Given as goal

abbrev pub invariant-loop-p : goal.invariant-loop-p
invariant-loop-p l = l.cells ≡ capped (sum_by (λ p. cells_of p) (take l.p-index l.boxes))
