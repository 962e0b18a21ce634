use Rattle.std.proofs.Common.{◌≡◌, take, filter}
use Rattle.samr_sched.specs.PlanRows.{has_cells}
use Rattle.samr_sched.proofs.rows.with_cells.Given as goal

abbrev pub invariant-loop-row : goal.invariant-loop-row
invariant-loop-row l = l.kept.items ≡ filter (λ row. has_cells row) (take l.row-index l.rows)
