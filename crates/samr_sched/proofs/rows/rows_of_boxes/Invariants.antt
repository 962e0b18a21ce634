use Rattle.std.proofs.Common.{◌≡◌, take}
use Rattle.std.specs.List.{flat_map}
use Rattle.samr_sched.specs.PlanRows.{box_rows_by}
use Rattle.samr_sched.proofs.rows.rows_of_boxes.Given as goal

abbrev pub invariant-loop-b : goal.invariant-loop-b
invariant-loop-b l = l.rows.items ≡ flat_map (λ b. box_rows_by l.frame l.below l.fn.step b) (take l.b-index l.boxes)
