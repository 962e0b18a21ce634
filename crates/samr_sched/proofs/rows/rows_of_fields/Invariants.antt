use Rattle.std.proofs.Common.{◌≡◌, take}
use Rattle.std.specs.List.{flat_map, enumerate_from}
use Rattle.samr_sched.specs.PlanRows.{field_rows_by}
use Rattle.samr_sched.proofs.rows.rows_of_fields.Given as goal

abbrev pub invariant-loop-field : goal.invariant-loop-field
invariant-loop-field l =
    l.rows.items ≡ flat_map (λ f. field_rows_by l.frame l.below l.fn.step l.fn.base f.0 f.1) (enumerate_from 0 (take l.field l.fields))
