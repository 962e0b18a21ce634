use Rattle.std.proofs.Common.{◌≡◌, false, map, take}
use Rattle.std.specs.List.{list_any}
use Rattle.toml.specs.View.{table_view}
use Rattle.samr_box.specs.Corners.{meets}
use Rattle.samr_problem.specs.Contexts.{corners_of}
use Rattle.samr_problem.proofs.context.meets_any.Given as goal

abbrev pub invariant-loop-table : goal.invariant-loop-table
invariant-loop-table l =
    list_any (λ t. meets (corners_of l.dim t) (record { lo = l.lo; hi = l.hi })) (map (λ t. table_view t.now) (take l.table-index l.earlier)) ≡ false
