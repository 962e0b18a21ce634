use Rattle.std.proofs.Common.{◌∙◌, sym}
use Rattle.toml.specs.View.{table_view}
use Rattle.samr_box.specs.Corners.{meets}
use Rattle.samr_problem.specs.Contexts.{corners_of, meets_any}
use Rattle.samr_problem.proofs.Steps.{any_found}
use Rattle.samr_problem.proofs.context.meets_any.Goals as goal

pub returns-then-meets_table : goal.returns-then-meets_table
unfolding meets_any
returns-then-meets_table c =
    sym (any_found (λ t. meets (corners_of c.args.dim t) (record { lo = c.args.lo; hi = c.args.hi })) (λ t. table_view t.now) c.args.earlier.now
    c.loop-table.table-index c.table-item.result c.loop-table-test.true c.table-item.is (sym c.meets_table.ensures ∙ c.if-meets_table.true))
