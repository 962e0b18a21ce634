use Rattle.std.proofs.Common.{map}
use Rattle.toml.specs.View.{table_view}
use Rattle.samr_problem.specs.Keys.{key_of}
use Rattle.samr_problem.specs.Slots.{table_slots}
use Rattle.samr_problem.proofs.Worst.{tables_step}
use Rattle.samr_problem.proofs.walk.find_in_tables.Goals as goal

pub loop-number-preserved : goal.loop-number-preserved
loop-number-preserved c =
    tables_step (table_slots c.args.document.now c.args.list.now (map key_of c.args.rows.now) (map (λ t. table_view t.now) c.args.tables.now)) c.loop-number.number _ _ _
    c.loop-number.invariant c.find_in_table.ensures c.or_worse-worst.ensures
