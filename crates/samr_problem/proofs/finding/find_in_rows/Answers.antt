use Rattle.toml.specs.View.{table_view}
use Rattle.samr_problem.specs.Findings.{shown_in}
use Rattle.samr_problem.specs.Slots.{slot}
use Rattle.samr_problem.proofs.Worst.{rows_step}
use Rattle.samr_problem.proofs.finding.find_in_rows.Goals as goal

pub loop-row-preserved : goal.loop-row-preserved
loop-row-preserved c =
    rows_step (slot (shown_in c.args.place) c.args.document.now c.args.own (table_view c.args.table.now)) _ _ _ _ _ _
    c.loop-row-test.true c.loop-row.invariant c.find_at.ensures c.or_worse-worst.ensures
