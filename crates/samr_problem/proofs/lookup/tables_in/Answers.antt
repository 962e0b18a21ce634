use Rattle.samr_problem.proofs.Items.{tables_more}
use Rattle.samr_problem.proofs.lookup.tables_in.Goals as goal

pub loop-item-preserved : goal.loop-item-preserved
loop-item-preserved c =
    tables_more c.args.items.now c.loop-item.item-index c.item-item.result _ _ c.loop-item-test.true c.item-item.is
    c.loop-item.invariant c.in_ok-push_table.ensures
