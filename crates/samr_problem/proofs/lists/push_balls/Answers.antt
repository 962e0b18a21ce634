use Rattle.samr_problem.specs.Fields.{ball_of}
use Rattle.samr_problem.proofs.TableViews.{tables_pushed}
use Rattle.samr_problem.proofs.lists.push_balls.Goals as goal

pub loop-table-preserved : goal.loop-table-preserved
loop-table-preserved c =
    tables_pushed (ball_of c.args.dim) c.args.tables.now c.loop-table.table-index _ _ _ _ _ c.loop-table-test.true c.table-item.is c.in_ok-push.ensures.items c.loop-table.invariant c.ball_of.ensures
