use Rattle.std.proofs.Common.{[]}
use Rattle.samr_problem.specs.Contexts.{corners_of}
use Rattle.samr_problem.specs.Fields.{is_box}
use Rattle.samr_problem.proofs.Ranged.{made_at}
use Rattle.samr_problem.proofs.TableViews.{tables_pushed}
use Rattle.samr_problem.proofs.lists.parts_of.Goals as goal

pub part_of-requires : goal.part_of-requires
part_of-requires c =
    made_at is_box (corners_of c.args.dim) c.args.tables.now c.loop-table.table-index c.table-item.result c.requires c.loop-table-test.true c.table-item.is

pub loop-table-preserved : goal.loop-table-preserved
loop-table-preserved c =
    tables_pushed (corners_of c.args.dim) c.args.tables.now c.loop-table.table-index _ [] _ _ _ c.loop-table-test.true c.table-item.is c.in_ok-push.ensures.items c.loop-table.invariant c.part_of.ensures
