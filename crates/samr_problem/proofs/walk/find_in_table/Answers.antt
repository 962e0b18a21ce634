use Rattle.std.proofs.Common.{◌∙◌, ap, map}
use Rattle.samr_problem.specs.Findings.{least}
use Rattle.samr_problem.specs.Keys.{key_of}
use Rattle.samr_problem.proofs.TableViews.{table_found}
use Rattle.samr_problem.proofs.walk.find_in_table.Goals as goal

pub returns : goal.returns
returns c =
    c.find_in_rows.ensures
    ∙ ap least (table_found c.args.document.now c.args.list.now (map key_of c.args.rows.now) c.args.tables.now c.args.number _ _ c.requires c.index-tables-number.is c.own_of-own.ensures)
