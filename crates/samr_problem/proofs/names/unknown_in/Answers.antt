use Rattle.std.proofs.Common.{◌∙◌, ap, map}
use Rattle.samr_problem.specs.Keys.{key_of}
use Rattle.samr_problem.specs.Refusals.{first}
use Rattle.samr_problem.proofs.UnknownNames.{unknown_found}
use Rattle.samr_problem.proofs.names.unknown_in.Goals as goal

pub returns : goal.returns
returns c =
    c.find_unknown.ensures
    ∙ ap first (unknown_found c.args.list.now (map key_of c.args.rows.now) c.args.tables.now c.args.number _ c.requires c.index-tables-number.is)
