use Rattle.std.proofs.Common.{map}
use Rattle.toml.specs.View.{table_view}
use Rattle.samr_problem.specs.Faults.{unknown_in}
use Rattle.samr_problem.specs.Keys.{key_of}
use Rattle.samr_problem.proofs.UnknownNames.{names_step}
use Rattle.samr_problem.proofs.names.unknown_in_list.Goals as goal

pub loop-number-preserved : goal.loop-number-preserved
loop-number-preserved c =
    names_step (unknown_in c.args.list.now (map key_of c.args.rows.now) (map (λ t. table_view t.now) c.args.tables.now)) c.loop-number.number _ _ _
    c.loop-number.invariant c.unknown_in.ensures c.or_else-found.ensures
