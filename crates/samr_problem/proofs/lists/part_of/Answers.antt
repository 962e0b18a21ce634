use Rattle.toml.specs.View.{table_view}
use Rattle.samr_problem.specs.Contexts.{corners_of}
use Rattle.samr_problem.proofs.Ranged.{box_true}
use Rattle.samr_problem.proofs.lists.part_of.Goals as goal

pub invariant_of-result : goal.invariant_of-result
unfolding corners_of
invariant_of-result c = rw (c.vector_at.ensures, c.vector_at-2.ensures) (box_true (corners_of c.args.dim (table_view c.args.table.now)) c.requires)
