use Rattle.std.proofs.Common.{◌≡◌, map, take}
use Rattle.toml.specs.View.{table_view}
use Rattle.samr_problem.specs.Contexts.{corners_of}
use Rattle.samr_problem.proofs.lists.parts_of.Given as goal

abbrev pub invariant-loop-table : goal.invariant-loop-table
invariant-loop-table l = l.parts.items ≡ map (corners_of l.dim) (map (λ t. table_view t.now) (take l.table-index l.tables))
