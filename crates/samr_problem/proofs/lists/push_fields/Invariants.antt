use Rattle.std.proofs.Common.{◌≡◌, ◌++◌, map, take}
use Rattle.toml.specs.View.{table_view}
use Rattle.samr_problem.specs.Fields.{field_of}
use Rattle.samr_problem.proofs.lists.push_fields.Given as goal

abbrev pub invariant-loop-table : goal.invariant-loop-table
invariant-loop-table l = l.fields.items ≡ l.fn.fields.items ++ map (field_of l.dim) (map (λ t. table_view t.now) (take l.table-index l.tables))
