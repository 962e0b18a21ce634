use Rattle.std.proofs.Common.{◌≡◌, map, option_map}
use Rattle.std.specs.List.{flat_map, range_with_len}
use Rattle.toml.specs.View.{table_view}
use Rattle.samr_problem.specs.Findings.{found_of, least}
use Rattle.samr_problem.specs.Keys.{key_of}
use Rattle.samr_problem.specs.Slots.{table_slots}
use Rattle.samr_problem.proofs.walk.find_in_tables.Given as goal

abbrev pub invariant-loop-number : goal.invariant-loop-number
invariant-loop-number l =
    option_map found_of l.worst
    ≡ least (flat_map (table_slots l.document l.list (map key_of l.rows) (map (λ t. table_view t.now) l.tables)) (range_with_len 0 l.number))
