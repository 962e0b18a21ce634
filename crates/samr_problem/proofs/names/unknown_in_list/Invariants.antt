use Rattle.std.proofs.Common.{◌≡◌, map, option_map}
use Rattle.std.specs.List.{flat_map, range_with_len}
use Rattle.toml.specs.View.{table_view}
use Rattle.samr_problem.specs.Faults.{unknown_in}
use Rattle.samr_problem.specs.Findings.{unknown_text}
use Rattle.samr_problem.specs.Keys.{key_of}
use Rattle.samr_problem.specs.Refusals.{first}
use Rattle.samr_problem.proofs.names.unknown_in_list.Given as goal

abbrev pub invariant-loop-number : goal.invariant-loop-number
invariant-loop-number l =
    option_map unknown_text l.found
    ≡ first (flat_map (unknown_in l.list (map key_of l.rows) (map (λ t. table_view t.now) l.tables)) (range_with_len 0 l.number))
