use Rattle.std.proofs.Common.{◌≡◌, map, take, option_map}
use Rattle.toml.specs.View.{table_view}
use Rattle.samr_problem.specs.Findings.{found_of, least, shown_in}
use Rattle.samr_problem.specs.Keys.{key_of}
use Rattle.samr_problem.specs.Slots.{slot}
use Rattle.samr_problem.proofs.finding.find_in_rows.Given as goal

abbrev pub invariant-loop-row : goal.invariant-loop-row
invariant-loop-row l =
    option_map found_of l.worst
    ≡ least (map (slot (shown_in l.fn.place) l.document l.fn.own (table_view l.table)) (map key_of (take l.row-index l.rows)))
