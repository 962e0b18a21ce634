use Rattle.std.proofs.Common.{◌≡◌, ◌++◌, get_or, map, [], None}
use Rattle.std.specs.List.{flat_map, range_with_len}
use Rattle.samr_report.specs.RankRows.{step_told, first_some, probe_line_by}
use Rattle.samr_report.proofs.step_text.put_field_probes.Given as goal

abbrev pub invariant-loop-number : goal.invariant-loop-number
invariant-loop-number l =
    l.out.items ≡ l.fn.out.items
    ++ flat_map (λ n. probe_line_by l.fn.field n (first_some (map (λ q. get_or (get_or q.probes l.fn.field []) n None) (map (λ q. step_told l.fn.step q) l.rows)))) (range_with_len 0 l.number)
