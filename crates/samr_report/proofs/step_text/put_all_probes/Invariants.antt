use Rattle.std.proofs.Common.{◌≡◌, ◌++◌, get_or, map, [], None}
use Rattle.std.specs.List.{flat_map, range_with_len, enumerate_from}
use Rattle.samr_report.specs.RankRows.{step_told, first_some, probe_line_by}
use Rattle.samr_report.proofs.step_text.put_all_probes.Given as goal

abbrev pub invariant-loop-field : goal.invariant-loop-field
invariant-loop-field l =
    l.out.items ≡ l.fn.out.items
    ++ flat_map (λ f. flat_map (λ e. probe_line_by f e.0 (first_some (map (λ q. get_or (get_or q.probes f []) e.0 None) (map (λ q. step_told l.fn.step q) l.rows)))) (enumerate_from 0 l.problem.probes))
    (range_with_len 0 l.field)
