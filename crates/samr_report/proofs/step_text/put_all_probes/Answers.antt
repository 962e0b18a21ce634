use Rattle.std.proofs.Common.{get_or, map, [], None}
use Rattle.std.specs.List.{flat_map, enumerate_from}
use Rattle.samr_report.specs.RankRows.{step_told, first_some, probe_line_by}
use Rattle.samr_report.proofs.Ranges.{one_more_appended}
use Rattle.samr_report.proofs.step_text.put_all_probes.Goals as goal

pub loop-field-preserved : goal.loop-field-preserved
loop-field-preserved c =
    one_more_appended
    (λ f. flat_map (λ e. probe_line_by f e.0 (first_some (map (λ q. get_or (get_or q.probes f []) e.0 None) (map (λ q. step_told c.args.step q) c.args.rows.now)))) (enumerate_from 0 c.args.problem.now.probes))
    _ _ _ _ c.in_ok-put_field_probes.ensures c.loop-field.invariant
