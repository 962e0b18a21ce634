use Rattle.std.proofs.Common.{get_or, map, []}
use Rattle.std.specs.List.{flat_map, range_with_len}
use Rattle.samr_report.specs.RankRows.{step_told, level_count, sum_line_by}
use Rattle.samr_report.proofs.Ranges.{one_more_appended}
use Rattle.samr_report.proofs.step_text.put_all_sums.Goals as goal

pub loop-field-preserved : goal.loop-field-preserved
loop-field-preserved c =
    one_more_appended
    (λ f. flat_map (λ n. flat_map (λ q. flat_map (λ s. sum_line_by f n s) (get_or (get_or q.sums f []) n [])) (map (λ q. step_told c.args.step q) c.args.rows.now)) (range_with_len 0 (level_count (map (λ q. step_told c.args.step q) c.args.rows.now))))
    _ _ _ _ c.in_ok-put_field_sums.ensures c.loop-field.invariant
