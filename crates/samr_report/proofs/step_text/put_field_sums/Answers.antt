use Rattle.std.proofs.Common.{get_or, map, []}
use Rattle.std.specs.List.{flat_map}
use Rattle.samr_report.specs.RankRows.{step_told, sum_line_by}
use Rattle.samr_report.proofs.Ranges.{one_more_appended}
use Rattle.samr_report.proofs.step_text.put_field_sums.Goals as goal

pub loop-level-preserved : goal.loop-level-preserved
loop-level-preserved c =
    one_more_appended (λ n. flat_map (λ q. flat_map (λ s. sum_line_by c.args.field n s) (get_or (get_or q.sums c.args.field []) n [])) (map (λ q. step_told c.args.step q) c.args.rows.now))
    _ _ _ _ c.in_ok-put_level_sums.ensures c.loop-level.invariant
