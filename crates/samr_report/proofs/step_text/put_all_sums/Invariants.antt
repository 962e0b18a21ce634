use Rattle.std.proofs.Common.{◌≡◌, ◌++◌, get_or, map, []}
use Rattle.std.specs.List.{flat_map, range_with_len}
use Rattle.samr_report.specs.RankRows.{step_told, level_count, sum_line_by}
use Rattle.samr_report.proofs.step_text.put_all_sums.Given as goal

abbrev pub invariant-loop-field : goal.invariant-loop-field
invariant-loop-field l =
    l.out.items ≡ l.fn.out.items
    ++ flat_map (λ f. flat_map (λ n. flat_map (λ q. flat_map (λ s. sum_line_by f n s) (get_or (get_or q.sums f []) n [])) (map (λ q. step_told l.fn.step q) l.rows)) (range_with_len 0 (level_count (map (λ q. step_told l.fn.step q) l.rows))))
    (range_with_len 0 l.field)
