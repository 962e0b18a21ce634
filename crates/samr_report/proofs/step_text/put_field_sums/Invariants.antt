use Rattle.std.proofs.Common.{◌≡◌, ◌++◌, get_or, map, []}
use Rattle.std.specs.List.{flat_map, range_with_len}
use Rattle.samr_report.specs.RankRows.{step_told, sum_line_by}
use Rattle.samr_report.proofs.step_text.put_field_sums.Given as goal

abbrev pub invariant-loop-level : goal.invariant-loop-level
invariant-loop-level l =
    l.out.items ≡ l.fn.out.items
    ++ flat_map (λ n. flat_map (λ q. flat_map (λ s. sum_line_by l.fn.field n s) (get_or (get_or q.sums l.fn.field []) n [])) (map (λ q. step_told l.fn.step q) l.rows)) (range_with_len 0 l.level)
