use Rattle.std.proofs.Common.{◌≡◌, ◌++◌, take, get_or, []}
use Rattle.std.specs.List.{flat_map}
use Rattle.samr_report.specs.RankRows.{step_told, sum_line_by}
use Rattle.samr_report.proofs.step_text.put_level_sums.Given as goal

abbrev pub invariant-loop-q : goal.invariant-loop-q
invariant-loop-q l =
    l.out.items ≡ l.fn.out.items
    ++ flat_map (λ q. flat_map (λ s. sum_line_by l.fn.field l.fn.level s) (get_or (get_or (step_told l.fn.step q).sums l.fn.field []) l.fn.level [])) (take l.q-index l.rows)
